use Rattle.std.proofs.Common.{◌≡◌, ◌≤◌, [], ap, length-append, ◌-◌, refl, sym, drop, length, append-nil, arith}
use Rattle.csicodec_clean.proofs.{Common.common_steps, Common.rest_is, Common.longest, Common.state_of, Common.with_more, Chunks.unsure_few, Chunks.goes_none}
use Rattle.csicodec_clean.proofs.{Chunks.to_split}
use Rattle.csicodec_clean.proofs.cleaner.Cleaner.push.Goals as goal

pub returns-in_default : goal.returns-in_default
returns-in_default g c =
    let (same, unsure) = rw (c.self.invariant, c.in_default.is) at c.in_ok-all.ensures.all in
    let now = c.self.inside in
    let old = state_of now.rule now.waiting.mode now.reading now.waiting.bytes now.held.items in
    rw (← c.self.view_is, same) (record {
      takes = ([], record { unsure = unsure; goes = goes_none g.R.Rule.gives longest (with_more old c.args.bytes.now) }, sym (append-nil c.args.out.now.items));
      held = λ few. few;
      pending = unsure_few now.waiting.mode _ unsure;
    })

pub overflow_sub-used : goal.overflow_sub-used
overflow_sub-used g c =
    let (front, split) = to_split g.R.Rule.gives longest _ _ _ _ c.in_ok-rest.ensures.goes in
    let within : length c.in_ok-rest.rest.now ≤ length c.deref.result.now = omega (arith, ap length split, length-append front c.in_ok-rest.rest.now) in
    grind (arith, common_steps, c.deref.ensures.value, c.len.ensures, within)

pub keep-requires-clause-unsure : goal.keep-requires-clause-unsure
keep-requires-clause-unsure g c =
    let (taken, whole) = rw c.in-Some.is at c.in_ok-all.ensures.all in
    let rest = c.in_ok-rest.rest.now in
    let (front, split) = to_split g.R.Rule.gives longest _ _ _ _ c.in_ok-rest.ensures.goes in
    let kept = rest_is c.deref.result.now front rest split in
    let same : drop (c.len.result - length rest) c.in-Some.all.items ≡ rest = grind (arith, common_steps, c.deref.ensures.value, c.len.ensures, kept) in
    rw (same, taken, c.self.invariant) c.in_ok-rest.ensures.unsure

pub returns : goal.returns
returns g c =
    let (taken, whole) = rw c.in-Some.is at c.in_ok-all.ensures.all in
    let (text, out, goes, ahead, last) = c.in_ok-rest.ensures.goes in
    let rest = c.in_ok-rest.rest.now in
    let (front, split) = to_split g.R.Rule.gives longest _ _ _ _ c.in_ok-rest.ensures.goes in
    let kept = rest_is c.deref.result.now front rest split in
    let same : c.keep.new.self.bytes ≡ rest = grind (arith, common_steps, c.keep.ensures, c.deref.ensures.value, c.len.ensures, kept) in
    let mode : c.keep.new.self.mode ≡ c.in_ok-rest.mode = rw c.keep.ensures refl in
    rw (← c.self.view_is, same, mode) (record {
      takes = (text, record { unsure = c.in_ok-rest.ensures.unsure; goes = rw (c.mode.ensures.is, taken, c.deref.ensures.value, whole) at goes }, out);
      held = c.in_ok-rest.ensures.short;
      pending = unsure_few c.in_ok-rest.mode rest c.in_ok-rest.ensures.unsure;
    })
