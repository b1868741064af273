use Rattle.std.proofs.{Common.◌≡◌, Common.◌-◌, Common.drop, Common.length, Common.refl, Common.arith, lemmas.Grind.common_steps}
use Rattle.csicodec_lines.proofs.{Written.appends_none, Written.left_is, Written.left_within, Places.takes, Common.Finder, Common.Finds}
use Rattle.csicodec_lines.proofs.finder.FinderTransform.take.Goals as goal

pub returns-in_default-clause-passes : goal.returns-in_default-clause-passes
returns-in_default-clause-passes c =
    let (same, unsure) = rw c.in_default.is at c.in_ok-all.ensures.all in
    let old = c.args.self.now in
    let new : Finder = record { search = old.search; titled = old.titled; waiting = c.add.new.self } in
    takes old new c.args.bytes.now _ _ (rw same unsure) (rw same (appends_none Finds _ c.args.out.now.items))

pub overflow_sub-used : goal.overflow_sub-used
overflow_sub-used c =
    let within = left_within Finds _ _ _ _ c.in_ok-rest.ensures.found in
    grind (arith, common_steps, c.deref.ensures.value, c.len.ensures, within)

pub keep-requires-clause-unsure : goal.keep-requires-clause-unsure
keep-requires-clause-unsure c =
    let (taken, whole) = rw c.in-Some.is at c.in_ok-all.ensures.all in
    let rest = c.in_ok-rest.rest.now in
    let kept = left_is Finds _ _ _ _ c.in_ok-rest.ensures.found in
    let same : drop (c.len.result - length rest) c.in-Some.all.items ≡ rest = grind (arith, common_steps, c.deref.ensures.value, c.len.ensures, kept) in
    rw (same, taken, c.requires) c.in_ok-rest.ensures.unsure

pub returns-clause-passes : goal.returns-clause-passes
returns-clause-passes c =
    let (taken, whole) = rw c.in-Some.is at c.in_ok-all.ensures.all in
    let rest = c.in_ok-rest.rest.now in
    let kept = left_is Finds _ _ _ _ c.in_ok-rest.ensures.found in
    let same : c.keep.new.self.bytes ≡ rest = grind (arith, common_steps, c.keep.ensures, c.deref.ensures.value, c.len.ensures, kept) in
    let mode : c.keep.new.self.mode ≡ c.in_ok-rest.mode = rw c.keep.ensures refl in
    let limit : c.keep.new.self.limit ≡ c.args.self.now.waiting.limit = rw (c.keep.ensures, taken) refl in
    let new : Finder = record { search = c.append_places.new.search; titled = c.append_places.new.titled; waiting = c.keep.new.self } in
    takes c.args.self.now new c.args.bytes.now _ _ (rw (same, mode, c.requires) c.in_ok-rest.ensures.unsure)
    (rw (limit, same, mode, c.requires) (rw (c.mode.ensures.is, taken, c.deref.ensures.value, whole) at c.in_ok-rest.ensures.found))
