use Rattle.csicodec_overwrite.proofs.Common.{◌≡◌, ◌<◌, length, rules, sym, subst, arith, All-get_or, Reads, none_in, IsSlice}
use Rattle.csicodec_overwrite.proofs.Equal.{same_sets}
use Rattle.csicodec_overwrite.proofs.seen.Seen.recall.Goals as goal

pub returns : goal.returns
returns c =
    let kept = c.args.self.now.kept.items in
    let slice = c.index-slice.result.now in
    let after = none_in slice.after in
    let within : c.at-at.result < length kept = omega (arith, c.if-at-len.false, c.len.ensures) in
    let is : IsSlice slice = subst IsSlice (sym c.index-slice.ensures) (All-get_or IsSlice kept c.at-at.result slice within c.requires) in
    let same : slice.bytes.items ≡ c.args.bytes.now = search rules in
    rw (← same_sets slice.before c.args.sets (search rules)) (subst (λ b. Reads (none_in slice.before) b slice.steps.items after) same is)
