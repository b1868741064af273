use Rattle.std.proofs.Common.{◌≡◌, ℕ, ◌-◌, ◌++◌, Some, None, MatchOption, length, refl, subst, rules}
use Rattle.csicodec_spans.specs.{Parts.IsUnsure, Private.Begun.IsBegun, Private.Begun.Tells}
use Rattle.csicodec_spans.proofs.{Waits.waits_on, waiting.Waiting.add.Goals.In-Some}
use Rattle.csicodec_spans.proofs.waiting.Waiting.add.Goals as goal

waits : (c : In-Some) → let now = c.self.inside in let all = now.held.bytes ++ c.args.bytes.now in IsUnsure now.limit now.mode all × IsBegun all (Some c.in-Some.number)
waits c =
    let now = c.self.inside in
    let r = c.begun_with-begun.result in
    let room : c.saturating_sub-room.result ≡ now.limit - length now.held.bytes = search rules in
    let tells = subst (λ (n : ℕ). MatchOption now.number (r ≡ None) (Tells n c.args.bytes.now r)) room c.begun_with-begun.ensures in
    waits_on now.number r now.limit c.in-Some.number now.mode now.held.bytes c.args.bytes.now c.self.invariant.2 tells c.in-Some.is

pub invariant_of-self-2 : goal.invariant_of-self-2
invariant_of-self-2 c =
    let (unsure, begun) = waits (goal.at.invariant_of-self-2 c).In-Some in
    rw c.in_ok-append.ensures.ok (c.self.invariant.0, unsure, begun)

pub returns-clause-all : goal.returns-clause-all
returns-clause-all c = rw (← c.self.view_is, c.in_ok-append.ensures.ok) (refl, (waits (goal.at.returns-clause-all c).In-Some).0)
