use Rattle.std.proofs.Common.{ℕ, List, take, ap, subst, ◌∙◌, IfOk, MatchOption, Option}
use Rattle.csicodec_tokens.specs.{declared.param.CsiParam.CsiParam, Sequence.Seq}
use Rattle.csicodec_events.specs.{Front.Seen, Events.without_controls}
use Rattle.csicodec_events.proofs.front.Front.read_without.Goals as goal

pub returns-clause-is : goal.returns-clause-is
returns-clause-is c =
    subst (λ (x : List ℕ). IfOk c.read_without.result (λ (o : Option ℕ). MatchOption o ((list : List CsiParam) (final : ℕ) → Seq (without_controls x) list final → ⊥)
    (λ (final : ℕ). Seq (without_controls x) c.read_without.new.params.items final))) (c.split_at.ensures.front ∙ ap (λ (s : Seen). take c.args.len s.bytes) c.self.view_is) c.read_without.ensures
