use Rattle.csicodec_tokens.specs.Sequence.{Spellable}
use Rattle.csicodec_parser.proofs.Common.{◌↔◌, length}
use Rattle.csicodec_parser.proofs.canonical.is_spellable.Given as goal

-- what decides is left
abbrev pub invariant-loop-rest : goal.invariant-loop-rest
invariant-loop-rest l = Spellable l.rest ↔ Spellable l.params

abbrev pub decreases-loop-rest : goal.decreases-loop-rest
decreases-loop-rest l = length l.rest
