use Rattle.std.proofs.Common.{◌≡◌, length}
use Rattle.csicodec_compact.proofs.Common.{is_other, list_any}
use Rattle.csicodec_compact.proofs.lists.any_other.Given as goal

-- no action up to here is another
abbrev pub invariant-loop-rest : goal.invariant-loop-rest
invariant-loop-rest l = list_any is_other l.rest ≡ list_any is_other l.actions

abbrev pub decreases-loop-rest : goal.decreases-loop-rest
decreases-loop-rest l = length l.rest
