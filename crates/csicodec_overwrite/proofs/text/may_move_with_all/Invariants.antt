use Rattle.csicodec_overwrite.proofs.Common.{◌≡◌, length}
use Rattle.std.specs.List.{list_all}
use Rattle.csicodec_overwrite.specs.Steps.{may_move_with}
use Rattle.csicodec_overwrite.proofs.text.may_move_with_all.Given as goal

-- with no token up to here it may not
abbrev pub invariant-loop-rest : goal.invariant-loop-rest
invariant-loop-rest l = list_all (may_move_with l.control) l.rest ≡ list_all (may_move_with l.control) l.params

abbrev pub decreases-loop-rest : goal.decreases-loop-rest
decreases-loop-rest l = length l.rest
