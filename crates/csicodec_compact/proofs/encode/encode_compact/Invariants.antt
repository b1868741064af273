use Rattle.std.proofs.Common.{◌≡◌, List, ◌++◌, length, map}
use Rattle.csicodec_compact.proofs.Common.{CSI, action_of, Encodes}
use Rattle.csicodec_compact.proofs.encode.encode_compact.Given as goal

-- the actions up to here are written
abbrev pub invariant-loop-rest : goal.invariant-loop-rest
invariant-loop-rest l = (before : List CSI) × (l.actions ≡ before ++ l.rest) × Encodes (map action_of before) l.all.items

abbrev pub decreases-loop-rest : goal.decreases-loop-rest
decreases-loop-rest l = length l.rest
