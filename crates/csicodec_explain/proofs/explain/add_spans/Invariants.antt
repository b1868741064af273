use Rattle.std.proofs.Common.{◌≤◌, length}
use Rattle.csicodec_explain.proofs.explain.add_spans.Given as goal

-- what is left is a part of the bytes
abbrev pub invariant-loop-known : goal.invariant-loop-known
invariant-loop-known l = length l.rest ≤ length l.bytes

abbrev pub decreases-loop-known : goal.decreases-loop-known
decreases-loop-known l = length l.rest
