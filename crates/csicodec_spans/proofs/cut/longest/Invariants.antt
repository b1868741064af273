use Rattle.std.proofs.Common.{◌+◌, ◌*◌, ◌≤◌, drop, length}
use Rattle.csicodec_spans.proofs.OneSpan.{IsLonger}
use Rattle.csicodec_spans.proofs.cut.longest.Given as goal

abbrev pub invariant-loop-len : goal.invariant-loop-len
invariant-loop-len l = record {
  longer : IsLonger l.bytes (drop l.from l.bytes) l.rest l.mode l.mode;
  looks : l.looks.total + 4 * length l.rest ≤ l.fn.looks.total + 4 * length (drop l.from l.bytes);
}

abbrev pub decreases-loop-len : goal.decreases-loop-len
decreases-loop-len l = length l.rest
