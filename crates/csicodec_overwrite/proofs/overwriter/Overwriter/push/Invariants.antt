use Rattle.csicodec_overwrite.proofs.Common.{◌≤◌, length, PassesFront}
use Rattle.csicodec_overwrite.proofs.overwriter.Overwriter.push.Given as goal

-- some bytes have passed
abbrev pub invariant-loop-rest : goal.invariant-loop-rest
invariant-loop-rest l = record {
  passes : PassesFront l.fn.self l.bytes l.rest l.self l.fn.out.items l.out.items;
  held : length l.fn.self.reader.held ≤ 3 → length l.self.reader.held ≤ 3;
}

abbrev pub decreases-loop-rest : goal.decreases-loop-rest
decreases-loop-rest l = length l.rest
