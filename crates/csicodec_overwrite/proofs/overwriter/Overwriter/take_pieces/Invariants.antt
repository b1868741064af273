use Rattle.csicodec_overwrite.proofs.Common.{length, IsBare, PassesFront}
use Rattle.csicodec_overwrite.proofs.overwriter.Overwriter.take_pieces.Given as goal

-- some bytes have passed
abbrev pub invariant-loop-odd : goal.invariant-loop-odd
invariant-loop-odd l = record {
  passes : PassesFront l.fn.self l.bytes l.rest l.self l.fn.out.items l.out.items;
  reader : IsBare l.self.reader;
}

abbrev pub decreases-loop-odd : goal.decreases-loop-odd
decreases-loop-odd l = length l.rest
