use Rattle.std.proofs.Common.{◌-◌, ◌<◌, length, get_or, take, drop}
use Rattle.csicodec_tokens.specs.Private.Reading.{IsRun}
use Rattle.csicodec_structs.proofs.digits.number_front.Given as goal

-- the digits up to here write the number
abbrev pub invariant-loop-rest : goal.invariant-loop-rest
invariant-loop-rest l = record {
  run : IsRun (get_or l.fn.text 0 0) (take (length l.fn.text - 1) (drop 1 l.fn.text)) l.number l.rest;
  short : l.number < 10000;
}

abbrev pub decreases-loop-rest : goal.decreases-loop-rest
decreases-loop-rest l = length l.rest
