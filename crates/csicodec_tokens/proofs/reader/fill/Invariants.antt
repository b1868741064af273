use Rattle.std.proofs.Common.{◌≤◌, length, vec_capacity}
use Rattle.csicodec_tokens.specs.Private.Reading.{HasRead}
use Rattle.csicodec_tokens.proofs.reader.fill.Given as goal

abbrev pub invariant-loop-token : goal.invariant-loop-token
invariant-loop-token l = record {
  within : length l.rest ≤ length l.bytes;
  kept : vec_capacity l.fn.params ≤ vec_capacity l.params;
  read : HasRead l.bytes l.params.items l.rest;
}

abbrev pub decreases-loop-token : goal.decreases-loop-token
decreases-loop-token l = length l.rest
