use Rattle.std.proofs.Common.{◌≤◌, length, take}
use Rattle.csicodec_tokens.specs.Private.Reading.{HasRead}
use Rattle.csicodec_tokens.proofs.reader.read_csi_within.Given as goal

abbrev pub invariant-loop-token : goal.invariant-loop-token
invariant-loop-token l = record {
  within : length l.rest ≤ length l.bytes;
  fits : l.count ≤ length l.room;
  read : HasRead l.bytes (take l.count l.room) l.rest;
}

abbrev pub decreases-loop-token : goal.decreases-loop-token
decreases-loop-token l = length l.rest
