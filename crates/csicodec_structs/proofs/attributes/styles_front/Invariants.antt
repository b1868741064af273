use Rattle.std.specs.Prelude.{pos}
use Rattle.std.proofs.Common.{◌≤◌, ◌-◌, length, take}
use Rattle.csicodec_tokens.specs.{declared.param.CsiParam.TheVariants.Integer, Private.Reading.IsFirstToken}
use Rattle.csicodec_structs.specs.Private.Short.{HasStyles}
use Rattle.csicodec_structs.proofs.attributes.styles_front.Given as goal

-- the attributes up to here were read, and the number behind them
abbrev pub invariant-loop-count : goal.invariant-loop-count
invariant-loop-count l = record {
  within : l.count ≤ length l.room;
  read : HasStyles l.body (take l.count l.room) l.text;
  next : IsFirstToken l.text (Integer (pos l.number)) l.rest;
}

abbrev pub decreases-loop-count : goal.decreases-loop-count
decreases-loop-count l = length l.room - l.count
