use Rattle.std.proofs.Common.{◌≤◌, ◌<◌, ℕ, List, length}
use Rattle.csicodec_tokens.specs.{declared.param.CsiParam.CsiParam, Private.Reading.HasRead}
use Rattle.csicodec_tokens.proofs.reader.refusal.Given as goal

abbrev pub invariant-loop-others : goal.invariant-loop-others
invariant-loop-others l = record {
  within : length l.behind ≤ length l.bytes;
  read : (list : List CsiParam) (room : ℕ) → HasRead l.bytes list l.rest → room < length list
      → (now : List CsiParam) × HasRead l.bytes now l.behind × (room < length now);
}

abbrev pub decreases-loop-others : goal.decreases-loop-others
decreases-loop-others l = length l.behind
