use Rattle.std.proofs.Common.{◌-◌, ◌≡◌, ◌<◌, ◌≤◌, length, take}
use Rattle.csicodec_clean.proofs.rendition.StyleTexts.is_same.Given as goal

-- so many texts are the same
abbrev pub invariant-loop-at : goal.invariant-loop-at
invariant-loop-at l = record {
  few : l.at ≤ 13;
  many : 0 < l.at → (length l.self ≡ 13) × (length l.other ≡ 13);
  same : take l.at l.self ≡ take l.at l.other;
}

abbrev pub decreases-loop-at : goal.decreases-loop-at
decreases-loop-at l = 13 - l.at
