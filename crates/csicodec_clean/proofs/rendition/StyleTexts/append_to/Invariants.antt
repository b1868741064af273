use Rattle.std.proofs.Common.{◌-◌, ◌≡◌, ◌<◌, ◌≤◌, ◌++◌, length, take}
use Rattle.std.specs.List.{concat}
use Rattle.csicodec_clean.proofs.rendition.StyleTexts.append_to.Given as goal

-- so many texts are appended
abbrev pub invariant-loop-at : goal.invariant-loop-at
invariant-loop-at l = record {
  few : l.at ≤ 13;
  many : 0 < l.at → length l.self ≡ 13;
  joined : l.out.items ≡ l.initial.out.items ++ concat (take l.at l.self);
}

abbrev pub decreases-loop-at : goal.decreases-loop-at
decreases-loop-at l = 13 - l.at
