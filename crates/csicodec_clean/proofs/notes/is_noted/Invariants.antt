use Rattle.std.proofs.Common.{◌≡◌, ◌≤◌, true, length, map}
use Rattle.csicodec_parser.specs.ActionOf.{action_of}
use Rattle.csicodec_clean.specs.Saving.{are_lasting}
use Rattle.csicodec_clean.proofs.notes.is_noted.Given as goal

-- the others are all that it rests on
abbrev pub invariant-loop-action : goal.invariant-loop-action
invariant-loop-action l = record {
  few : length l.actions ≤ 7;
  others : are_lasting (map action_of l.rest) ≡ true → are_lasting (map action_of l.actions) ≡ true;
}

abbrev pub decreases-loop-action : goal.decreases-loop-action
decreases-loop-action l = length l.rest
