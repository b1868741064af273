use Rattle.csicodec_overwrite.proofs.Common.{◌≡◌, ◌-◌, ◌/◌, true, length, AreTurns, IsWritten, Turned, most, none_in}
use Rattle.csicodec_overwrite.proofs.front.append_front.Given as goal

-- a front is written
abbrev pub invariant-loop : goal.invariant-loop
invariant-loop l = record {
  bare : l.reader ≡ none_in l.fn.by.1;
  known : AreTurns (Turned (none_in l.fn.by.1) l.fn.by.0.now) l.turns.kept.items;
  even : l.front.even ≡ true → l.front.last ≡ l.front.now;
  least : l.front.least ≡ length l.fn.bytes - most / 8;
  written : IsWritten (none_in l.fn.by.1) l.fn.by.0.now l.fn.pen l.fn.bytes l.fn.out.items l.front l.out.items;
}

abbrev pub decreases-loop : goal.decreases-loop
decreases-loop l = length l.front.rest.now
