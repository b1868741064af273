use Rattle.std.proofs.Common.{ℕ, List}
use Rattle.csicodec_clean.proofs.Common.{Consumes, IsOutside, Stands}
use Rattle.csicodec_clean.proofs.check.check_all.Given as goal

-- what was read is text of the class up to the rest, which may begin a character
abbrev pub invariant-loop : goal.invariant-loop
invariant-loop g l = record {
  stands : (bytes : List ℕ) × Consumes (g.R.Read.remaining l.initial.input) (g.R.Read.remaining l.input) bytes × Stands g.C.CharClass.class bytes l.checked.rest.items l.checked.at l.checked.line;
  outside : IsOutside g.C.CharClass.class l.checked.rest.items;
}
