use Rattle.std.proofs.Common.{refl}
use Rattle.csicodec_sequences.proofs.known.KnownSequence.read.Goals as goal

pub returns-in-Some : goal.returns-in-Some
returns-in-Some c = rw (← c.in-Some.ensures) refl

pub returns-in-Some-first_known : goal.returns-in-Some-first_known
returns-in-Some-first_known c = rw (← c.in_default.ensures, ← c.in-Some-first_known.ensures) refl

pub returns : goal.returns
returns c = rw (← c.in_default.ensures, ← c.in_default-first_known.ensures) c.first_known-3.ensures
