use Rattle.std.proofs.Common.{rules, sym}
use Rattle.csicodec_osc.proofs.Reading.{halves_is, no_halves}
use Rattle.csicodec_osc.proofs.fields.OscFields.next.Goals as goal

pub returns-in-Some : goal.returns-in-Some
returns-in-Some c = let cut = halves_is c.in_ok-text.text.now _ (sym c.in-Some.ensures) in search rules

pub returns-in-None : goal.returns-in-None
returns-in-None c = let field = no_halves c.in_ok-text.text.now (sym c.in-None.ensures) in search rules
