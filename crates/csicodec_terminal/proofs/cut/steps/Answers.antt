use Rattle.std.proofs.{Common.append-nil, Common.[], Common.arith, lemmas.Bool.Decides.nat_tests, lemmas.List.nil_from_length}
use Rattle.csicodec_terminal.proofs.cut.steps.Goals as goal

pub returns : goal.returns
returns c = rw append-nil at (c.loop-rest.invariant [] (nil_from_length c.loop-rest.rest.now (grind (arith, nat_tests, c.loop-rest-test.false))))
