use Rattle.csicodec_looks.proofs.{Common.arith, Common.nat_tests, Common.most, Rows.settled_right}
use Rattle.csicodec_looks.proofs.line.Line.has_right.Goals as goal

pub returns-then-count-right : goal.returns-then-count-right
returns-then-count-right c = rw (c.in-Some.is, settled_right most c.in-Some.count c.args.self.now) (grind (arith, nat_tests, c.columns-right.ensures))

pub returns-else-count-right : goal.returns-else-count-right
returns-else-count-right c = rw (c.in-Some.is, settled_right most c.in-Some.count c.args.self.now) (grind (arith, nat_tests, c.columns-right.ensures, c.columns.ensures))
