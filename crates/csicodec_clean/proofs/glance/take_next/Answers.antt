use Rattle.std.proofs.Common.{◌≡◌, arith}
use Rattle.csicodec_clean.proofs.{Common.nat_tests, Chunks.to_on}
use Rattle.csicodec_clean.proofs.glance.take_next.Goals as goal

pub returns-clause-goes : goal.returns-clause-goes
returns-clause-goes g c =
    let none : c.in_ok-len.len ≡ 0 = grind (arith, nat_tests, c.if-len-gt0.false) in
    to_on g.T.Rule.gives c.args.limit _ _ _ _ _ _ (rw none at c.in_ok-len.ensures.goes) (c.in_ok-changed.ensures.goes c.args.limit)
