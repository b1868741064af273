use Rattle.csicodec_overwrite.proofs.{Common.◌≡◌, Common.◌<◌, Common.arith, Common.false, Common.length, Common.rules, Common.nat_tests, Common.Reads}
use Rattle.csicodec_overwrite.proofs.{Written.taken}
use Rattle.csicodec_overwrite.proofs.overwriter.Overwriter.take_known.Goals as goal

pub returns-clause-passes : goal.returns-clause-passes
returns-clause-passes c =
    let front = c.split_at.result.0.now in
    rw (← c.self.view_is, c.pass.ensures) (taken front c.split_at.ensures.by_index.0 c.in-Some.ensures (rw c.deref.ensures.value at c.in_ok-take_all.ensures))

pub returns-clause-fewer : goal.returns-clause-fewer
returns-clause-fewer c =
    let none : c.is_empty.result ≡ false = search rules in
    let some : 0 < length c.args.bytes.now = grind (arith, nat_tests) in
    omega (arith, some, c.odd_len.ensures.some, c.split_at.ensures.back_len)
