use Rattle.csicodec_parser.proofs.{Blocks.lent_rest, Common.refl}
use Rattle.csicodec_parser.proofs.parser.left_action.Goals as goal

pub returns-clause-ok : goal.returns-clause-ok
returns-clause-ok g c =
    let all = lent_rest (g.L.Look.tokens c.args.look.now) c.lend.result.now (g.L.Look.passed c.args.look.now) c.len-len.result c.len-len.ensures c.lend.ensures.lent in
    rw (← all) c.in_ok-action.ensures
