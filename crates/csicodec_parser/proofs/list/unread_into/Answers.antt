use Rattle.csicodec_parser.proofs.Blocks.{lent_rest}
use Rattle.csicodec_parser.proofs.list.unread_into.Goals as goal

pub returns-clause-taken : goal.returns-clause-taken
returns-clause-taken g c =
    rw (← lent_rest (g.L.Look.tokens c.args.look.now) c.lend-rest.result.now (g.L.Look.passed c.args.look.now) c.len-len.result c.len-len.ensures c.lend-rest.ensures.lent) c.take_unknown.ensures
