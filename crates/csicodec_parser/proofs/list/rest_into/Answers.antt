use Rattle.csicodec_parser.proofs.Blocks.{lent_all}
use Rattle.csicodec_parser.proofs.list.rest_into.Goals as goal

pub returns-in-Some-clause-taken : goal.returns-in-Some-clause-taken
returns-in-Some-clause-taken g c =
    let all = lent_all (g.L.Look.tokens c.args.look.now) c.lend-params.result.now _ c.len-len.result c.requires c.len-len.ensures c.lend-params.ensures.lent in
    rw (← (rw (all, c.in-Some.is) at c.in_ok-action.ensures.ok)) c.take.ensures

pub returns-in-None-clause-taken : goal.returns-in-None-clause-taken
returns-in-None-clause-taken g c =
    let all = lent_all (g.L.Look.tokens c.args.look.now) c.lend-params.result.now _ c.len-len.result c.requires c.len-len.ensures c.lend-params.ensures.lent in
    rw (← (rw (all, c.in-None.is) at c.in_ok-action.ensures.ok)) (rw all at c.take_unknown.ensures)
