use Rattle.csicodec_parser.proofs.Blocks.{lent_all, lent_none, lent_some}
use Rattle.csicodec_parser.proofs.parser.whole_list.Goals as goal

pub returns-in_default-clause-none : goal.returns-in_default-clause-none
returns-in_default-clause-none g c =
    let tokens = g.L.Look.tokens c.args.look.now in
    let all = lent_all tokens c.lend.result.now (g.L.Look.passed c.args.look.now) c.len-len.result c.requires c.len-len.ensures c.lend.ensures.lent in
    lent_none tokens c.lend.result.now c.args.control c.unboxed_action.result all c.unboxed_action.ensures c.in_default.is

pub returns-clause-some : goal.returns-clause-some
returns-clause-some g c =
    let tokens = g.L.Look.tokens c.args.look.now in
    let all = lent_all tokens c.lend.result.now (g.L.Look.passed c.args.look.now) c.len-len.result c.requires c.len-len.ensures c.lend.ensures.lent in
    lent_some tokens c.lend.result.now c.args.control c.unboxed_action.result c.in-Some.action all c.unboxed_action.ensures c.in-Some.is
