use Rattle.csicodec_parser.proofs.Blocks.{whole_ends, whole_leaves}
use Rattle.csicodec_parser.proofs.parser.next_action.Goals as goal

pub returns-in-Fresh-clause-none : goal.returns-in-Fresh-clause-none
returns-in-Fresh-clause-none g c =
    let e = c.whole_list.ensures in
    whole_leaves c.args.stage c.whole_list.result c.args.group (g.L.Look.tokens c.args.look.now) c.args.control _ _ _ _ c.in-Fresh.is c.in-Whole.is (c.requires.fresh c.in-Fresh.is) c.requires.group
    e.costs e.none e.stays

pub returns-in_default-stage-clause-none : goal.returns-in_default-stage-clause-none
returns-in_default-stage-clause-none g c =
    whole_ends c.args.stage c.args.group (g.L.Look.tokens c.args.look.now) c.args.control _ _ c.in_default-stage.not-Fresh c.in-Whole.is c.requires.group c.requires.can
