use Rattle.csicodec_parser.proofs.{Blocks.rest_actions, Cuts.all_taken, Common.◌∙◌, Common.rules, Common.sym}
use Rattle.csicodec_parser.proofs.list.list_into.Goals as goal

pub returns-in-Some-clause-taken : goal.returns-in-Some-clause-taken
returns-in-Some-clause-taken g c =
    all_taken g.S.Sink.holds c.args.sink.now c.take.new.self c.take.result (g.L.Look.tokens c.args.look.now) c.args.truncated c.args.control (search rules)

pub returns-in-None-clause-taken : goal.returns-in-None-clause-taken
returns-in-None-clause-taken g c =
    let list = c.group_of.ensures.list in
    let none = rw (c.in-None.is, list) at c.whole_list.ensures.none in
    all_taken g.S.Sink.holds c.args.sink.now c.rest_into.new.sink c.rest_into.result (g.L.Look.tokens c.args.look.now) c.args.truncated c.args.control
    (rw (rest_actions (g.L.Look.tokens c.args.look.now) c.args.truncated c.args.control (sym c.group_of.ensures.group ∙ c.in-Whole.is) none)
    (rw (c.whole_list.ensures.list, list) at c.rest_into.ensures.taken))

pub returns-in-Styles-clause-taken : goal.returns-in-Styles-clause-taken
returns-in-Styles-clause-taken g c =
    all_taken g.S.Sink.holds c.args.sink.now c.pieces_into.new.sink c.pieces_into.result (g.L.Look.tokens c.args.look.now) c.args.truncated c.args.control (search rules)

pub returns-in_default-clause-taken : goal.returns-in_default-clause-taken
returns-in_default-clause-taken g c =
    all_taken g.S.Sink.holds c.args.sink.now c.pieces_into-in_default.new.sink c.pieces_into-in_default.result (g.L.Look.tokens c.args.look.now) c.args.truncated c.args.control (search rules)
