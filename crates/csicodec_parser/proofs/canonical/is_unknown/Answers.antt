use Rattle.csicodec_parser.proofs.{Fronts.unknown-told, Common.◌≡◌, Common.rules, Common.sym, Common.◌∙◌, Common.group}
use Rattle.csicodec_parser.proofs.canonical.is_unknown.Goals as goal

pub returns-in-Whole : goal.returns-in-Whole
returns-in-Whole c =
    let by : c.of.result ≡ group c.args.params.now c.args.control = search rules in
    rw (sym by ∙ c.in-Whole.is) c.is_unread.ensures

pub returns-in_default : goal.returns-in_default
returns-in_default c =
    let by : c.of.result ≡ group c.args.params.now c.args.control = search rules in
    rw (← by)
    (unknown-told c.of.result c.args.params.now c.args.control c.is_uncut-in_default.result c.in_default.not-Whole c.in_default.not-Styles c.is_uncut-in_default.ensures)
