use Rattle.csicodec_parser.proofs.{Fronts.read-unboxed, Fronts.read-boxed, Common.sym, Common.◌∙◌}
use Rattle.csicodec_parser.proofs.canonical.is_unread.Goals as goal

pub returns-then-is_some : goal.returns-then-is_some
returns-then-is_some c = read-unboxed c.args.params.now c.args.control c.unboxed_action.result c.unboxed_action.ensures (sym c.is_some.ensures ∙ c.if-is_some.true)

pub returns : goal.returns
returns c =
    read-boxed c.args.params.now c.args.control c.unboxed_action.result c.in_ok-boxed.boxed c.is_none.result c.unboxed_action.ensures (sym c.is_some.ensures ∙ c.if-is_some.false)
    c.in_ok-boxed.ensures.ok c.is_none.ensures
