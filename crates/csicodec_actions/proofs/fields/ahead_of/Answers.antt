use Rattle.csicodec_actions.proofs.{FieldsAt.at-end, FieldsAt.then-ends, Common.◌∙◌, Common.sym}
use Rattle.csicodec_actions.proofs.fields.ahead_of.Goals as goal

pub returns-in-P : goal.returns-in-P
returns-in-P c =
    rw c.then_some.ensures
    (then-ends c.args.end c.in-P.byte c.in_ok-last.front ∙ sym (at-end c.args.end c.args.params.now c.in_ok-last.front.now _ _ c.in_ok-last.ensures.cases.0 c.in-P.is))

pub returns-in-Integer : goal.returns-in-Integer
returns-in-Integer c = sym (at-end c.args.end c.args.params.now c.in_ok-last.front.now _ _ c.in_ok-last.ensures.cases.0 c.in-Integer.is)
