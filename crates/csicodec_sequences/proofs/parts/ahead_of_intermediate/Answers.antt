use Rattle.std.proofs.Common.{◌∙◌, sym}
use Rattle.csicodec_sequences.proofs.Table.{cut-byte, kept-byte, kept-number}
use Rattle.csicodec_sequences.proofs.parts.ahead_of_intermediate.Goals as goal

pub returns-then-is_between : goal.returns-then-is_between
returns-then-is_between c =
    cut-byte c.args.params.now c.in-Some.front.now _ c.in-P.byte c.in-Some.ensures.cases.0 c.in-P.is (sym c.is_between.ensures ∙ c.if-is_between.true)

pub returns-else-is_between : goal.returns-else-is_between
returns-else-is_between c =
    kept-byte c.args.params.now c.in-Some.front.now _ c.in-P.byte c.in-Some.ensures.cases.0 c.in-P.is (sym c.is_between.ensures ∙ c.if-is_between.false)

pub returns-in-Integer : goal.returns-in-Integer
returns-in-Integer c = kept-number c.args.params.now c.in-Some.front.now _ c.in-Integer.field-0 c.in-Some.ensures.cases.0 c.in-Integer.is
