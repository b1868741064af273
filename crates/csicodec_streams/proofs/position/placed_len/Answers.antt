use Rattle.std.proofs.Common.{◌∙◌, sym, arith}
use Rattle.csicodec_streams.proofs.OneReading.{byte_cut, cup, front_placed, hvp, two_cut}
use Rattle.csicodec_streams.proofs.position.placed_len.Goals as goal

pub returns-in-72-clause-own : goal.returns-in-72-clause-own
returns-in-72-clause-own c = λ some.
    front_placed 72 c.args.bytes.now _ _ _ c.number_len-line.result c.number_len-column.result cup
    (two_cut c.args.bytes.now 27 91 c.in-27.len_at_least (omega arith) (omega arith)) c.number_len-line.ensures.within
    (c.number_len-line.ensures.number (omega (arith, c.if-line-eq0.false)))
    (sym c.split_at.ensures.back ∙ byte_cut c.split_at.result.1.now 59 c.in-59.len_at_least (omega arith))
    c.number_len-column.ensures.within
    (c.number_len-column.ensures.number (omega (arith, c.if-column-eq0.false)))
    (sym c.split_at-2.ensures.back ∙ byte_cut c.split_at-2.result.1.now 72 c.in-72.len_at_least (omega arith))

pub returns-in-102-clause-own : goal.returns-in-102-clause-own
returns-in-102-clause-own c = λ some.
    front_placed 102 c.args.bytes.now _ _ _ c.number_len-line.result c.number_len-column.result hvp
    (two_cut c.args.bytes.now 27 91 c.in-27.len_at_least (omega arith) (omega arith)) c.number_len-line.ensures.within
    (c.number_len-line.ensures.number (omega (arith, c.if-line-eq0.false)))
    (sym c.split_at.ensures.back ∙ byte_cut c.split_at.result.1.now 59 c.in-59.len_at_least (omega arith))
    c.number_len-column.ensures.within
    (c.number_len-column.ensures.number (omega (arith, c.if-column-eq0.false)))
    (sym c.split_at-2.ensures.back ∙ byte_cut c.split_at-2.result.1.now 102 c.in-102.len_at_least (omega arith))
