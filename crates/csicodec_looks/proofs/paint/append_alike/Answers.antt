use Rattle.csicodec_looks.proofs.{Common.◌-◌, Common.◌∙◌, Common.append_assoc, Common.arith, Common.length, Common.refl, Common.sym, Texts.blanks_on}
use Rattle.csicodec_looks.proofs.paint.append_alike.Goals as goal

pub returns-then-is_empty-clause-text : goal.returns-then-is_empty-clause-text
returns-then-is_empty-clause-text c = λ look.
    let n = length c.args.behind.now - length c.behind_empty-rest.result.now in
    blanks_on c.args.marking.now look c.args.cell c.args.behind.now c.behind_empty-rest.result.now n _ c.args.out.now.items c.append_blanks.new.out.items
    (sym c.is_empty.ensures ∙ c.if-is_empty.true) c.behind_empty-rest.ensures.split (grind arith) c.in_ok-append_blanks.ensures

pub returns-clause-text : goal.returns-clause-text
returns-clause-text c = λ look. rw (c.in_ok-append_cell.ensures, append_assoc) refl
