use Rattle.csicodec_looks.proofs.{Common.◌++◌, Common.sym, Common.ap, Common.◌∙◌, Common.paint, Texts.turned_on, Texts.text_painted}
use Rattle.csicodec_looks.proofs.paint.append_cells.Goals as goal

pub loop-cell-init : goal.loop-cell-init
loop-cell-init c = rw c.plain-none.ensures (record { text = ap (λ t. c.args.out.now.items ++ t) (sym (text_painted c.args.marking.now c.args.cells.now)) })

pub loop-cell-preserved : goal.loop-cell-preserved
loop-cell-preserved c =
    let l = c.loop-cell in
    let marking = c.args.marking.now in
    let next = c.look_of-next.ensures in
    rw next (record {
      text = (rw next at c.in_ok-rest.ensures.text) ∙ c.in_ok-others.ensures.text l.now.now
          ∙ turned_on marking l.now.now c.in-Some.cell.now c.in-Some.behind.now l.out.items c.append_turn.new.out.items (rw next at c.in_ok-append_turn.ensures)
          ∙ ap (λ cells. l.out.items ++ paint marking l.now.now cells) (sym c.in-Some.ensures.cases.0) ∙ l.invariant.text;
    })
