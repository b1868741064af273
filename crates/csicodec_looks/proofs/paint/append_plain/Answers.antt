use Rattle.csicodec_looks.proofs.Common.{◌∷◌, ◌++◌, encode_utf8_all, sym, ap, ◌∙◌, flat_map, plain, chars_of, look_of}
use Rattle.csicodec_looks.proofs.Texts.{plain_paint}
use Rattle.csicodec_looks.proofs.paint.append_plain.Goals as goal

pub loop-cell-preserved : goal.loop-cell-preserved
loop-cell-preserved c =
    let l = c.loop-cell in
    let cell = c.in-Some.cell.now in
    let behind = c.in-Some.behind.now in
    record {
      text = c.in_ok-rest.ensures.text
          ∙ ap (λ t. c.append_alike.new.out.items ++ t) (sym (plain_paint (look_of plain cell) c.in_ok-others.others.now))
          ∙ c.in_ok-others.ensures.text plain
          ∙ ap (λ t. l.out.items ++ t) (plain_paint plain (cell ∷ behind))
          ∙ ap (λ cells. l.out.items ++ encode_utf8_all (flat_map chars_of cells)) (sym c.in-Some.ensures.cases.0) ∙ l.invariant.text;
    }
