use Rattle.csicodec_looks.proofs.{Common.ap, Common.arith, Common.length, Common.refl, Common.rules, Common.sym, Common.same_look, Texts.nothing_written}
use Rattle.csicodec_looks.proofs.{Texts.same_on}
use Rattle.csicodec_looks.proofs.paint.append_same_look.Goals as goal

pub loop-cell-preserved-in_ok-append_written-in-Char : goal.loop-cell-preserved-in_ok-append_written-in-Char
loop-cell-preserved-in_ok-append_written-in-Char c =
    let look = c.args.look.now in
    let rest = rw c.in-Char.is at c.in-Some.ensures.cases.0 in
    record {
      text = same_on c.args.marking.now look _ _ _ _ _ _ rest (sym (same_look look c.in-Char.glyph.look (search rules)))
          c.in_ok-append_written-in-Char.ensures c.loop-cell.invariant.text;
      fewer = omega (arith, ap length rest);
    }

pub loop-cell-preserved : goal.loop-cell-preserved
loop-cell-preserved c =
    let rest = rw c.in-Behind.is at c.in-Some.ensures.cases.0 in
    record {
      text = same_on c.args.marking.now c.args.look.now _ _ _ _ _ _ rest refl (nothing_written c.args.marking.now _) c.loop-cell.invariant.text;
      fewer = omega (arith, ap length rest);
    }
