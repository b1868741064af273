use Rattle.std.proofs.{Common.◌∙◌, Common.◌≤◌, Common.◌∷◌, Common.length, Common.ap, Common.sym, Common.arith, lemmas.List.length-set}
use Rattle.csicodec_screen.specs.{Private.Changes.changed, Rows.each_row, declared.rows.Row.Row}
use Rattle.csicodec_screen.proofs.Parts.{within_step}
use Rattle.csicodec_screen.proofs.rows.change_rows.Goals as goal

pub loop-i-preserved : goal.loop-i-preserved
loop-i-preserved c =
    let xs = c.loop-i.rows.items in
    let i = c.loop-i.i in
    let e = c.part-start.result.1 in
    let y = c.change.new.self in
    let f = changed c.args.change.now c.args.area.first c.args.area.last in
    let room : e ≤ length xs = omega (arith, c.part-start.ensures.end, c.len.ensures, c.args.rows.now.ok.0, c.loop-i.invariant.len) in
    record {
      is = within_step (each_row f) (each_row f) xs i e c.index_mut.result.now y c.loop-i-test.true room c.index_mut.ensures.value
          (λ rest. ap (λ (z : Row). z ∷ each_row f rest) (sym c.change.ensures))
          ∙ c.loop-i.invariant.is;
      len = length-set xs i y ∙ c.loop-i.invariant.len;
    }
