use Rattle.std.proofs.{Common.◌≡◌, Common.◌∙◌, Common.◌≤◌, Common.◌∷◌, Common.get_or, Common.length, Common.ap, Common.sym, Common.arith, Common.rules}
use Rattle.std.proofs.{lemmas.List.length-set}
use Rattle.std.specs.Prelude.{map}
use Rattle.csicodec_screen.specs.{Cells.cell_with, Private.Changes.look_behind, declared.cell.Cell.Cell}
use Rattle.csicodec_screen.proofs.Parts.{within_step}
use Rattle.csicodec_screen.proofs.cells.change_cell_attributes.Goals as goal

pub loop-i-preserved : goal.loop-i-preserved
loop-i-preserved c =
    let xs = c.loop-i.cells.items in
    let i = c.loop-i.i in
    let e = c.part-start.result.1 in
    let x = c.index-cell.result.now in
    let y = c.with_attributes.result in
    let f = cell_with (look_behind c.args.turns c.args.fields.now) in
    let room : e ≤ length xs = omega (arith, c.part-start.ensures.end, c.len.ensures, c.args.cells.now.ok.0, c.loop-i.invariant.len) in
    let is : x ≡ get_or xs i x = search rules in
    record {
      is = within_step (map f) (map f) xs i e x y c.loop-i-test.true room is (λ rest. ap (λ (z : Cell). z ∷ map f rest) (sym c.with_attributes.ensures)) ∙ c.loop-i.invariant.is;
      len = length-set xs i y ∙ c.loop-i.invariant.len;
    }
