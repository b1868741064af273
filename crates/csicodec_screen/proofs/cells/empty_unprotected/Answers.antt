use Rattle.std.proofs.{Common.◌≡◌, Common.◌∙◌, Common.◌≤◌, Common.◌+◌, Common.◌∷◌, Common.Bool, Common.get_or, Common.length, Common.ap, Common.sym}
use Rattle.std.proofs.{Common.arith, Common.rules, lemmas.List.length-set}
use Rattle.std.specs.Prelude.{set}
use Rattle.csicodec_screen.specs.{Cells.is_protected, Cells.unprotected, Lists.within, declared.cell.Cell.Cell}
use Rattle.csicodec_screen.proofs.Parts.{within_step}
use Rattle.csicodec_screen.proofs.cells.empty_unprotected.Goals as goal

pub loop-i-preserved : goal.loop-i-preserved
loop-i-preserved c =
    let xs = c.loop-i.cells.items in
    let i = c.loop-i.i in
    let e = c.part-start.result.1 in
    let x = c.index-cell.result.now in
    let y = c.spared.result in
    let p = c.args.background in
    let room : e ≤ length xs = omega (arith, c.part-start.ensures.end, c.len.ensures, c.args.cells.now.ok.0, c.loop-i.invariant.len) in
    let is : x ≡ get_or xs i x = search rules in
    record {
      is = ap (λ (b : Bool). within (i + 1) e (unprotected p b) (set xs i y)) c.is_protected-keeps.ensures
          ∙ within_step (unprotected p c.loop-i.keeps) (unprotected p (is_protected x)) xs i e x y c.loop-i-test.true room is
          (λ rest. ap (λ (z : Cell). z ∷ unprotected p (is_protected x) rest) (sym c.spared.ensures))
          ∙ c.loop-i.invariant.is;
      len = length-set xs i y ∙ c.loop-i.invariant.len;
    }
