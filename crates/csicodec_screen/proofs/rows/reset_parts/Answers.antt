use Rattle.std.proofs.{Common.◌≡◌, Common.◌∙◌, Common.◌≤◌, Common.◌∷◌, Common.List, Common.length, Common.ap, Common.sym, Common.arith, Common.rules}
use Rattle.std.proofs.{lemmas.List.length-set}
use Rattle.std.specs.Prelude.{replicate}
use Rattle.csicodec_screen.specs.{Lists.filled, declared.cell.Cell.Cell}
use Rattle.csicodec_screen.proofs.Parts.{within_set}
use Rattle.csicodec_screen.proofs.rows.reset_parts.Goals as goal

pub loop-i-preserved : goal.loop-i-preserved
loop-i-preserved c =
    let xs = c.loop-i.parts.items in
    let i = c.loop-i.i in
    let e = c.part-start.result.1 in
    let y = c.reset.new.self in
    let v = replicate c.args.like.columns c.args.like.cell in
    let made : y ≡ v = search rules in
    let room : e ≤ length xs = omega (arith, c.part-start.ensures.end, c.len.ensures, c.args.parts.now.ok.0, c.loop-i.invariant.len) in
    record {
      is = within_set (filled v) (filled v) xs i e y c.loop-i-test.true room (λ x rest. ap (λ (z : List Cell). z ∷ filled v rest) (sym made)) ∙ c.loop-i.invariant.is;
      len = length-set xs i y ∙ c.loop-i.invariant.len;
    }
