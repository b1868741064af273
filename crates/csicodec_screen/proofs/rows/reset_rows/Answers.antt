use Rattle.std.proofs.{Common.◌≡◌, Common.◌∙◌, Common.◌≤◌, Common.◌∷◌, Common.length, Common.ap, Common.sym, Common.arith, Common.rules, lemmas.List.length-set}
use Rattle.csicodec_screen.specs.{Lists.filled, Private.Changes.row_of, declared.rows.Row.Row}
use Rattle.csicodec_screen.proofs.Parts.{within_set}
use Rattle.csicodec_screen.proofs.rows.reset_rows.Goals as goal

pub loop-i-preserved : goal.loop-i-preserved
loop-i-preserved c =
    let xs = c.loop-i.rows.items in
    let i = c.loop-i.i in
    let e = c.part-start.result.1 in
    let y = c.reset.new.self in
    let v = row_of c.args.like in
    let made : y ≡ v = search rules in
    let room : e ≤ length xs = omega (arith, c.part-start.ensures.end, c.len.ensures, c.args.rows.now.ok.0, c.loop-i.invariant.len) in
    record {
      is = within_set (filled v) (filled v) xs i e y c.loop-i-test.true room (λ x rest. ap (λ (z : Row). z ∷ filled v rest) (sym made)) ∙ c.loop-i.invariant.is;
      len = length-set xs i y ∙ c.loop-i.invariant.len;
    }
