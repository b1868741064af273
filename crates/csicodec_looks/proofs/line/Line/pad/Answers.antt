use Rattle.csicodec_looks.proofs.Common.{◌≤◌, ◌+◌, ◌∙◌, ap, arith, sym, nat_tests, columns, behind_columns, most}
use Rattle.csicodec_looks.proofs.Rows.{settled_again}
use Rattle.csicodec_looks.specs.Row.{settled}
use Rattle.csicodec_looks.proofs.line.Line.pad.Goals as goal

pub returns-then-missing-eq0 : goal.returns-then-missing-eq0
returns-then-missing-eq0 c =
    let l = c.args.self.now in
    let few : c.in-Some.at ≤ columns l.left + columns l.right = grind (arith, nat_tests) in
    λ n. sym (settled_again most n c.in-Some.at l few)
    ∙ ap (λ to. behind_columns most n (settled most to l)) (sym c.in-Some.is)
