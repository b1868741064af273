use Rattle.std.proofs.Common.{◌≡◌, ◌∙◌, ◌≤◌, ◌<◌, ◌+◌, ◌∷◌, [], List, drop, get_or, length, ap, refl, sym, arith}
use Rattle.std.proofs.lemmas.List.{drop_all, drop_more, length-set}
use Rattle.csicodec_screen.specs.{Lists.overlaid, declared.cell.Cell.Cell, declared.cell.Cell.TheVariants.Empty}
use Rattle.csicodec_screen.proofs.Parts.{as_whole, within_done, within_same, within_set}
use Rattle.csicodec_screen.proofs.cells.overlay.Goals as goal
use Rattle.csicodec_names.specs.declared.color.ColorSpec.TheVariants as color

on_none : (new : List Cell) → overlaid new [] ≡ []
on_none [] = refl
on_none (x ∷ new) = refl

pub returns-then-at-end : goal.returns-then-at-end
returns-then-at-end c =
    let xs = c.args.cells.now.items in
    let many : c.len.result ≡ length xs = omega (arith, c.len.ensures, c.args.cells.now.ok.0) in
    sym (within_done (overlaid (drop c.loop-cell.cell-index c.args.new.now)) c.loop-cell.cells.items c.loop-cell.at c.part-start.result.1 c.if-at-end.true (on_none _))
    ∙ c.loop-cell.invariant.is
    ∙ as_whole (overlaid c.args.new.now) xs c.args.from c.args.to c.len.result c.part-start.result.0 c.part-start.result.1 many c.part-start.ensures.start c.part-start.ensures.end

pub loop-cell-preserved : goal.loop-cell-preserved
loop-cell-preserved c =
    let xs = c.loop-cell.cells.items in
    let at = c.loop-cell.at in
    let k = c.loop-cell.cell-index in
    let e = c.part-start.result.1 in
    let new = c.args.new.now in
    let x = get_or new k (Empty color.Default) in
    let ahead : at < e = omega (arith, c.if-at-end.false) in
    let room : e ≤ length xs = omega (arith, c.part-start.ensures.end, c.len.ensures, c.args.cells.now.ok.0, c.loop-cell.invariant.len) in
    record {
      is = within_set (overlaid (drop k new)) (overlaid (drop (k + 1) new)) xs at e x ahead room
          (λ z rest. ap (λ (n : List Cell). overlaid n (z ∷ rest)) (drop_more new k (Empty color.Default) c.loop-cell-test.true))
          ∙ c.loop-cell.invariant.is;
      len = length-set xs at x ∙ c.loop-cell.invariant.len;
      at = omega (arith, ahead);
    }

pub returns : goal.returns
returns c =
    let xs = c.args.cells.now.items in
    let many : c.len.result ≡ length xs = omega (arith, c.len.ensures, c.args.cells.now.ok.0) in
    let none : drop c.loop-cell.cell-index c.args.new.now ≡ [] = drop_all c.loop-cell.cell-index c.args.new.now (omega (arith, c.loop-cell-test.false)) in
    sym (within_same (overlaid (drop c.loop-cell.cell-index c.args.new.now)) c.loop-cell.cells.items c.loop-cell.at c.part-start.result.1 c.loop-cell.invariant.at
    (λ rest. ap (λ (n : List Cell). overlaid n rest) none))
    ∙ c.loop-cell.invariant.is
    ∙ as_whole (overlaid c.args.new.now) xs c.args.from c.args.to c.len.result c.part-start.result.0 c.part-start.result.1 many c.part-start.ensures.start c.part-start.ensures.end
