use Rattle.std.proofs.{Common.ℕ, Common.◌≡◌, Common.◌∙◌, Common.◌≤◌, Common.◌<◌, Common.◌+◌, Common.◌∷◌, Common.[], Common.List, Common.drop, Common.length}
use Rattle.std.proofs.{Common.ap, Common.refl, Common.sym, Common.arith, lemmas.List.drop_all, lemmas.List.drop_more, lemmas.List.length-set}
use Rattle.csicodec_screen.specs.{Cells.pasted, Rows.row_with, Rows.with_segments, declared.cell.Cell.Cell, declared.rows.Row.Row}
use Rattle.csicodec_screen.proofs.Parts.{as_whole, within_done, within_same, within_step}
use Rattle.csicodec_screen.proofs.rows.paste_parts.Goals as goal

module _ (first last : ℕ) where
  on_none : (parts : List (List Cell)) → with_segments first last parts [] ≡ []
  on_none [] = refl
  on_none (x ∷ parts) = refl

  on_one : (parts : List (List Cell)) (x : List Cell) (others : List (List Cell)) (row new : Row) (rest : List Row) → parts ≡ x ∷ others → new ≡ row_with (pasted x first last) row
      → with_segments first last parts (row ∷ rest) ≡ new ∷ with_segments first last others rest
  on_one parts x others row new rest e is =
      ap (λ (p : List (List Cell)). with_segments first last p (row ∷ rest)) e ∙ ap (λ (z : Row). z ∷ with_segments first last others rest) (sym is)

pub returns-then-at-end : goal.returns-then-at-end
returns-then-at-end c =
    let xs = c.args.rows.now.items in
    let many : c.len.result ≡ length xs = omega (arith, c.len.ensures, c.args.rows.now.ok.0) in
    sym (within_done (with_segments c.args.area.first c.args.area.last (drop c.loop-part.part-index c.args.parts.now)) c.loop-part.rows.items c.loop-part.at c.part-start.result.1 c.if-at-end.true (on_none c.args.area.first c.args.area.last _))
    ∙ c.loop-part.invariant.is
    ∙ as_whole (with_segments c.args.area.first c.args.area.last c.args.parts.now) xs c.args.area.top c.args.area.bottom c.len.result c.part-start.result.0 c.part-start.result.1 many c.part-start.ensures.start c.part-start.ensures.end

pub loop-part-preserved : goal.loop-part-preserved
loop-part-preserved c =
    let xs = c.loop-part.rows.items in
    let at = c.loop-part.at in
    let k = c.loop-part.part-index in
    let e = c.part-start.result.1 in
    let parts = c.args.parts.now in
    let x = c.part-item.result in
    let y = c.paste.new.self in
    let ahead : at < e = omega (arith, c.if-at-end.false) in
    let room : e ≤ length xs = omega (arith, c.part-start.ensures.end, c.len.ensures, c.args.rows.now.ok.0, c.loop-part.invariant.len) in
    let front : drop k parts ≡ x ∷ drop (k + 1) parts =
    drop_more parts k x c.loop-part-test.true ∙ ap (λ (z : List Cell). z ∷ drop (k + 1) parts) (sym c.part-item.is) in
    record {
      is = within_step (with_segments c.args.area.first c.args.area.last (drop k parts)) (with_segments c.args.area.first c.args.area.last (drop (k + 1) parts)) xs at e c.index_mut.result.now y ahead room
          c.index_mut.ensures.value
          (λ rest. on_one c.args.area.first c.args.area.last (drop k parts) x (drop (k + 1) parts) c.index_mut.result.now y rest front c.paste.ensures)
          ∙ c.loop-part.invariant.is;
      len = length-set xs at y ∙ c.loop-part.invariant.len;
      at = omega (arith, ahead);
    }

pub returns : goal.returns
returns c =
    let xs = c.args.rows.now.items in
    let many : c.len.result ≡ length xs = omega (arith, c.len.ensures, c.args.rows.now.ok.0) in
    let none : drop c.loop-part.part-index c.args.parts.now ≡ [] = drop_all c.loop-part.part-index c.args.parts.now (omega (arith, c.loop-part-test.false)) in
    sym (within_same (with_segments c.args.area.first c.args.area.last (drop c.loop-part.part-index c.args.parts.now)) c.loop-part.rows.items c.loop-part.at c.part-start.result.1 c.loop-part.invariant.at
    (λ rest. ap (λ (p : List (List Cell)). with_segments c.args.area.first c.args.area.last p rest) none))
    ∙ c.loop-part.invariant.is
    ∙ as_whole (with_segments c.args.area.first c.args.area.last c.args.parts.now) xs c.args.area.top c.args.area.bottom c.len.result c.part-start.result.0 c.part-start.result.1 many c.part-start.ensures.start c.part-start.ensures.end
