use Rattle.csicodec_looks.proofs.{Common.◌≡◌, Common.◌++◌, Common.◌∷◌, Common.ap, Common.◌∙◌, Common.of_chars, Rows.does_on}
use Rattle.csicodec_looks.proofs.row.Row.put_text.Goals as goal

pub loop-byte-preserved : goal.loop-byte-preserved
loop-byte-preserved c =
    let l = c.loop-byte in
    let step = c.char_step.result in
    let steps = of_chars c.in-Some.behind.now in
    let e = c.in_ok-take.ensures in
    let run = c.in_ok-rest-2.ensures in
    let split : of_chars l.rest.now ≡ step ∷ steps = ap of_chars c.in-Some.ensures.cases.0 ∙ ap (λ xs. xs ++ steps) c.char_step.ensures in
    let still = does_on step steps (rw split at l.invariant.still) e.does e.pen in
    record { plain = run.plain; still = record { line = rw run.same at still.line; pen = rw run.pens at still.pen; text = rw run.same at still.text } }
