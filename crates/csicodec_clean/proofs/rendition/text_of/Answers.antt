use Rattle.std.proofs.Common.{◌+◌, ◌-◌, ◌*◌, ◌∙◌, ℕ, ap, take, drop, length, arith}
use Rattle.csicodec_clean.proofs.Rendered.{mixed_long, text_mixed}
use Rattle.csicodec_clean.proofs.rendition.text_of.Goals as goal

pub overflow_sub-result : goal.overflow_sub-result
overflow_sub-result c =
    let (of, front, since, styles, split, noted) = c.requires in
    omega (arith, c.from.ensures, (mixed_long c.args.note.now of front since noted c.if-note-eq-MIXED.true).0)

pub returns-then-note-eq-MIXED-clause-text : goal.returns-then-note-eq-MIXED-clause-text
returns-then-note-eq-MIXED-clause-text c = λ of front since noted.
    let note = c.args.note.now in
    ap (λ (n : ℕ). take (length note - (4 + 2 * n)) (drop 4 note)) c.from.ensures ∙ text_mixed note c.if-note-eq-MIXED.true of front since noted
