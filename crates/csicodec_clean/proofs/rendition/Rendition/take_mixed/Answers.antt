use Rattle.std.proofs.Common.{◌+◌, ◌-◌, ◌*◌, ◌∙◌, [], ℕ, sym, ap, drop, length, length-append, replicate, nat_lt, if◌then◌else◌, arith}
use Rattle.csicodec_clean.proofs.Rendered.{kept_by, mixed_long, note_placed, spelling, taken_mixed, taken_mixed_open, told_code, unkept_by}
use Rattle.csicodec_clean.proofs.rendition.Rendition.take_mixed.Goals as goal

pub returns-then-not-passing : goal.returns-then-not-passing
returns-then-not-passing c =
    let v = c.self.inside in
    let taken = taken_mixed_open c.args.passing c.args.note.now (spelling v.styled v.since v.saved) (unkept_by c.args.passing.restores c.if-not-passing.true) c.requires.mixed in
    λ d before later all noted split r begins. taken d before later all noted split r (c.self.view_is ∙ begins)

pub overflow_sub-note : goal.overflow_sub-note
overflow_sub-note c =
    let (of, front, since, styles, split, noted) = c.requires.note in
    omega (arith, c.from-count.ensures, (mixed_long c.args.note.now of front since noted c.requires.mixed).0)

pub split_at-requires-2 : goal.split_at-requires-2
split_at-requires-2 c =
    let note = c.args.note.now in
    let (of, front, since, styles, split, noted) = c.requires.note in
    let (more, wide) = c.requires.wide in
    omega (arith, c.from-front.ensures, (mixed_long note of front since noted c.requires.mixed).1, ap length wide, length-append note more)

pub set_few-requires : goal.set_few-requires
set_few-requires c =
    let note = c.args.note.now in
    let (of, front, since, styles, split, noted) = c.requires.note in
    let (more, wide) = c.requires.wide in (
      since,
      note_placed note c.args.wide.now more c.split_at.result.1.now c.split_at-2.result.1.now of styles front since split noted (sym (told_code note of front since noted) ∙ c.requires.mixed) wide
          (c.split_at.ensures.back ∙ ap (λ (n : ℕ). drop (length note - 2 * n) note) c.from-count.ensures) (c.split_at-2.ensures.back ∙ ap (λ (n : ℕ). drop (4 + n) c.args.wide.now) c.from-front.ensures),
    )

pub returns : goal.returns
returns c =
    let v = c.self.inside in
    let note = c.args.note.now in
    let (more, wide) = c.requires.wide in
    let taken = taken_mixed c.args.passing note c.args.wide.now more c.split_at.result.1.now c.split_at-2.result.1.now (spelling v.styled v.since v.saved) c.clear_behind.new.self
    c.set_few.new.self (kept_by c.args.passing.restores c.if-not-passing.false) c.requires.mixed wide (c.split_at.ensures.back ∙ ap (λ (n : ℕ). drop (length note - 2 * n) note) c.from-count.ensures)
    (c.split_at-2.ensures.back ∙ ap (λ (n : ℕ). drop (4 + n) c.args.wide.now) c.from-front.ensures)
    (c.clear_behind.ensures ∙ ap (λ (n : ℕ). if nat_lt 0 n then replicate 13 [] else v.since) c.from-front.ensures) c.set_few.ensures in
    λ d before later all noted split r begins. taken d before later all noted split r (c.self.view_is ∙ begins)
