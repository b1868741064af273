use Rattle.csicodec_looks.proofs.Common.{subst, suc, ◌+◌, ◌≡◌, ◌<◌, ◌-◌, ◌==◌, [], List, ℕ, append-nil, false, ap, refl, sym, ◌∙◌, arith, rules, Option, nat_tests, Line, Marking, glyph, most, Done, done, put, repeat, repeated, Does}
use Rattle.csicodec_looks.proofs.{Moved.repeat_on, Moved.step_text, Repeated.repeat_some, Repeated.width_same}
use Rattle.csicodec_looks.proofs.line.Line.repeat.Goals as goal

pub loop-i-preserved : goal.loop-i-preserved
loop-i-preserved c =
    let l = c.loop-i in
    let n = c.args.count in
    let inserts = c.args.pen.now.inserts in
    let g = glyph c.in-Some.char c.args.pen.now.look in
    let d = put most inserts g l.self in
    let more : n - l._i ≡ suc (n - (l._i + 1)) = omega arith in
    let on = repeat_on most inserts g (n - l._i) (n - (l._i + 1)) l.self more in
    rw c.in_ok-put.ensures.line (record {
      line = rw on at l.invariant.line;
      text = step_text c.args.marking.now l.out.items c.put.new.out.items d.lines (repeat most inserts g (n - (l._i + 1)) d.line).lines _
          c.in_ok-put.ensures.text
          (rw on at l.invariant.text);
    })

-- all of them at once
at_once : (c : goal.In_ok-place_many) → let pen = c.args.pen.now in
    repeated most pen pen.last c.args.count c.args.self.now ≡ done [] c.place_many.new.self
at_once c =
    let pen = c.args.pen.now in
    let n = c.args.count in
    let l = c.args.self.now in
    let g = glyph c.in-Some.char pen.look in
    let w = c.width-columns.result in
    let some : 0 < w = search rules in
    let other : (c.in-Some.char == 9) ≡ false = grind (arith, nat_tests) in
    let room = c.has_room.ensures c.if-has_room.true in
    ap (λ (last : Option ℕ). repeated most pen last n l) c.in-Some.is
    ∙ repeat_some pen.inserts g w some most (λ column. width_same c.in-Some.char column 0 other ∙ sym c.width-columns.ensures) n l room.0 room.1
    ∙ ap (done []) (sym c.in_ok-place_many.ensures)

-- no line is over
alone : (marking : Marking) (l : Line) (out : List ℕ) → Does marking (done [] l) l out out
alone marking l out = record { line = refl; text = sym (append-nil out) }

pub returns-then-has_room : goal.returns-then-has_room
returns-then-has_room c =
    let out = c.args.out.now.items in
    subst (λ (d : Done). Does c.args.marking.now d c.place_many.new.self out out) (sym (at_once c)) (alone c.args.marking.now c.place_many.new.self out)
