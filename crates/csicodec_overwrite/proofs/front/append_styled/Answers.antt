use Rattle.csicodec_overwrite.proofs.Common.{◌≡◌, ◌++◌, ◌∙◌, ℕ, List, true, false, refl, sym, ap, subst, append_assoc, rules, arith, AreTurns, LineFront, last_of_run, Turned, none_in}
use Rattle.csicodec_overwrite.proofs.{Fronts.run_last, Fronts.run_some, LineTexts.chars_shown}
use Rattle.csicodec_overwrite.proofs.front.append_styled.Goals as goal

pub returns-then-not-is_empty-clause-styled : goal.returns-then-not-is_empty-clause-styled
returns-then-not-is_empty-clause-styled c = λ _.
    let run = c.split_text.result.0.now in
    let first = c.args.front.now in
    let new = c.append_even.new.front in
    let (chars, line) = c.split_text.ensures.text in
    let even : c.in_ok-append_even.field-0 ≡ true = search rules in
    let ((sets, same), longer) = c.in_ok-append_even.ensures.turned even in
    let none : c.is_empty.result ≡ false = search rules in
    let some : last_of_run first.last new.now chars ≡ new.now = run_some first.last new.now chars run line.2 (sym c.is_empty.ensures ∙ none) in
    record {
      sequence = c.split_at.result.0.now;
      text = run;
      run = chars;
      parts = c.split_at.ensures.by_index.0 ∙ ap (λ (t : List ℕ). c.split_at.result.0.now ++ t) c.split_text.ensures.parts;
      sets = rw c.split_at.ensures.front sets;
      plain = line;
      room = omega (arith, c.if-behind-front.false, ap (λ (f : LineFront). f.least) same);
      least = ap (λ (f : LineFront). f.least) same;
      looks = ap (λ (f : LineFront). f.last) same ∙ sym some;
      longer = rw (c.in_ok-append_written.ensures chars (chars_shown chars line.1) line.2, longer, some, append_assoc) refl;
    }

pub returns-clause-styled : goal.returns-clause-styled
returns-clause-styled c = λ _.
    let run = c.split_text.result.0.now in
    let (chars, line) = c.split_text.ensures.text in
    let turned : c.in_ok-turn_bytes.field-0 ≡ true = search rules in
    record {
      sequence = c.split_at.result.0.now;
      text = run;
      run = chars;
      parts = c.split_at.ensures.by_index.0 ∙ ap (λ (t : List ℕ). c.split_at.result.0.now ++ t) c.split_text.ensures.parts;
      sets = c.in_ok-turn_bytes.ensures.sets turned;
      plain = line;
      room = omega (arith, c.if-behind-front.false);
      least = refl;
      looks = c.in_ok-append_run.ensures.looks ∙ run_last c.args.front.now.last c.turn_bytes.new.look chars run line.2;
      longer = c.in_ok-append_run.ensures.text chars (chars_shown chars line.1) line.2;
    }

pub returns-clause-known : goal.returns-clause-known
returns-clause-known c = subst (AreTurns (Turned (none_in c.args.by.now.1) c.args.by.now.0.now)) (sym c.stand.ensures) c.requires.known

pub returns-clause-even : goal.returns-clause-even
returns-clause-even c = λ some.
    let run = c.split_text.result.0.now in
    let (chars, line) = c.split_text.ensures.text in
    let none : c.is_empty-2.result ≡ false = search rules in
    c.in_ok-append_run.ensures.looks
    ∙ run_last c.args.front.now.last c.turn_bytes.new.look chars run line.2
    ∙ run_some c.args.front.now.last c.turn_bytes.new.look chars run line.2 (sym c.is_empty-2.ensures ∙ none)
