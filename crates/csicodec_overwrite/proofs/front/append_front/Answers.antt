use Rattle.csicodec_overwrite.proofs.Common.{◌≡◌, ◌∙◌, true, sym, rules, subst, arith, AreTurns, plain, same_look, Turned, none_in, refl}
use Rattle.csicodec_overwrite.proofs.{Fronts.front_begins, Fronts.run_last, Fronts.run_written, Fronts.styled_written, LineTexts.chars_shown}
use Rattle.csicodec_overwrite.proofs.front.append_front.Goals as goal

pub returns-then-behind-front-clause-written : goal.returns-then-behind-front-clause-written
returns-then-behind-front-clause-written c =
    rw c.plain.ensures (front_begins (none_in c.args.by.now.1) c.args.by.now.0.now c.args.pen c.args.bytes.now c.args.out.now.items (refl, c.requires.ascii))

pub loop-init : goal.loop-init
loop-init c =
    let bytes = c.args.bytes.now in
    let out = c.args.out.now.items in
    let run = c.split_text.result.0.now in
    let behind = c.split_text.result.1.now in
    let (chars, line) = c.split_text.ensures.text in
    let last = c.plain.result in
    let same = run_last last c.args.pen.look chars run line.2 in
    record {
      bare = c.requires.bare;
      known = subst (AreTurns (Turned (none_in c.args.by.now.1) c.args.by.now.0.now)) (sym c.stand.ensures) c.requires.known;
      even = λ is. same_look _ _ (rw c.eq.ensures at is);
      least = c.saturating_sub.ensures;
      written = run_written (none_in c.args.by.now.1) c.args.by.now.0.now c.args.pen bytes out (refl, c.requires.ascii) bytes run chars behind out c.append_run.new.out.items plain c.args.pen.look
          c.append_run.new.last c.requires.over (front_begins (none_in c.args.by.now.1) c.args.by.now.0.now c.args.pen bytes out (refl, c.requires.ascii)) c.split_text.ensures.parts line
          (omega (arith, c.if-behind-front.false, c.saturating_sub.ensures))
          (rw c.plain.ensures at (c.in_ok-append_run.ensures.looks ∙ same)) (rw c.plain.ensures at (c.in_ok-append_run.ensures.text chars (chars_shown chars line.1) line.2));
    }

pub loop-preserved : goal.loop-preserved
loop-preserved c =
    let kept = c.loop.invariant in
    let more : c.in_ok-append_styled.field-0 ≡ true = search rules in
    let s = c.in_ok-append_styled.ensures.styled more in
    record {
      bare = c.in_ok-append_styled.ensures.bare;
      known = c.in_ok-append_styled.ensures.known;
      even = c.in_ok-append_styled.ensures.even;
      least = s.least ∙ kept.least;
      written = styled_written (none_in c.args.by.now.1) c.args.by.now.0.now c.args.pen c.args.bytes.now c.args.out.now.items (refl, c.requires.ascii)
          c.loop.out.items c.append_styled.new.out.items c.loop.front c.append_styled.new.front c.requires.over (s.least ∙ kept.least) kept.written s;
    }
