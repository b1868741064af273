use Rattle.std.proofs.{Common.◌∙◌, Common.◌++◌, Common.List, Common.ℕ, Common.sym, Common.ap, Common.take, Common.append_assoc, Common.arith}
use Rattle.std.proofs.{lemmas.List.take_all}
use Rattle.std.specs.List.{concat}
use Rattle.csicodec_clean.proofs.Rendered.{next_text}
use Rattle.csicodec_clean.proofs.rendition.StyleTexts.append_to.Goals as goal

pub loop-at-preserved : goal.loop-at-preserved
loop-at-preserved c =
    let own = c.text.result.now in
    let texts = c.args.self.now in
    let front = concat (take c.loop-at.at texts) in
    record {
      few = omega (arith, c.loop-at-test.true);
      many = λ some. c.text.ensures.many;
      joined = c.in_ok-extend_from_slice.ensures.items ∙ ap (λ (l : List ℕ). l ++ own) c.loop-at.invariant.joined
          ∙ append_assoc c.args.out.now.items front own
          ∙ ap (λ (l : List ℕ). c.args.out.now.items ++ l)
          (ap (λ (l : List ℕ). front ++ l) c.text.ensures.own ∙ sym (next_text texts c.loop-at.at (omega (arith, c.text.ensures.many, c.loop-at-test.true))));
    }

pub returns : goal.returns
returns c =
    let some = c.loop-at.invariant.many (omega (arith, c.loop-at-test.false)) in
    c.loop-at.invariant.joined ∙ ap (λ (x : List (List ℕ)). c.args.out.now.items ++ concat x) (take_all c.loop-at.at c.args.self.now (omega (arith, some, c.loop-at-test.false)))
