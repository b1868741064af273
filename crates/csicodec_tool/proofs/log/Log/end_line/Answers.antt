use Rattle.csicodec_tool.proofs.Common.{◌≡◌, ◌++◌, ◌∙◌, ap, append_assoc, refl, on_ok_weaker, shown_text}
use Rattle.csicodec_tool.proofs.log.Log.end_line.Goals as goal

pub returns : goal.returns
returns c =
    let (painted, ends, made) = c.in_ok-finish.ensures.text in
    let (more, takes, out) = c.in_ok-push.ensures.takes in
    let (close, closes, last) = c.in_ok-finish-2.ensures in
    let whole : c.deref.result.now ≡ painted = c.deref.ensures.value ∙ made ∙ ap (λ t. t ++ painted) c.clear.ensures.items in
    let left = shown_text c.push.new.self.held ++ close in record {
      text = (
        more ++ left,
        rw c.in-Some.is (painted, more, close, c.push.new.self, ends, rw whole at takes, closes, refl),
        last ∙ ap (λ t. t ++ left) out ∙ append_assoc c.args.out.now.items more left,
      );
      begun = ((refl, refl), c.in_ok-finish.ensures.begun, rw c.in-Some.is c.begin.ensures);
    }

pub returns-in_default : goal.returns-in_default
returns-in_default c = record {
  text = on_ok_weaker c.finish.result (λ (rest, ends, made). (rest, rw c.in_default.is ends, made)) c.finish.ensures.text;
  begun = on_ok_weaker c.finish.result (λ begun. ((refl, refl), begun, rw c.in_default.is tt)) c.finish.ensures.begun;
}
