use Rattle.csicodec_tool.proofs.Common.{◌≡◌, ◌++◌, ◌∙◌, ap, refl, on_ok_weaker}
use Rattle.csicodec_tool.proofs.log.Log.take_part.Goals as goal

pub returns : goal.returns
returns c =
    let (painted, passes, made) = c.in_ok-push.ensures.passes in
    let whole : c.deref.result.now ≡ painted = c.deref.ensures.value ∙ made ∙ ap (λ t. t ++ painted) c.clear.ensures.items in
    on_ok_weaker c.push-3.result
    (λ (more, takes, out). (more, ((refl, refl), rw c.in-Some.is (painted, passes, rw whole at takes)), out))
    c.push-3.ensures.takes

pub returns-in_default : goal.returns-in_default
returns-in_default c = on_ok_weaker c.push.result (λ (text, passes, made). (text, ((refl, refl), rw c.in_default.is passes), made)) c.push.ensures.passes
