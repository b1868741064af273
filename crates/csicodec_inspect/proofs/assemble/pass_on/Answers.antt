use Rattle.csicodec_inspect.proofs.Common.{Err, ap, inl, inr, refl, ◌∙◌, err_from_is_err_and}
use Rattle.csicodec_inspect.proofs.assemble.pass_on.Goals as goal

pub returns-in_err-send : goal.returns-in_err-send
returns-in_err-send g c =
    let (sent, unsent, split, went) = c.in_err-send.ensures.front in
    let e = err_from_is_err_and c.from_residual.result c.from_residual.ensures.1 in
    (sent, went, inr (_, unsent, e.1 ∙ ap Err e.2, split))

pub returns : goal.returns
returns g c = (c.args.made.now, c.in_ok-send.ensures.ok, inl (refl, c.answer.ensures))
