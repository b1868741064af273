use Rattle.std.proofs.{Common.ℕ, Common.List, Common.◌++◌, Common.ap, Common.◌∙◌, lemmas.Result.on_ok_weaker}
use Rattle.csicodec_streams.proofs.color.append_color.Goals as goal

pub returns-in-Some-clause-ok : goal.returns-in-Some-clause-ok
returns-in-Some-clause-ok c =
    on_ok_weaker c.push_front.result (λ e. e ∙ ap (λ (l : List ℕ). c.args.out.now ++ l)
    (c.in-Some.ensures c.args.sgr c.args.rest.now c.requires.colored)) c.push_front.ensures.ok
