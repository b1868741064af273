use Rattle.std.proofs.{Common.take-take, Common.ℕ, Common.List, Common.◌++◌, Common.ap, Common.take, Common.◌∙◌, lemmas.Result.on_ok_weaker}
use Rattle.csicodec_streams.proofs.position.append_front.Goals as goal

pub returns-in-Some-clause-ok : goal.returns-in-Some-clause-ok
returns-in-Some-clause-ok c =
    let same = ap (λ (l : List ℕ). take c.args.len l) c.in-Some.ensures.cases.same ∙ take-take c.args.len 48 c.args.bytes.now c.if-len-le-WIDE.true in
    on_ok_weaker c.push_front.result (λ e. e ∙ ap (λ (l : List ℕ). c.args.out.now ++ l) same) c.push_front.ensures.ok
