use Rattle.std.proofs.{Common.[], Common.◌∷◌, Common.◌∙◌, Common.sym, lemmas.Result.IfOk-weaker}
use Rattle.csicodec_filter.proofs.Unknown.{known_more, piece_known}
use Rattle.csicodec_filter.proofs.faithful.ToldSink.take_first.Goals as goal

pub returns-clause-some : goal.returns-clause-some
returns-clause-some c =
    IfOk-weaker c.take_first.result _ _
    (λ known h yes.
    let (action, fronts, taken) = h yes in
    let plain = piece_known c.args.group (c.args.first ∷ []) 1 action (fronts []) in
    (action, fronts, λ before held. (taken before held.0, held.1 ∙ sym (known_more before action plain))))
    c.take_first.ensures.some
