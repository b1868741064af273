use Rattle.std.proofs.{lemmas.Option.IfSome_then, lemmas.Result.IfOk-weaker}
use Rattle.csicodec_parser.proofs.{Fronts.lent_piece, Fronts.piece_front, Fronts.stuck_front, Cuts.front_first, Cuts.front_none, Common.◌∷◌, Common.arith}
use Rattle.csicodec_parser.proofs.{Common.refl, Common.sym, Common.◌∙◌}
use Rattle.csicodec_parser.proofs.list.piece_into.Goals as goal

pub returns-in_default-clause-none : goal.returns-in_default-clause-none
returns-in_default-clause-none g c = λ _. (front_none c.args.group _ (sym c.get.ensures.token ∙ c.in_default.is), refl)

pub returns-then-branch-clause-some : goal.returns-then-branch-clause-some
returns-then-branch-clause-some g c =
    let (action, pieces, put) = c.in_ok-take_first.ensures.some c.if-branch.true in (
      action,
      front_first c.args.group _ c.in-Some.first action (sym c.get.ensures.token ∙ c.in-Some.is)
          (λ others. piece_front c.args.group (c.in-Some.first ∷ others) 1 action (pieces others)),
      put,
    )

pub returns-clause-none : goal.returns-clause-none
returns-clause-none g c =
    let same = lent_piece c.args.group (g.L.Look.tokens c.args.look.now) _ c.lend.result.now (g.L.Look.passed c.args.look.now)
    _ c.len.result c.min-width.result c.get.ensures.list c.get.ensures.passes c.len.ensures (omega arith) c.lend.ensures.lent in
    let stays = c.in_ok-take_first.ensures.none c.if-branch.false in
    IfOk-weaker c.take_piece.result _ _
    (λ len told none. let (stuck, same_sink) = told none in (same ∙ stuck_front c.args.group c.lend.result.now stuck, same_sink ∙ stays)) c.take_piece.ensures.none

pub returns-clause-some : goal.returns-clause-some
returns-clause-some g c =
    let same = lent_piece c.args.group (g.L.Look.tokens c.args.look.now) _ c.lend.result.now (g.L.Look.passed c.args.look.now)
    _ c.len.result c.min-width.result c.get.ensures.list c.get.ensures.passes c.len.ensures (omega arith) c.lend.ensures.lent in
    let stays = c.in_ok-take_first.ensures.none c.if-branch.false in
    IfOk-weaker c.take_piece.result _ _
    (λ o told. IfSome_then o told (λ len piece. let (action, at, put) = piece in (action, same ∙ piece_front c.args.group c.lend.result.now len action at, λ before held. put before (rw stays held))))
    c.take_piece.ensures.some
