use Rattle.csicodec_looks.proofs.Common.{IsTurn}
use Rattle.std.proofs.lemmas.List.Elements.{All-push, All-set}
use Rattle.csicodec_looks.proofs.turns.Turns.put.Goals as goal

pub returns-then-at-len : goal.returns-then-at-len
returns-then-at-len g c =
    let items = c.make_places.new.self.kept.items in
    All-set (IsTurn (g.T.Turning.turns c.args._by.now)) items c.from-at.result c.args.turn c.requires.turn c.in_ok-make_places.ensures

pub returns-in_err-push : goal.returns-in_err-push
returns-in_err-push g c = rw c.in_err-push.ensures.items c.in_ok-make_places.ensures

pub returns : goal.returns
returns g c =
    let items = c.make_places.new.self.kept.items in
    rw c.in_ok-push.ensures.items (All-push (IsTurn (g.T.Turning.turns c.args._by.now)) items c.args.turn c.in_ok-make_places.ensures c.requires.turn)
