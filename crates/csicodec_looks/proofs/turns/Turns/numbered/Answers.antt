use Rattle.std.proofs.{Common.◌<◌, Common.length, Common.sym, Common.subst, Common.arith, lemmas.List.Elements.All-get_or}
use Rattle.csicodec_looks.proofs.Common.{IsTurn}
use Rattle.csicodec_looks.proofs.turns.Turns.numbered.Goals as goal

pub returns-then-fits : goal.returns-then-fits
returns-then-fits g c =
    let turn = c.index-turn.result.now in
    let items = c.args.self.now.kept.items in
    let place = c.from-at.result in
    let within : place < length items = omega (arith, c.if-at-len.false, c.len.ensures) in
    (subst (IsTurn (g.T.Turning.turns c.args._by.now)) (sym c.index-turn.ensures) (All-get_or (IsTurn (g.T.Turning.turns c.args._by.now)) items place turn within c.requires), c.fits.ensures c.if-fits.true)
