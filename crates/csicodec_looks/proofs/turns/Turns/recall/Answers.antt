use Rattle.csicodec_looks.proofs.Recalled.{told}
use Rattle.csicodec_looks.proofs.turns.Turns.recall.Goals as goal

pub returns-clause-told : goal.returns-clause-told
returns-clause-told g c = λ some.
    let (is, fits) = c.in-Some.ensures in
    told (g.T.Turning.turns c.args.by.now) c.in-Some.turn.now c.args.look.now c.args.front c.args.out.now.items c.append_to.new.out.items
    is fits c.in_ok-append_to.ensures
