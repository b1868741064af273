use Rattle.std.proofs.{Common.◌≡◌, Common.◌++◌, Common.[], Common.refl, Common.rules, lemmas.Result.on_ok_weaker}
use Rattle.csicodec_transform.proofs.Sent.{adds_all, adds_none, adds_on}
use Rattle.csicodec_transform.proofs.transform.take_read.Goals as goal

pub loop-rest-init : goal.loop-rest-init
loop-rest-init g c = record { stands = c.requires; goes = adds_none g.T.Transform.passes c.args.transform.now c.args.bytes.now c.args.out.now.items }

pub loop-rest-preserved : goal.loop-rest-preserved
loop-rest-preserved g c =
    let parts : c.loop-rest.rest.now ≡ c.split_at.result.0.now ++ c.split_at.result.1.now = search rules in
    record {
      stands = c.in_ok-take.ensures.stands;
      goes = adds_on g.T.Transform.passes _ _ _ _ _ _ _ _ _ c.loop-rest.invariant.goes (c.split_at.result.0.now, parts, c.in_ok-take.ensures.passes);
    }

pub returns-then-is_all-clause-passes : goal.returns-then-is_all-clause-passes
returns-then-is_all-clause-passes g c =
    on_ok_weaker c.pause.result
    (λ paused.
    adds_all g.T.Transform.passes _ _ _ c.loop-rest.rest.now _ _ (adds_on g.T.Transform.passes _ _ _ _ _ _ _ _ _ c.loop-rest.invariant.goes ([], refl, paused)) (search rules))
    c.pause.ensures.passes

pub returns-clause-passes : goal.returns-clause-passes
returns-clause-passes g c = adds_all g.T.Transform.passes _ _ _ c.loop-rest.rest.now _ _ c.loop-rest.invariant.goes (search rules)
