use Rattle.csicodec_clean.proofs.glance.append_ahead.Goals as goal

pub returns : goal.returns
returns g c = c.in_ok-rest.ensures c.args.rule.now c.args.limit
