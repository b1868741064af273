use Rattle.csicodec_clean.proofs.{Common.state_of, Chunks.to_none, Chunks.untitled_is}
use Rattle.csicodec_clean.proofs.glance.append_front.Goals as goal

pub returns-then-not-is_bare : goal.returns-then-not-is_bare
returns-then-not-is_bare g c = to_none g.T.Rule.gives c.args.limit (state_of c.args.rule.now c.args.mode c.args.reading.now c.args.bytes.now c.args.held.now) c.args.out.now.items

pub returns : goal.returns
returns g c =
    let (mode, titled, held) = c.is_bare.ensures c.if-not-is_bare.false in
    rw (mode, untitled_is c.args.reading.now titled, held) c.append_glance.ensures
