use Rattle.csicodec_filter.proofs.Written.{place_passed}
use Rattle.csicodec_filter.proofs.filter.append_spans.Goals as goal

pub returns-clause-passes : goal.returns-clause-passes
returns-clause-passes g c =
    let own = c.in_ok-used.ensures in
    let (text, passed, is) = (place_passed g.T.Rewrite.writes c.args.limit c.args.rewrite.now _ c.args.mode _ c.args.bytes.now _ _ _ c.requires own.unsure own.tells).0 in
    (own.within, text, passed, is)

pub returns-clause-same : goal.returns-clause-same
returns-clause-same g c =
    let own = c.in_ok-used.ensures in
    (place_passed g.T.Rewrite.writes c.args.limit c.args.rewrite.now _ c.args.mode _ c.args.bytes.now _ _ _ c.requires own.unsure own.tells).1
