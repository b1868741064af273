use Rattle.csicodec_spans.proofs.{Driven.parted, Once.unsure_short}
use Rattle.csicodec_filter.specs.Rewrites.{Rewrites}
use Rattle.csicodec_filter.proofs.Written.{pushes_passed}
use Rattle.csicodec_filter.proofs.filter.Filter.push.Goals as goal

pub returns-clause-passes : goal.returns-clause-passes
returns-clause-passes g c = rw (← c.self.view_is) ((pushes_passed g.R.Rewrite.writes _ c.push.new.self c.args.bytes.now _ _ c.in_ok-push.ensures).0)

pub returns-clause-limit : goal.returns-clause-limit
returns-clause-limit g c = rw (← c.self.view_is) ((parted (Rewrites g.R.Rewrite.writes) _ c.push.new.self c.args.bytes.now _ _ c.in_ok-push.ensures).limit)

pub returns-clause-same : goal.returns-clause-same
returns-clause-same g c = rw (← c.self.view_is) ((pushes_passed g.R.Rewrite.writes _ c.push.new.self c.args.bytes.now _ _ c.in_ok-push.ensures).1)

pub returns-clause-short : goal.returns-clause-short
returns-clause-short g c =
    let p = parted (Rewrites g.R.Rewrite.writes) _ c.push.new.self c.args.bytes.now _ _ c.in_ok-push.ensures in
    rw p.limit (unsure_short _ _ _ p.unsure)
