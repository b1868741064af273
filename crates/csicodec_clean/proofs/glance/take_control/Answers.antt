use Rattle.std.proofs.Common.{subst, drop}
use Rattle.csicodec_clean.proofs.{Common.GoesTo, Common.bare_at, Chunks.over_escape, Chunks.over_sequence, Chunks.over_si, Chunks.to_none}
use Rattle.csicodec_clean.specs.declared.reading.Sets.{Sets}
use Rattle.csicodec_clean.proofs.glance.take_control.Goals as goal

pub returns-then-bytes-ne33-clause-goes : goal.returns-then-bytes-ne33-clause-goes
returns-then-bytes-ne33-clause-goes g c = over_sequence g.T.Rule.gives c.args.limit c.in_ok-len.len _ _ c.args.sets.now c.args.bytes.now _ _ c.if-bytes-ne33.true
    c.in_ok-len.ensures.within.0 c.in_ok-len.ensures.taken c.in_ok-len.ensures.none

pub returns-then-keeps-clause-goes : goal.returns-then-keeps-clause-goes
returns-then-keeps-clause-goes g c =
    let gives = g.T.Rule.gives in
    let limit = c.args.limit in
    let bytes = c.args.bytes.now in
    let sets = c.args.sets.now in
    let same = rw c.split_at.ensures.front at (c.keeps.ensures c.if-keeps.true) in
    subst (λ (x : Sets). GoesTo gives limit (bare_at c.args.rule.now sets bytes) (bare_at c.escape.new.self x (drop 3 bytes)) c.args.out.now.items c.escape.new.out.items) same
    (over_escape gives limit _ _ sets bytes _ _ (c.begins_with_escape.ensures c.if-begins_with_escape.true) (rw c.split_at-then-keeps.ensures.front at c.in_ok-escape.ensures))

pub returns-then-not-sets-clause-goes : goal.returns-then-not-sets-clause-goes
returns-then-not-sets-clause-goes g c =
    let (some, si) = c.begins_with_si.ensures c.if-begins_with_si.true in
    over_si g.T.Rule.gives c.args.limit c.args.rule.now c.args.sets.now c.args.bytes.now c.args.out.now.items some si c.if-not-sets.true

pub returns-clause-goes : goal.returns-clause-goes
returns-clause-goes g c = to_none g.T.Rule.gives c.args.limit (bare_at c.args.rule.now c.args.sets.now c.args.bytes.now) c.args.out.now.items
