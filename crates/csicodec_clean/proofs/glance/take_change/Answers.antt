use Rattle.std.proofs.Common.{◌∙◌, sym}
use Rattle.csicodec_clean.proofs.{Common.bare_at, Chunks.over_escape, Chunks.over_shift, Chunks.to_none}
use Rattle.csicodec_clean.proofs.glance.take_change.Goals as goal

pub returns-then-begins_with_escape-clause-goes : goal.returns-then-begins_with_escape-clause-goes
returns-then-begins_with_escape-clause-goes g c = λ limit.
    rw (c.escape-then-begins_with_escape.ensures, c.split_at.ensures.front)
    (over_escape g.T.Rule.gives limit _ _ c.args.sets.now c.args.bytes.now _ _ (c.begins_with_escape.ensures c.if-begins_with_escape.true)
    (rw c.split_at.ensures.front at c.in_ok-escape.ensures))

pub returns-in_default-clause-goes : goal.returns-in_default-clause-goes
returns-in_default-clause-goes g c = λ limit. to_none g.T.Rule.gives limit (bare_at c.args.rule.now c.args.sets.now c.args.bytes.now) c.args.out.now.items

pub returns-then-not-is_shift-clause-goes : goal.returns-then-not-is_shift-clause-goes
returns-then-not-is_shift-clause-goes g c = λ limit. to_none g.T.Rule.gives limit (bare_at c.args.rule.now c.args.sets.now c.args.bytes.now) c.args.out.now.items

pub returns-clause-goes : goal.returns-clause-goes
returns-clause-goes g c = λ limit.
    rw c.shift.ensures (over_shift g.T.Rule.gives limit c.args.rule.now c.args.sets.now c.args.bytes.now _ _ c.args.out.now.items c.in-Some.ensures.cases.0 (sym c.is_shift.ensures ∙ c.if-not-is_shift.false))
