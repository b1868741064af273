use Rattle.std.proofs.Common.{refl}
use Rattle.csicodec_clean.proofs.{Common.state_of, Chunks.to_none, Chunks.to_on, Chunks.to_span}
use Rattle.csicodec_clean.proofs.spans.append_clean.Goals as goal

pub loop-rest-init : goal.loop-rest-init
loop-rest-init g c = record {
  goes = to_none g.T.Rule.gives c.args.limit (state_of c.args.rule.now c.args.mode c.args.reading.now c.args.bytes.now c.args.held.now.items) c.args.out.now.items;
  short = λ h. h;
}

pub loop-rest-preserved : goal.loop-rest-preserved
loop-rest-preserved g c =
    let gives = g.T.Rule.gives in
    let limit = c.args.limit in
    let found = rw c.in-Some.is at c.in_ok-span.ensures.cut in
    let (more, made, longer) = c.in_ok-append_span.ensures.appended in
    let glance = to_on gives limit _ _ _ _ _ _ c.loop-rest.invariant.goes (rw c.deref.ensures.value at c.in_ok-rest.ensures) in
    rw (c.title_behind-reading.ensures, c.in_ok-append_span.ensures.sets, c.read_as-kind.ensures) (record {
      goes = to_on gives limit _ _ _ _ _ _ glance (to_span gives limit _ _ c.in-Some.span.kind _ more _ _ found (rw c.read_as-kind.ensures at made) refl longer);
      short = λ h. c.in_ok-append_span.ensures.short (c.loop-rest.invariant.short h);
    })

pub returns-in_default-clause-goes : goal.returns-in_default-clause-goes
returns-in_default-clause-goes g c = to_on g.T.Rule.gives c.args.limit _ _ _ _ _ _ c.loop-rest.invariant.goes (rw c.deref.ensures.value at c.in_ok-rest.ensures)
