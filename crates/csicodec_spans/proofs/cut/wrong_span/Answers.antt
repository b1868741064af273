use Rattle.std.proofs.Common.{◌<◌, ◌≤◌, length, take, refl, subst, inr, arith, length-take-le, take_all}
use Rattle.csicodec_tokens.specs.Fault.{Begins}
use Rattle.csicodec_spans.specs.{Parts.IsMalformed, declared.table.Kind.Kind, declared.table.Mode.Mode}
use Rattle.csicodec_spans.proofs.{OneSpan.csi_cut, OneSpan.csi_unsure, OneSpan.malformed, cut.wrong_span.Goals.in-Some, cut.wrong_span.Goals.in-None-2}
use Rattle.csicodec_spans.proofs.cut.wrong_span.Goals as goal

pub returns-in-None-clause-cut : goal.returns-in-None-clause-cut
returns-in-None-clause-cut c = λ m is.
    let lt : length c.args.bytes.now < c.args.limit = omega (arith, c.if-len-limit.true, c.len.ensures) in
    csi_unsure c.args.limit m c.args.bytes.now is (subst Begins (take_all c.args.limit c.args.bytes.now (omega (arith, lt))) (c.in-None.ensures.none _ c.requires), lt)

pub returns-clause-cut : goal.returns-clause-cut
returns-clause-cut c = λ m is.
    let n = c.match-met_at.len in
    let bad : IsMalformed c.args.limit c.args.bytes.now (length (take n c.args.bytes.now)) = elim c.match-met_at.branch [
      | in-Some w ↦ rw w.len-is (malformed c.args.limit w.in-Some.at c.args.bytes.now c.args.error w.in-Some.ensures.some c.requires).1
      | in-None-2 w ↦
          let long : c.args.limit ≤ length c.args.bytes.now = omega (arith, w.if-len-limit.false, w.len.ensures) in
          rw (w.len-is, length-take-le c.args.limit c.args.bytes.now long) (inr (w.in-None.ensures.none _ c.requires, long, refl))
    ] in
    rw c.longest.ensures.kind (c.longest.ensures.cut c.args.limit m (take n c.args.bytes.now) (csi_cut c.args.limit m Mode.BadCsi c.args.bytes.now Kind.Other n is (bad, refl)))
