use Rattle.csicodec_listing.proofs.Common.{◌∷◌, [], sym, append-nil, refl, arith, err_from_is_err_and, on_ok_weaker}
use Rattle.csicodec_listing.proofs.Joined.{at_end, at_refusal, one_end, one_run, refused_by, refused_then}
use Rattle.csicodec_listing.proofs.lines.Assembler.take.Goals as goal

pub loop-line-init : goal.loop-line-init
loop-line-init g c = record {
  front = [];
  lines = [];
  text = [];
  parts = refl;
  passes = record { lines = λ more. refl; all = refl };
  counts = refl;
  appends = sym (append-nil c.args.out.now.items);
}

pub loop-line-preserved : goal.loop-line-preserved
loop-line-preserved g c =
    let split = c.in-Some.ensures in
    let held = c.in_ok-hold.ensures in
    let ended = c.in_ok-end_line.ensures in
    let now = c.hold.new.self in
    let same = now.line.ok.0 in
    let bound = now.bounded in
    one_end (one_run c.in-Some.line.now (10 ∷ c.in-Some.behind.now) c.loop-line.invariant split.whole split.first held.held held.over)
    (omega (arith, same, bound)) ended.begins ended.over ended.bytes

pub returns-in_err-hold-clause-told : goal.returns-in_err-hold-clause-told
returns-in_err-hold-clause-told g c =
    let held = c.in_err-hold.ensures in
    let e = err_from_is_err_and c.from_residual.result c.from_residual.ensures.1 in
    rw (e.1, e.2) (at_refusal _ c.loop-line.invariant (refused_then _ c.loop-line.self.line.items c.in-Some.line.now (10 ∷ c.in-Some.behind.now) _ c.in-Some.ensures.whole held.told) held.same held.over refl)

pub returns-in_err-end_line-clause-told : goal.returns-in_err-end_line-clause-told
returns-in_err-end_line-clause-told g c =
    let split = c.in-Some.ensures in
    let held = c.in_ok-hold.ensures in
    let ended = c.in_err-end_line.ensures in
    let now = c.hold.new.self in
    let same = now.line.ok.0 in
    let bound = now.bounded in
    let behind = c.in-Some.behind.now in
    let r = c.from_residual-in_err-end_line in
    let e = err_from_is_err_and r.result r.ensures.1 in
    rw (e.1, e.2)
    (at_refusal _ (one_run c.in-Some.line.now (10 ∷ behind) c.loop-line.invariant split.whole split.first held.held held.over)
    (refused_then _ now.line.items (10 ∷ []) behind _ refl (refused_by _ now.line.items (omega (arith, same, bound)) ended.told)) ended.same ended.stays ended.kept)

pub returns-clause-bytes : goal.returns-clause-bytes
returns-clause-bytes g c =
    let rest = c.loop-line.rest.now in
    on_ok_weaker c.hold-2.result (λ held.
    at_end (one_run rest [] c.loop-line.invariant (sym (append-nil rest)) c.in_default.ensures.none held c.hold-2.ensures.over)) c.hold-2.ensures.held
