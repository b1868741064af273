use Rattle.std.proofs.{Common.◌≡◌, Common.◌<◌, Common.ℕ, Common.List, Common.◌++◌, Common.◌∙◌, Common.length, Common.length-append, Common.take, Common.ap}
use Rattle.std.proofs.{Common.arith, Math.Seq.take-append_seam}
use Rattle.csicodec_spans.specs.Visits.{DoesOf, Place, TellsTo}
use Rattle.csicodec_spans.proofs.Driven.{csi_tells, left_within, other_tells, tells_none, tells_on}
use Rattle.csicodec_spans.proofs.driver.tell_sure.Goals as goal

pub loop-to-init : goal.loop-to-init
loop-to-init g c = tells_none g.M.Visit.does _ _

pub returns-in_default-clause-tells : goal.returns-in_default-clause-tells
returns-in_default-clause-tells g c = tells_on g.M.Visit.does _ _ _ _ _ _ c.loop-to.invariant c.in_ok-to.ensures

-- behind some bytes of what is left, less is left
less : {V : Type 0} (does : DoesOf V) (s t : Place V) (a b bytes rest : List ℕ) → TellsTo does s a b t → t.bytes ≡ bytes ++ rest → 0 < length bytes → length rest < length s.bytes
less does s t a b bytes rest x parts some = omega (arith, left_within does s t a b x, ap length parts, length-append bytes rest, some)

pub loop-to-smaller-in_ok-csi_dispatch-in-Some-control : goal.loop-to-smaller-in_ok-csi_dispatch-in-Some-control
loop-to-smaller-in_ok-csi_dispatch-in-Some-control g c =
    less g.M.Visit.does _ _ _ _ _ _ c.in_ok-to.ensures (rw c.in-Some.is at c.in_ok-span.ensures.parts) (rw c.in-Some.is at c.in_ok-span.ensures.some)

pub loop-to-smaller : goal.loop-to-smaller
loop-to-smaller g c =
    less g.M.Visit.does _ _ _ _ _ _ c.in_ok-to.ensures (rw c.in-Some.is at c.in_ok-span.ensures.parts) (rw c.in-Some.is at c.in_ok-span.ensures.some)

pub loop-to-preserved-in_ok-csi_dispatch-in-Some-control : goal.loop-to-preserved-in_ok-csi_dispatch-in-Some-control
loop-to-preserved-in_ok-csi_dispatch-in-Some-control g c =
    let does = g.M.Visit.does in
    let to = c.in_ok-to.to in
    let span = c.in-Some.span in
    let behind = c.next.new.self in
    let found = rw c.in-Some.is at c.in_ok-span.ensures.cut in
    let tokens = rw (c.in-Some.is, c.in-Some-control.is) at c.in_ok-span.ensures.tokens in
    let front : take (length span.bytes.now) to.rest.now ≡ span.bytes.now = ap (take (length span.bytes.now)) (rw c.in-Some.is at c.in_ok-span.ensures.parts) ∙ take-append_seam span.bytes.now behind.rest.now in
    tells_on does _ _ _ _ _ _ (tells_on does _ _ _ _ _ _ c.loop-to.invariant c.in_ok-to.ensures)
    (csi_tells does c.args.limit c.tell_front.new.visitor c.csi_dispatch.new.visitor to.mode behind.mode span.kind to.rest.now span.bytes.now behind.rest.now c.tell_front.new.out c.csi_dispatch.new.out
    c.requires tokens.0 found (rw front at c.in_ok-csi_dispatch-in-Some-control.ensures))

pub loop-to-preserved : goal.loop-to-preserved
loop-to-preserved g c =
    let does = g.M.Visit.does in
    let to = c.in_ok-to.to in
    let span = c.in-Some.span in
    let behind = c.next.new.self in
    let found = rw c.in-Some.is at c.in_ok-span.ensures.cut in
    let other = rw (c.in-Some.is, c.in-None.is) at c.in_ok-span.ensures.tokens in
    let front : take (length span.bytes.now) to.rest.now ≡ span.bytes.now = ap (take (length span.bytes.now)) (rw c.in-Some.is at c.in_ok-span.ensures.parts) ∙ take-append_seam span.bytes.now behind.rest.now in
    tells_on does _ _ _ _ _ _ (tells_on does _ _ _ _ _ _ c.loop-to.invariant c.in_ok-to.ensures)
    (other_tells does c.args.limit c.tell_front.new.visitor c.other.new.visitor to.mode behind.mode span.kind to.rest.now span.bytes.now behind.rest.now c.tell_front.new.out c.other.new.out
    c.requires other found (rw front at c.in_ok-other-in-None.ensures))
