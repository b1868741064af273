use Rattle.std.proofs.Common.{◌≤◌, ◌+◌, ◌*◌, length, vec_capacity, refl, sym, ap, arith, length-take-le, take-append-drop, ◌∙◌}
use Rattle.csicodec_spans.specs.Parts.{Cuts, IsUnsure}
use Rattle.csicodec_tokens.specs.declared.count.Count.{Count}
use Rattle.csicodec_spans.proofs.cut.Cutter.next.Goals.{in-Csi+in-Err+in_default-error, in_default, In-Some, In-None}
use Rattle.csicodec_spans.proofs.{OneSpan.refused, Missed.IsFound, Missed.cut_some}
use Rattle.csicodec_spans.proofs.cut.Cutter.next.Goals as goal

pub wrong_span-requires : goal.wrong_span-requires
wrong_span-requires c = refused _ _ c.in-Err.error c.in_default-error.not-Memory c.in-Err.ensures.refused

-- the span that was found, the room that is kept, and the looks
found : (c : In-Some) → IsFound c.args.limit c.args.self.now.mode c.new-input.result c.in-Some.extent
    × (vec_capacity c.args.params.now ≤ vec_capacity c.match-look.params) × (c.match-look.looks.total ≤ c.args.looks.now.total + (4 * c.in-Some.extent.len + 8))
found c = elim c.match-look.branch [
  | in-Csi+in-Err+in_default-error w ↦
      let t = rw (sym w.extent-is ∙ c.in-Some.is) at w.wrong_span.ensures in (
        record { within = t.within; kind = t.kind; cut = t.cut c.args.self.now.mode (sym c.look.ensures.is ∙ w.in-Csi.is); maximal = t.maximal },
        rw w.params-is w.read.ensures.kept,
        omega (arith, t.costs, ap (λ (l : Count). l.total) w.looks-is, w.in-Err.ensures.costs, c.look.ensures.costs),
      )
  | in_default w ↦
      let t = rw (sym w.extent-is ∙ c.in-Some.is) at w.other_span-extent.ensures in (
        record { within = t.within; kind = t.kind; cut = t.cut c.args.limit; maximal = t.maximal },
        rw w.params-is (omega arith),
        omega (arith, t.costs, ap (λ (l : Count). l.total) w.looks-is, c.look.ensures.costs),
      )
]

pub split-cut-requires-in-Some : goal.split-cut-requires-in-Some
split-cut-requires-in-Some c = rw c.new-input.ensures at (found (goal.at.split-cut-requires-in-Some c).In-Some).0.within

pub returns-in-Some : goal.returns-in-Some
returns-in-Some c =
    let (f, kept, costs) = found (goal.at.returns-in-Some c).In-Some in
    let e = c.split-cut-in-Some.ensures in
    let mode = c.args.self.now.mode in
    let bytes = c.args.self.now.rest.now in
    let cut : Cuts c.args.limit mode bytes c.split-cut-in-Some.result.span.kind c.split-cut-in-Some.result.span.bytes.now c.split-cut-in-Some.result.rest.now c.split-cut-in-Some.result.mode =
    rw (e.kind, e.mode, e.text, e.rest) (rw c.new-input.ensures at f.cut) in
    record {
      parts = rw (e.text, e.rest) (sym (take-append-drop c.in-Some.extent.len bytes));
      some = cut_some c.args.limit mode bytes _ _ _ _ c.requires cut;
      tokens = rw e.kind f.kind;
      cut = cut;
      maximal = rw (e.kind, e.mode, e.rest) (rw c.new-input.ensures at f.maximal);
      still = tt;
      memory = tt;
      kept = kept;
      cheap = omega (arith, costs, ap length e.text, length-take-le c.in-Some.extent.len bytes (rw c.new-input.ensures at f.within));
    }

-- nothing is sure, and the same is kept and counted
none : (c : In-None) → IsUnsure c.args.limit c.args.self.now.mode c.new-input.result
    × (vec_capacity c.args.params.now ≤ vec_capacity c.match-look.params) × (c.match-look.looks.total ≤ c.args.looks.now.total + (length c.new-input.result + 3))
none c = elim c.match-look.branch [
  | in-Csi+in-Err+in_default-error w ↦
      let t = rw (sym w.extent-is ∙ c.in-None.is) at w.wrong_span.ensures in (
        t.cut c.args.self.now.mode (sym c.look.ensures.is ∙ w.in-Csi.is),
        rw w.params-is w.read.ensures.kept,
        omega (arith, t.costs, ap (λ (l : Count). l.total) w.looks-is, w.in-Err.ensures.costs, c.look.ensures.costs),
      )
  | in_default w ↦
      let t = rw (sym w.extent-is ∙ c.in-None.is) at w.other_span-extent.ensures in
      (t.cut c.args.limit, rw w.params-is (omega arith), omega (arith, t.costs, ap (λ (l : Count). l.total) w.looks-is, c.look.ensures.costs))
]

pub returns-in-None : goal.returns-in-None
returns-in-None c =
    let (unsure, kept, costs) = none c in
    record { parts = tt; some = tt; tokens = tt; cut = rw c.new-input.ensures at unsure; maximal = tt; still = (refl, refl); memory = tt; kept = kept; cheap = rw c.new-input.ensures at costs }
