use Rattle.std.proofs.Common.{take, sym, ◌∙◌, refl, inl, inr}
use Rattle.csicodec_spans.specs.declared.table.Ahead.TheVariants.{GoesOn, Ends, New, Esc}
use Rattle.csicodec_spans.proofs.OneSpan.{taken_within, taken_cut, is_unsure}
use Rattle.csicodec_spans.proofs.cut.other_span.Goals as goal

pub longest-requires-clause-within : goal.longest-requires-clause-within
longest-requires-clause-within c = (taken_within c.args.mode c.args.bytes.now (GoesOn c.in-GoesOn.len) _ _ _ (sym c.requires.front ∙ c.in-GoesOn.is) (inl refl)).1

pub longest-requires-in-New-clause-within : goal.longest-requires-in-New-clause-within
longest-requires-in-New-clause-within c = (taken_within c.args.mode c.args.bytes.now (New c.in-New.len c.in-New.next) _ _ _ (sym c.requires.front ∙ c.in-New.is) (inr refl)).1

pub returns-in-Ends-clause-within : goal.returns-in-Ends-clause-within
returns-in-Ends-clause-within c = (taken_within c.args.mode c.args.bytes.now (Ends c.in-Ends.len) _ _ _ (sym c.requires.front ∙ c.in-Ends.is) (inl refl)).1

pub returns-in-Esc-clause-within : goal.returns-in-Esc-clause-within
returns-in-Esc-clause-within c = (taken_within c.args.mode c.args.bytes.now (Esc c.in-Esc.len) _ _ _ (sym c.requires.front ∙ c.in-Esc.is) (inr refl)).1

pub returns-in-GoesOn-clause-cut : goal.returns-in-GoesOn-clause-cut
returns-in-GoesOn-clause-cut c = λ limit.
    let is = sym c.requires.front ∙ c.in-GoesOn.is in
    let e = c.longest.ensures in
    rw e.kind (e.cut limit c.args.mode (take c.in-GoesOn.len c.args.bytes.now)
    (rw c.kind.ensures (taken_cut limit c.args.mode c.args.bytes.now (GoesOn c.in-GoesOn.len) _ _ _ is (inl refl))))

pub returns-in-Ends-clause-cut : goal.returns-in-Ends-clause-cut
returns-in-Ends-clause-cut c = λ limit.
    let is = sym c.requires.front ∙ c.in-Ends.is in
    rw c.kind-in-Ends.ensures (taken_cut limit c.args.mode c.args.bytes.now (Ends c.in-Ends.len) _ _ _ is (inl refl))

pub returns-in-New-clause-cut : goal.returns-in-New-clause-cut
returns-in-New-clause-cut c = λ limit.
    let is = sym c.requires.front ∙ c.in-New.is in
    let e = c.longest-in-New.ensures in
    rw e.kind (e.cut limit c.args.mode (take c.in-New.len c.args.bytes.now)
    (rw c.kind-in-New.ensures (taken_cut limit c.args.mode c.args.bytes.now (New c.in-New.len c.in-New.next) _ _ _ is (inr refl))))

pub returns-in-Esc-clause-cut : goal.returns-in-Esc-clause-cut
returns-in-Esc-clause-cut c = λ limit.
    taken_cut limit c.args.mode c.args.bytes.now (Esc c.in-Esc.len) _ _ _ (sym c.requires.front ∙ c.in-Esc.is) (inr refl)

pub returns-in-Csi-clause-cut : goal.returns-in-Csi-clause-cut
returns-in-Csi-clause-cut c = λ limit. elim c.in-Csi.is [
  | inl csi ↦ absurd (c.requires.other csi)
  | inr unsure ↦ is_unsure limit c.args.mode c.args.bytes.now (sym c.requires.front ∙ unsure)
]
