use Rattle.csicodec_looks.proofs.Common.{◌≡◌, ◌++◌, ◌∙◌, List, ℕ, ⊎_elim, ap, encode_utf8_all, sym, on_ok_weaker, IsPlainByte, IsShown, all_weaker, is_shown, Marking, Plain, Styled, encoded, written}
use Rattle.csicodec_looks.proofs.paint.append_ascii.Goals as goal

pub returns-in-Page : goal.returns-in-Page
returns-in-Page c = rw c.in-Page.is (on_ok_weaker c.append_text.result
    (λ e plain. e c.args.text.now (all_weaker IsPlainByte IsShown is_shown c.args.text.now plain) (encoded c.args.text.now plain))
    c.append_text.ensures)

pub returns-in_ok-extend_from_slice-in-Plain : goal.returns-in_ok-extend_from_slice-in-Plain
returns-in_ok-extend_from_slice-in-Plain c = λ plain.
    let text = c.args.text.now in
    let same : written c.args.marking.now text ≡ encode_utf8_all text =
    ⊎_elim (λ (is : c.args.marking.now ≡ Plain). ap (λ (m : Marking). written m text) is)
    (λ (is : c.args.marking.now ≡ Styled). ap (λ (m : Marking). written m text) is) c.in-Plain.is in
    c.in_ok-extend_from_slice-in-Plain.ensures.items ∙ ap (λ (t : List ℕ). c.args.out.now.items ++ t) (encoded text plain ∙ sym same)
