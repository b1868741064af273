use Rattle.csicodec_overwrite.proofs.Common.{◌≡◌, ◌++◌, ◌∙◌, List, ℕ, ⊎_elim, ap, encode_utf8_all, sym, Marking, Plain, Styled, written}
use Rattle.csicodec_overwrite.proofs.front.append_written.Goals as goal

pub returns-in-Page : goal.returns-in-Page
returns-in-Page c = rw c.in-Page.is c.append_text.ensures

pub returns-in_ok-extend_from_slice-in-Plain : goal.returns-in_ok-extend_from_slice-in-Plain
returns-in_ok-extend_from_slice-in-Plain c = λ chars shown own.
    let same : written c.args.marking.now chars ≡ encode_utf8_all chars =
    ⊎_elim (λ (is : c.args.marking.now ≡ Plain). ap (λ (m : Marking). written m chars) is)
    (λ (is : c.args.marking.now ≡ Styled). ap (λ (m : Marking). written m chars) is) c.in-Plain.is in
    c.in_ok-extend_from_slice-in-Plain.ensures.items ∙ ap (λ (t : List ℕ). c.args.out.now.items ++ t) (own ∙ sym same)
