use Rattle.std.proofs.Common.{List, [], ◌≡◌, ℕ, false, inl, inr, refl, sym, ap, ◌∙◌, arith, length}
use Rattle.csicodec_tokens.proofs.Reading.{one_seq}
use Rattle.csicodec_parser.proofs.Cuts.{one_segmentation}
use Rattle.csicodec_streams.specs.{Decoding.NormalisesTo, Faithful.IsShortForm, Faithful.is_kept, Faithful.longest}
use Rattle.csicodec_streams.proofs.Common.{cases_Bool, cases_lt, texts, one_decoding}
use Rattle.csicodec.proofs.laws.one_normal_form.Goals as goal

one_form : (bytes one other : List ℕ) → NormalisesTo bytes one → NormalisesTo bytes other → one ≡ other
one_form bytes one other x y = x.2 ∙ ap texts (one_decoding bytes false x.0 y.0 x.1 y.1) ∙ sym y.2

one_short : (bytes one other : List ℕ) → IsShortForm bytes one → IsShortForm bytes other → one ≡ other
one_short bytes one other (form, n, short, long) (again, k, small, large) =
    let same = one_form bytes form again n k in
    elim (cases_lt longest (length form)) [
      | inl more ↦ long more ∙ sym (large (omega (arith, more, ap length same)))
      | inr fits ↦ short fits ∙ same ∙ sym (small (omega (arith, fits, ap length same)))
    ]

pub returns-clause-normal : goal.returns-clause-normal
returns-clause-normal c = one_form

pub returns-clause-faithful : goal.returns-clause-faithful
returns-clause-faithful c = λ bytes one other x y.
    let same = one_seq bytes bytes [] [] x.0 y.0 x.1 y.1 x.3 y.3 refl in
    let all : x.2 ≡ y.2 = one_segmentation x.0 false x.1 x.2 y.2 x.4 (rw (same.1, same.2) y.4) in
    let kept : is_kept y.0 y.1 y.2 ≡ is_kept x.0 x.1 x.2 = rw (same.1, same.2, all) refl in
    elim (cases_Bool (is_kept x.0 x.1 x.2)) [
      | inl stays ↦ x.5 stays ∙ sym (y.5 (kept ∙ stays))
      | inr free ↦ one_short bytes one other (x.6 free) (y.6 (kept ∙ free))
    ]
