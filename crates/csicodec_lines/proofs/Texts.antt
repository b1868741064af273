-- Texts of lines, joined.
use Rattle.std.proofs.Common.{◌≡◌, ℕ, false, List, [], ◌∷◌, ◌++◌, refl, sym, ap, ◌∙◌, append_assoc, append-nil}
use Rattle.csicodec_clean.specs.{Shown.shown, Styled.IsSafe, Styled.IsStyledIn, Styled.Shown, Styled.item_texts, Styled.links_of, Styled.styles_of}
use Rattle.csicodec_clean.specs.{declared.styles.Passing.Passing}
use Rattle.csicodec_clean.proofs.{Linked.linked_on, Plain.strips_plain, Plain.text_on, Plain.all_both, Rendered.open_on, Styled.links_both, Styled.styled}
use Rattle.csicodec_clean.proofs.{Styled.styles_both, Styled.texts_both}
use Rattle.csicodec_lines.specs.Lines.{AreOf, joined}
use Rattle.csicodec_lines.proofs.Common.{IsPlain, Strips, longest, StylesIn, ByLines, ended}

-- ---- a text more

pub joined_on : (texts : List (List ℕ)) (text : List ℕ) → joined (texts ++ text ∷ []) ≡ ended texts ++ text
joined_on [] text = refl
joined_on (t ∷ []) text = sym (append_assoc t (10 ∷ []) text)
joined_on (t ∷ u ∷ us) text = ap (λ (x : List ℕ). t ++ 10 ∷ x) (joined_on (u ∷ us) text) ∙ sym (append_assoc t (10 ∷ ended (u ∷ us)) text)

pub ended_on : (texts : List (List ℕ)) (text : List ℕ) → ended (texts ++ text ∷ []) ≡ ended texts ++ (text ++ 10 ∷ [])
ended_on [] text = refl
ended_on (t ∷ ts) text = ap (λ (x : List ℕ). t ++ 10 ∷ x) (ended_on ts text) ∙ sym (append_assoc t (10 ∷ ended ts) (text ++ 10 ∷ []))

-- and others behind it
pub joined_front : (texts others : List (List ℕ)) (text : List ℕ) → (more : List ℕ) × (joined (texts ++ text ∷ others) ≡ ended texts ++ (text ++ more))
joined_front [] [] text = ([], sym (append-nil text))
joined_front [] (o ∷ others) text = (10 ∷ joined (o ∷ others), refl)
joined_front (t ∷ []) others text = let (more, e) = joined_front [] others text in (more, rw e (sym (append_assoc t (10 ∷ []) (text ++ more))))
joined_front (t ∷ u ∷ us) others text =
    let (more, e) = joined_front (u ∷ us) others text in (more, rw e (sym (append_assoc t (10 ∷ ended (u ∷ us)) (text ++ more))))

-- ---- which lines they are of

module _ (Out : List ℕ → List ℕ → Type 0) where
  pub of_on : (lines texts : List (List ℕ)) (line text : List ℕ) → AreOf Out lines texts → Out line text → AreOf Out (lines ++ line ∷ []) (texts ++ text ∷ [])
  of_on [] texts line text none h = (text, [], ap (λ (ts : List (List ℕ)). ts ++ text ∷ []) none, h, refl)
  of_on (l ∷ ls) texts line text (t, ts, e, first, rest) h = (t, ts ++ text ∷ [], ap (λ (us : List (List ℕ)). us ++ text ∷ []) e, first, of_on ls ts line text rest h)

  -- texts of lines in front of others
  pub record Parted (front behind texts : List (List ℕ)) : Type 0 where
    pub ahead : List (List ℕ)
    pub later : List (List ℕ)
    pub all : texts ≡ ahead ++ later
    pub first : AreOf Out front ahead
    pub rest : AreOf Out behind later

  pub parted : (front behind texts : List (List ℕ)) → AreOf Out (front ++ behind) texts → Parted front behind texts
  parted [] behind texts h = record { ahead = []; later = texts; all = refl; first = refl; rest = h }
  parted (l ∷ ls) behind texts (t, ts, e, first, rest) =
      let p = parted ls behind ts rest in
      record { ahead = t ∷ p.ahead; later = p.later; all = e ∙ ap (λ (us : List (List ℕ)). t ∷ us) p.all; first = (t, p.ahead, refl, first, p.first); rest = p.rest }

  pub same_texts : ((line text other : List ℕ) → Out line text → Out line other → text ≡ other) → (lines texts others : List (List ℕ)) → AreOf Out lines texts → AreOf Out lines others → texts ≡ others
  same_texts one [] texts others e f = e ∙ sym f
  same_texts one (l ∷ ls) texts others (t, ts, e, first, rest) (u, us, f, other, more) =
      e ∙ ap (λ (x : List ℕ). x ∷ ts) (one l t u first other) ∙ ap (λ (xs : List (List ℕ)). u ∷ xs) (same_texts one ls ts us rest more) ∙ sym f

  pub one_text : ((line text other : List ℕ) → Out line text → Out line other → text ≡ other) → (bytes text other : List ℕ) → ByLines Out bytes text → ByLines Out bytes other → text ≡ other
  one_text one bytes text other l k = l.all ∙ ap joined (same_texts one _ l.texts k.texts l.each k.each) ∙ sym k.all

module _ (Out Other : List ℕ → List ℕ → Type 0) (each : (line text : List ℕ) → Out line text → Other line text) where
  pub of_as : (lines texts : List (List ℕ)) → AreOf Out lines texts → AreOf Other lines texts
  of_as [] texts none = none
  of_as (l ∷ ls) texts (t, ts, e, first, rest) = (t, ts, e, each l t first, of_as ls ts rest)

  pub by_lines_as : (bytes text : List ℕ) → ByLines Out bytes text → ByLines Other bytes text
  by_lines_as bytes text l = record { texts = l.texts; each = of_as _ l.texts l.each; all = l.all }

-- ---- what all texts are, and so what they are joined

module _ (Is : List ℕ → Type 0) (none : Is []) (both : (s t : List ℕ) → Is s → Is t → Is (s ++ 10 ∷ t)) where
  joined_is : (lines texts : List (List ℕ)) → AreOf (λ (line t : List ℕ). Is t) lines texts → Is (joined texts)
  joined_is [] texts e = rw e none
  joined_is (l ∷ []) texts (t, ts, e, first, rest) = rw (e, rest) first
  joined_is (l ∷ k ∷ ls) texts (t, ts, e, first, (u, us, f, second, rest)) =
      let later : Is (joined (u ∷ us)) = joined_is (k ∷ ls) (u ∷ us) (u, us, refl, second, rest) in
      rw (e, f) (both t (joined (u ∷ us)) first later)

newline : IsPlain (10 ∷ [])
unfolding lib.Utf8.encode
newline = (10 ∷ [], refl, (refl, tt), refl)

pub plain_lines : (bytes text : List ℕ) → ByLines (Strips longest) bytes text → IsPlain text
plain_lines bytes text l =
    rw l.all
    (joined_is IsPlain ([], refl, tt, refl) (λ s t h k. text_on shown s (10 ∷ t) h (text_on shown (10 ∷ []) t newline k)) _ l.texts
    (of_as (Strips longest) (λ (line t : List ℕ). IsPlain t) (strips_plain longest) _ l.texts l.each))

styled_none : (d : Passing) → IsStyledIn d []
styled_none d = record { items = []; safe = tt; texts = refl; none_open = refl; none_linked = refl }

styled_both : (d : Passing) (s t : List ℕ) → IsStyledIn d s → IsStyledIn d t → IsStyledIn d (s ++ 10 ∷ t)
unfolding lib.Utf8.encode
styled_both d s t h k =
    let later = Shown 10 ∷ k.items in
    record {
      items = h.items ++ later;
      safe = all_both (IsSafe d) h.items later h.safe ((refl, refl), k.safe);
      texts = ap (λ (x : List ℕ). x ++ 10 ∷ t) h.texts ∙ ap (λ (x : List ℕ). item_texts h.items ++ 10 ∷ x) k.texts ∙ sym (texts_both h.items later);
      none_open = rw (styles_both h.items later, open_on false (styles_of h.items) (styles_of k.items), h.none_open) k.none_open;
      none_linked = rw (links_both h.items later, linked_on false (links_of h.items) (links_of k.items), h.none_linked) k.none_linked;
    }

pub each_styled : (d : Passing) (lines texts : List (List ℕ)) → AreOf (StylesIn d) lines texts → AreOf (λ (line t : List ℕ). IsStyledIn d t) lines texts
each_styled d = of_as (StylesIn d) (λ (line t : List ℕ). IsStyledIn d t) (styled d)

pub styled_lines : (d : Passing) (bytes text : List ℕ) → ByLines (StylesIn d) bytes text → IsStyledIn d text
styled_lines d bytes text l = rw l.all (joined_is (IsStyledIn d) (styled_none d) (styled_both d) _ l.texts (each_styled d _ l.texts l.each))
