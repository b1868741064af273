use Rattle.std.proofs.Common.{◌+◌, ◌-◌, ◌≡◌, ◌≤◌, ◌∙◌, ◌++◌, ◌∷◌, [], ℕ, sym, ap, length, length-append, arith}
use Rattle.csicodec_clean.specs.Styled.{attribute, style_texts}
use Rattle.csicodec_clean.proofs.Rendered.{places_one, places_reset}
use Rattle.csicodec_clean.proofs.notes.Places.append.Goals as goal

pub returns-then-is_reset-clause-places : goal.returns-then-is_reset-clause-places
returns-then-is_reset-clause-places c = λ styles size has.
    let s = c.args.style.now in
    let text : c.as_bytes-text.result.now ≡ style_texts (s ∷ []) = c.as_bytes-text.ensures.value ∙ c.style_text-text.ensures in
    let short : length (style_texts (s ∷ [])) ≤ 32 = omega (arith, ap length text, c.as_bytes-text.ensures.short) in
    let now : c.len.result - c.args.start ≡ length (style_texts styles) + length (style_texts (s ∷ [])) =
    omega (arith, c.len.ensures, ap length c.in_ok-extend_from_slice.ensures.items, length-append c.args.out.now.items c.as_bytes-text.result.now, size, ap length text) in
    let (front, since, split, stands, is, few) = places_reset styles s c.args.self.now.front (c.len.result - c.args.start) c.args.self.now.since.items (sym c.is_reset.ensures ∙ c.if-is_reset.true) short has now in
    (front, since, split, stands, c.clear.ensures.items ∙ is, few)

pub returns-clause-places : goal.returns-clause-places
returns-clause-places c = λ styles size has.
    let s = c.args.style.now in
    let text : c.as_bytes-text.result.now ≡ style_texts (s ∷ []) = c.as_bytes-text.ensures.value ∙ c.style_text-text.ensures in
    let short : length (style_texts (s ∷ [])) ≤ 32 = omega (arith, ap length text, c.as_bytes-text.ensures.short) in
    let items = c.in_ok-extend_from_slice-2.ensures.items in
    let (front, since, split, stands, is, few) = places_one styles s c.args.self.now.front c.args.self.now.since.items (sym c.is_reset.ensures ∙ c.if-is_reset.false) short has in (
      front,
      since,
      split,
      stands,
      items ∙ ap (λ (n : ℕ). c.args.self.now.since.items ++ n ∷ length c.as_bytes-text.result.now ∷ []) c.attribute.ensures
          ∙ ap (λ (n : ℕ). c.args.self.now.since.items ++ attribute s ∷ n ∷ []) (ap length text) ∙ is,
      few,
    )
