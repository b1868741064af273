use Rattle.std.proofs.Common.{◌/◌, ◌≡◌, ◌<◌, ◌∙◌, ◌++◌, ◌∷◌, [], List, ℕ, sym, ap, length, arith}
use Rattle.csicodec_clean.specs.{Styled.style_texts, Private.Notes.code_of, Private.Notes.depth_byte}
use Rattle.csicodec_clean.proofs.Rendered.{code_most, half, note_mixed, note_plain}
use Rattle.csicodec_clean.proofs.notes.Places.write_note.Goals as goal

pub returns-then-code-ne-MIXED : goal.returns-then-code-ne-MIXED
returns-then-code-ne-MIXED c = λ styles front since split stands is text.
    let d = c.args.depth in
    let t = c.args.text.now in
    let code = c.code-code.ensures styles front since split stands is in
    let few : code_of front since < 15 = omega (arith, code, code_most front since, c.if-code-ne-MIXED.true) in
    let all = text ∙ ap style_texts split.0 in
    c.in_ok-extend_from_slice-2.ensures.items
    ∙ ap (λ (l : List ℕ). l ++ t) (c.in_ok-extend_from_slice.ensures.items ∙ ap (λ (l : List ℕ). l ++ c.depth_byte.result ∷ c.code-code.result ∷ []) c.clear.ensures.items)
    ∙ ap (λ (n : ℕ). n ∷ c.code-code.result ∷ t) c.depth_byte.ensures ∙ ap (λ (n : ℕ). depth_byte d ∷ n ∷ t) code
    ∙ ap (λ (l : List ℕ). depth_byte d ∷ code_of front since ∷ l) all ∙ sym (note_plain d front since few)

pub returns : goal.returns
returns c = λ styles front since split stands is text.
    let d = c.args.depth in
    let t = c.args.text.now in
    let behind = c.args.self.now.front in
    let count = length c.as_slice-since.result.now / 2 in
    let own = c.as_slice-since.result.now in
    let several = c.if-code-ne-MIXED.false in
    let code : code_of front since ≡ 15 = sym (c.code-code.ensures styles front since split stands is) ∙ several in
    let body = style_texts (front ++ since) in
    c.in_ok-extend_from_slice-5.ensures.items
    ∙ ap (λ (l : List ℕ). l ++ own)
    (c.in_ok-extend_from_slice-4.ensures.items
    ∙ ap (λ (l : List ℕ). l ++ t)
    (c.in_ok-extend_from_slice-3.ensures.items
    ∙ ap (λ (l : List ℕ). l ++ behind ∷ count ∷ [])
    (c.in_ok-extend_from_slice.ensures.items ∙ ap (λ (l : List ℕ). l ++ c.depth_byte.result ∷ c.code-code.result ∷ []) c.clear.ensures.items)))
    ∙ ap (λ (n : ℕ). n ∷ c.code-code.result ∷ behind ∷ count ∷ (t ++ own)) c.depth_byte.ensures
    ∙ ap (λ (n : ℕ). depth_byte d ∷ n ∷ behind ∷ count ∷ (t ++ own)) several
    ∙ ap (λ (n : ℕ). depth_byte d ∷ 15 ∷ n ∷ count ∷ (t ++ own)) stands
    ∙ ap (λ (n : ℕ). depth_byte d ∷ 15 ∷ length (style_texts front) ∷ n ∷ (t ++ own)) (half (length own) since (ap length (c.as_slice-since.ensures.value ∙ is)))
    ∙ ap (λ (l : List ℕ). depth_byte d ∷ 15 ∷ length (style_texts front) ∷ length since ∷ (l ++ own)) (text ∙ ap style_texts split.0)
    ∙ ap (λ (l : List ℕ). depth_byte d ∷ 15 ∷ length (style_texts front) ∷ length since ∷ (body ++ l)) (c.as_slice-since.ensures.value ∙ is)
    ∙ sym (note_mixed d front since code)
