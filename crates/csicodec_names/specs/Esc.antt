-- Escape sequences of one or two characters: what a pair of bytes is, and what is printed.
use Rattle.std.specs.Prelude.{◌≡◌, ◌≢◌, ◌↔◌, ℕ, ◌+◌, ◌*◌, List, [], ◌∷◌, Option, Some, None, fold, unwrap_or, encode_utf8_all}
use Rattle.csicodec_names.specs.{declared.esc.Esc.Esc, declared.esc.Esc.TheVariants.Unspecified, declared.esc.Esc.TheVariants.Code}
use Rattle.csicodec_names.specs.{declared.esc_codes.EscCode.EscCode, EscCodes.characters_of}

-- the number of a code: its characters are the digits in base 256, the high one first
abbrev pub esc_number : EscCode → ℕ
esc_number code = fold (λ number character. 256 * number + character) 0 (characters_of code)

-- 256 times the intermediate and the final, where no intermediate counts as 0
abbrev pub packed : Option ℕ → ℕ → ℕ
packed intermediate final = 256 * unwrap_or intermediate 0 + final

-- an intermediate and a final are a code exactly where they pack its number, and stay as they are where they pack no code's
pub record EscOf (intermediate : Option ℕ) (final : ℕ) (esc : Esc) : Type 0 where
  pub code : (known : EscCode) → (esc ≡ Code known) ↔ (packed intermediate final ≡ esc_number known)
  pub other : ((known : EscCode) → packed intermediate final ≢ esc_number known)
      → esc ≡ Unspecified intermediate final

-- the intermediate, if any, and the final
abbrev pub in_turn : Option ℕ → ℕ → List ℕ
in_turn None final = final ∷ []
in_turn (Some intermediate) final = intermediate ∷ final ∷ []

-- what stands after ESC
abbrev pub after_esc : Esc → List ℕ
after_esc (Unspecified intermediate final) = in_turn intermediate final
after_esc (Code known) = characters_of known

-- the character ESC and those after it, in UTF-8
abbrev pub esc_text : Esc → List ℕ
esc_text esc = 27 ∷ encode_utf8_all (after_esc esc)
