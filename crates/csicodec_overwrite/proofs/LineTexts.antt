-- Text of a line, told by its bytes.
use Rattle.csicodec_overwrite.proofs.Common.{◌≡◌, ◌≤◌, ◌<◌, ◌-◌, ◌==◌, ℕ, Bool, true, false, cond, List, [], ◌∷◌, ◌++◌, Option, Some, IfSome, length, drop, take, take-append-drop, refl, sym, ap, subst, ◌∙◌, append_assoc, arith, nat_tests, unwrap_or, and_parts, encode_utf8_all, all_weaker, all_scalars, prefix_len, front_in, encoded, AllByRecursion, IsShown, IsLineByte, line_byte, narrowed, to_tab_stop, width}
use Rattle.csicodec_overwrite.specs.Private.Front.{IsLed, IsLineChar, IsLineText, line_char}
use Rattle.csicodec_clean.proofs.Told.{char_text, front_taken, scalars}
use Rattle.csicodec_clean.specs.Shown.{IsBehind, IsTextOf}
use Rattle.csicodec_looks.proofs.Stays.{lines_plain, narrow}
use Rattle.csicodec_looks.specs.Bytes.{behind}
use Rattle.bstr.specs.Utf8.{Decoded, decoded}
use Rattle.bstr.proofs.lemmas.EncodeLemmas.{decoded-encode}
use Rattle.std.specs.Char.{encode_utf8}
use Rattle.unicode_width.specs.Width.{char_width}
use lib.Utf8.{scalar}

-- ---- its characters

char_shown : (c : ℕ) → IsLineChar c → IsShown c
char_shown c h = grind (arith, nat_tests)

pub chars_shown : (cs : List ℕ) → AllByRecursion IsLineChar cs → AllByRecursion IsShown cs
chars_shown = all_weaker IsLineChar IsShown char_shown

pub no_newline : (c : ℕ) → IsLineChar c → IsShown c × ((c == 10) ≡ false)
no_newline c h = (char_shown c h, grind (arith, nat_tests))

byte_char : (b : ℕ) → IsLineByte b → IsLineChar b
byte_char b h = grind (arith, nat_tests)

-- ---- those of ASCII take columns

wide : (c column : ℕ) → IsLineByte c → 0 < width c column
wide c column h = by (c == 9) refl
  where
    by : (t : Bool) → (c == 9) ≡ t → 0 < width c column
    by true e = omega (arith, ap (λ (t : Bool). cond t (to_tab_stop column) (narrowed (unwrap_or (char_width false c) 0))) e)
    by false e = omega (arith, narrow c column (grind (arith, nat_tests)) (grind (arith, nat_tests)))

led : (bs : List ℕ) → AllByRecursion IsLineByte bs → IsLed bs
led [] h = tt
led (b ∷ bs) h = λ column. wide b column h.0

pub line_text : (bs : List ℕ) → AllByRecursion IsLineByte bs → IsLineText bs bs
line_text bs h =
    let plains = lines_plain bs h in
    (scalars bs plains, all_weaker IsLineByte IsLineChar byte_char bs h, encoded bs plains, led bs h)

pub low_led : (c column : ℕ) → c < 160 → IsLineChar c → 0 < width c column
low_led c column low h = wide c column (grind (arith, nat_tests))

-- and another where the table gives it some
pub wide_led : (c column n : ℕ) → 160 ≤ c → n ≡ unwrap_or (char_width false c) 0 → (n == 0) ≡ false → 0 < width c column
wide_led c column n high is some = grind (arith, nat_tests)

-- ---- in front

pub ascii_behind : (bytes : List ℕ) → IsBehind line_char bytes (behind line_byte bytes)
ascii_behind bytes =
    let front = take (prefix_len line_byte bytes) bytes in
    let (valid, chars, own, takes) = line_text front (front_in line_byte bytes) in
    (front, sym (take-append-drop (prefix_len line_byte bytes) bytes), (front, valid, chars, own))

pub ascii_run : (bytes run : List ℕ) → run ≡ take (prefix_len line_byte bytes) bytes → (chars : List ℕ) × IsLineText run chars
ascii_run bytes run e = (run, line_text run (rw e (front_in line_byte bytes)))

pub ascii_parts : (bytes run rest : List ℕ) → run ≡ take (prefix_len line_byte bytes) bytes → rest ≡ drop (prefix_len line_byte bytes) bytes → bytes ≡ run ++ rest
ascii_parts bytes run rest e f = rw (e, f) (sym (take-append-drop (prefix_len line_byte bytes) bytes))

pub none_text : (bytes : List ℕ) → IsTextOf line_char (take 0 bytes)
none_text bytes = ([], refl, tt, refl)

pub none_behind : (bytes : List ℕ) → IsBehind line_char bytes bytes
none_behind bytes = ([], refl, ([], refl, tt, refl))

pub beyond_text : (bytes : List ℕ) (c len : ℕ) → Some c ≡ (decoded bytes).char → len ≡ (decoded bytes).size → 160 ≤ c → IsTextOf line_char (take len bytes)
beyond_text bytes c len char size high = char_text line_char bytes c len char size (grind (arith, nat_tests))

-- where none of no column stands in front
abbrev LedBy : List ℕ → Type 0
LedBy bytes = IfSome (decoded bytes).char (λ c. (column : ℕ) → line_char c ≡ true → 0 < width c column)

led_text : (front rest : List ℕ) → IsTextOf line_char front → LedBy (front ++ rest) → (chars : List ℕ) × IsLineText front chars
led_text front rest ([], valid, chars, own) h = ([], (valid, chars, own, tt))
led_text front rest (c ∷ cs, valid, chars, own) h =
    let one = (and_parts (scalar c) (all_scalars cs) valid).0 in
    let whole : front ++ rest ≡ encode_utf8 c ++ (encode_utf8_all cs ++ rest) = ap (λ (t : List ℕ). t ++ rest) own ∙ append_assoc (encode_utf8 c) (encode_utf8_all cs) rest in
    let char = ap (λ (t : List ℕ). (decoded t).char) whole ∙ ap (λ (p : Decoded). p.char) (decoded-encode c (encode_utf8_all cs ++ rest) one) in
    let takes = subst (λ (o : Option ℕ). IfSome o (λ c. (column : ℕ) → line_char c ≡ true → 0 < width c column)) char h in
    (c ∷ cs, (valid, chars, own, λ column. takes column chars.0))

pub led_behind : (bytes rest : List ℕ) → IsBehind line_char bytes rest → IfSome (decoded bytes).char (λ c. (column : ℕ) → line_char c ≡ true → 0 < width c column)
    → (chars : List ℕ) × IsLineText (take (length bytes - length rest) bytes) chars
led_behind bytes rest (front, e, text) h = rw (front_taken bytes front rest e) (led_text front rest text (subst LedBy e h))

pub none_led : (bytes : List ℕ) → (chars : List ℕ) × IsLineText (take 0 bytes) chars
none_led bytes = ([], (refl, tt, refl, tt))
