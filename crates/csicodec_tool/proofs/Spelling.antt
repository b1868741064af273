-- A text whose characters are spelled: as it comes, from a transform, and that each of its characters is seen.
use Rattle.csicodec_tool.proofs.Common.{Bool, true, false, None, ◌≡◌, ◌==◌, ℕ, List, [], ◌∷◌, ◌++◌, inl, inr, refl, sym, ap, subst, ◌∙◌, append_assoc, append-nil, Begins, Sends, Transforms, GoesOn, length, ended, AreOf, longest, IsLogged, Writes, Work}
use Rattle.csicodec_tool.specs.Spelled.{EndsSpelled, PassesSpelled, SpelledAs, SpelledSure, Spells, spelled, spelled_chars, spelled_text, stays}
use Rattle.csicodec_tool.specs.{Log.Logs, Writes.Stripped, declared.spelled.Speller.Speller}
use Rattle.csicodec_transform.specs.Transform.{EndsOf, PassesOf}
use Rattle.csicodec_clean.specs.Shown.{IsCut, IsPlain, IsRead, IsShown, IsTextOf, shown}
use Rattle.csicodec_clean.proofs.Plain.{all_both, all_weaker, cut_char, read_all, read_more, read_none, read_on, scalars_lossy, strips_plain, text_on}
use Rattle.csicodec_clean.proofs.Common.{and_from, and_parts, cond_both, flat_map-append, lossy_chars-encode, lossy_chars-nil, nat_tests}
use Rattle.csicodec_inspect.specs.Visible.{class_of, seen}
use Rattle.csicodec_lines.proofs.Texts.{plain_lines}
use Rattle.csicodec_looks.specs.Bytes.{IsPlainByte}
use Rattle.csicodec_looks.proofs.Fronts.{encoded, scalars}
use Rattle.csicodec_overwrite.specs.Reading.{Overwrites}
use Rattle.csicodec_overwrite.proofs.Kept.{overwritten_plain}
use Rattle.bstr.specs.Utf8.{lossy_chars}
use Rattle.std.specs.{Char.encode_utf8, Fmt.digit_glyph, Fmt.digits, Fmt.digits_onto, List.AllByRecursion, Prelude.codes, Prelude.encode_utf8_all}
use Rattle.std.specs.{Prelude.nat_lt, Prelude.◌||◌, Str.all_scalars}
use Rattle.std.proofs.Common.{arith, zero, suc, ◌<◌, ◌/◌, ◌%◌}
use lib.Utf8.{scalar}

-- ---- one after the other

pub spelled_on : (xs ys : List ℕ) → spelled_chars (xs ++ ys) ≡ spelled_chars xs ++ spelled_chars ys
spelled_on xs ys = flat_map-append spelled xs ys

pub spells_none : (text : List ℕ) → Spells text [] text
spells_none text = ([], read_none text, refl)

-- a character more
pub spells_on : (text mid rest written more : List ℕ) → Spells text written mid → Spells mid more rest → Spells text (written ++ more) rest
spells_on text mid rest written more (chars, read, e) (others, reads, f) =
    (chars ++ others, read_on text mid rest chars others read reads, rw (e, f) (sym (spelled_on chars others)))

pub spells_char : (text rest : List ℕ) (c : ℕ) → IsRead text (c ∷ []) rest → Spells text (spelled c) rest
spells_char text rest c read = (c ∷ [], read, sym (append-nil (spelled c)))

-- more of the text came
pub spells_more : (held plain more left rest written next : List ℕ) → Spells (held ++ plain) written left → Spells (left ++ more) next rest
    → Spells (held ++ (plain ++ more)) (written ++ next) rest
spells_more held plain more left rest written next (chars, read, e) (others, reads, f) = (
  chars ++ others,
  subst (λ (t : List ℕ). IsRead t (chars ++ others) rest) (append_assoc held plain more) (read_more (held ++ plain) left more rest chars others read reads),
  rw (e, f) (sym (spelled_on chars others)),
)

-- nothing more comes
pub spells_all : (text written rest : List ℕ) → Spells text written rest → spelled_text text ≡ written ++ spelled_text rest
spells_all text written rest (chars, read, e) =
    ap spelled_chars (read_all text chars rest read) ∙ spelled_on chars (lossy_chars rest) ∙ ap (λ (t : List ℕ). t ++ spelled_text rest) (sym e)

-- the text goes on so
pub spells_front : (plain more written rest : List ℕ) → Spells plain written rest → spelled_text (plain ++ more) ≡ written ++ spelled_text (rest ++ more)
spells_front plain more written rest (chars, read, e) =
    ap spelled_chars (read more) ∙ spelled_on chars (lossy_chars (rest ++ more)) ∙ ap (λ (t : List ℕ). t ++ spelled_text (rest ++ more)) (sym e)

pub spelled_none : (text : List ℕ) → length text ≡ 0 → spelled_text text ≡ []
spelled_none [] none = ap spelled_chars lossy_chars-nil
spelled_none (b ∷ text) none = absurd (omega (arith, none))

pub spelled_cut : (text : List ℕ) → 0 < length text → IsCut text → spelled_text text ≡ spelled 0xFFFD
spelled_cut text some cut = ap spelled_chars (cut_char text some cut) ∙ append-nil (spelled 0xFFFD)

-- ---- a transform

-- what it wrote goes on, and what is written of that
pub goes_spelled : {T : Type 0} (P : PassesOf T) (old new : Speller T) (bytes more next : List ℕ) → GoesOn P old.inner bytes more new.inner
    → Spells (old.text.items ++ more) next new.text.items → GoesOn (PassesSpelled P) old bytes next new
goes_spelled P old new bytes more next goes spells first before text (plain, passed, sure) = (
  plain ++ more,
  goes first.inner before plain passed,
  spells_more first.text.items plain more old.text.items new.text.items text next sure spells,
)

-- nothing was written yet
pub spelled_begun : {T : Type 0} (P : PassesOf T) (s : Speller T) (inner : T) → s.text.items ≡ [] → s.inner ≡ inner → P inner [] [] inner → PassesSpelled P s [] [] s
spelled_begun P s inner none same begun = ([], rw same begun, rw none (spells_none []))

-- then it is sure of what the transform is sure of
sure_as : {T : Type 0} (P : PassesOf T) (s : Speller T) (bytes text : List ℕ) → s.text.items ≡ [] → Sends (PassesSpelled P) s bytes text
    → SpelledSure true (Sends P s.inner) bytes text
sure_as P s bytes text none (last, (plain, passed, spells)) =
    (plain, last.text.items, (last.inner, passed), subst (λ (t : List ℕ). Spells (t ++ plain) text last.text.items) none spells)

whole_as : {T : Type 0} (P : PassesOf T) (E : EndsOf T) (s : Speller T) (bytes text : List ℕ) → s.text.items ≡ [] → Transforms (PassesSpelled P) (EndsSpelled E) s bytes text
    → SpelledAs true (Transforms P E s.inner) bytes text
whole_as P E s bytes text none (last, sure, rest, (plain, passed, spells), (more, ends, e), split) =
    let front = subst (λ (t : List ℕ). Spells (t ++ plain) sure last.text.items) none spells in (
      plain ++ more,
      (last.inner, plain, more, passed, ends, refl),
      split ∙ ap (λ (t : List ℕ). sure ++ t) e ∙ sym (spells_front plain more sure last.text.items front),
    )

pub spelled_whole : {T : Type 0} (P : PassesOf T) (E : EndsOf T) (s : Speller T) (inner : T) (bytes text : List ℕ) → s.text.items ≡ [] → s.inner ≡ inner
    → Transforms (PassesSpelled P) (EndsSpelled E) s bytes text → SpelledAs true (Transforms P E inner) bytes text
spelled_whole P E s inner bytes text none same whole = rw (← same) (whole_as P E s bytes text none whole)

pub spelled_begins : {T : Type 0} (P : PassesOf T) (E : EndsOf T) (s : Speller T) (inner : T) (AreAll : Type 0) (bytes sent : List ℕ) → s.text.items ≡ [] → s.inner ≡ inner
    → Begins (Sends (PassesSpelled P) s) (Transforms (PassesSpelled P) (EndsSpelled E) s) AreAll bytes sent
    → Begins (SpelledSure true (Sends P inner)) (SpelledAs true (Transforms P E inner)) AreAll bytes sent
spelled_begins P E s inner AreAll bytes sent none same (unsent, inl sure) = rw (← same) (unsent, inl (sure_as P s bytes (sent ++ unsent) none sure))
spelled_begins P E s inner AreAll bytes sent none same (unsent, inr (all, whole)) =
    rw (← same) (unsent, inr (all, whole_as P E s bytes (sent ++ unsent) none whole))

-- ---- each of its characters is seen

hex_glyph : (d : ℕ) → d < 16 → IsPlainByte (digit_glyph true d)
hex_glyph d small = grind (arith, nat_tests)

hex_onto : (k n : ℕ) (digits_behind : List ℕ) → AllByRecursion IsPlainByte digits_behind → AllByRecursion IsPlainByte (digits_onto k 16 true n digits_behind)
hex_onto zero n behind h = h
hex_onto (suc k) n behind h =
    let digit = hex_glyph (n % 16) (omega arith) in
    let more = digit_glyph true (n % 16) ∷ behind in
    cond_both (n / 16 == 0) more (digits_onto k 16 true (n / 16) more) (AllByRecursion IsPlainByte) (λ _. (digit, h)) (λ _. hex_onto k (n / 16) more (digit, h))

hex_plain : (n : ℕ) → AllByRecursion IsPlainByte (digits 16 true n)
unfolding digits
hex_plain n = hex_onto 64 n [] tt

-- each character of a class, where it stays, and each of ASCII is
module _ (class : ℕ → Bool) (has : (b : ℕ) → IsPlainByte b → class b ≡ true) where
  ascii_in : (bs : List ℕ) → AllByRecursion IsPlainByte bs → IsTextOf class bs
  ascii_in bs h = (bs, scalars bs h, all_weaker IsPlainByte (λ c. class c ≡ true) has bs h, encoded bs h)

  char_in : (c : ℕ) → scalar c ≡ true → (stays c ≡ true → class c ≡ true) → IsTextOf class (spelled c)
  char_in c is own =
      let number = all_both IsPlainByte (digits 16 true c) (codes "}") (hex_plain c) (refl, tt) in
      let all = all_both IsPlainByte (codes "\\u{") (digits 16 true c ++ codes "}") (refl, (refl, (refl, tt))) number in
      cond_both (stays c) (encode_utf8 c) (codes "\\u{" ++ (digits 16 true c ++ codes "}")) (IsTextOf class)
      (λ s. (c ∷ [], and_from (scalar c) true is refl, (own s, tt), sym (append-nil (encode_utf8 c)))) (λ _. ascii_in _ all)

  chars_in : (cs : List ℕ) → all_scalars cs ≡ true → AllByRecursion (λ c. stays c ≡ true → class c ≡ true) cs → IsTextOf class (spelled_chars cs)
  chars_in [] s h = ([], refl, tt, refl)
  chars_in (c ∷ cs) s h =
      let both = and_parts (scalar c) (all_scalars cs) s in
      text_on class (spelled c) (spelled_chars cs) (char_in c both.0 h.0) (chars_in cs both.1 h.1)

each : (P : ℕ → Type 0) → ((c : ℕ) → P c) → (cs : List ℕ) → AllByRecursion P cs
each P is [] = tt
each P is (c ∷ cs) = (is c, each P is cs)

ascii_stays : (b : ℕ) → IsPlainByte b → stays b ≡ true
ascii_stays b h = let low : nat_lt b 128 ≡ true = grind (arith, nat_tests) in rw low refl

pub all_stay : (text : List ℕ) → IsTextOf stays (spelled_text text)
all_stay text = chars_in stays ascii_stays (lossy_chars text) (scalars_lossy text) (each (λ c. stays c ≡ true → stays c ≡ true) (λ c h. h) (lossy_chars text))

ascii_seen : (b : ℕ) → IsPlainByte b → seen b ≡ true
ascii_seen b h = grind (arith, nat_tests)

shown_ascii : (c : ℕ) → IsShown c → nat_lt c 128 ≡ true → IsPlainByte c
shown_ascii c h low = grind (arith, nat_tests)

stays_seen : (c : ℕ) → IsShown c → stays c ≡ true → seen c ≡ true
stays_seen c is h = by (nat_lt c 128) refl h
  where
    by : (t : Bool) → nat_lt c 128 ≡ t → (t || seen c) ≡ true → seen c ≡ true
    by true e s = ascii_seen c (shown_ascii c is e)
    by false e s = s

pub plain_seen : (text : List ℕ) → IsPlain text → IsTextOf seen (spelled_text text)
plain_seen text (cs, scalars, all, e) =
    let stay = all_weaker IsShown (λ c. stays c ≡ true → seen c ≡ true) stays_seen cs all in
    rw (e, lossy_chars-encode cs scalars) (chars_in seen ascii_seen cs scalars stay)

chars_same : (cs : List ℕ) → AllByRecursion (λ c. stays c ≡ true) cs → spelled_chars cs ≡ encode_utf8_all cs
chars_same [] h = refl
chars_same (c ∷ cs) h = rw h.0 (ap (λ (t : List ℕ). encode_utf8 c ++ t) (chars_same cs h.1))

pub seen_same : (text : List ℕ) → IsTextOf stays text → spelled_text text ≡ text
seen_same text (cs, scalars, all, e) = rw (e, lossy_chars-encode cs scalars) (chars_same cs all)

-- ---- what `strip` writes

lines_plain : (lines texts : List (List ℕ)) → AreOf Overwrites lines texts → IsPlain (ended texts)
unfolding encode_utf8
lines_plain [] texts none = rw none ([], refl, tt, refl)
lines_plain (line ∷ lines) texts (text, others, e, own, more) =
    let newline : IsPlain (10 ∷ []) = (10 ∷ [], refl, (refl, tt), refl) in
    rw e (text_on shown text (10 ∷ ended others) (overwritten_plain line text own) (text_on shown (10 ∷ []) (ended others) newline (lines_plain lines others more)))

logs_plain : (bytes text : List ℕ) → Logs None bytes text → IsPlain text
logs_plain bytes text log = rw log.all (text_on shown (ended log.texts) log.own (lines_plain log.lines log.texts log.each) (overwritten_plain log.rest log.own log.behind))

stripped_plain : (lines : Bool) (bytes text : List ℕ) → Stripped lines bytes text → IsPlain text
stripped_plain false bytes text h = strips_plain longest bytes text h
stripped_plain true bytes text h = plain_lines bytes text h

as_seen : (Out : List ℕ → List ℕ → Type 0) → ((bytes text : List ℕ) → Out bytes text → IsPlain text) → (bytes text : List ℕ) → SpelledAs true Out bytes text
    → IsTextOf (class_of true) text
as_seen Out is bytes text (plain, out, e) = rw e (plain_seen plain (is bytes plain out))

pub stripped_seen : (lines : Bool) (bytes text : List ℕ) → Writes (Work.Strip lines true) bytes text → IsTextOf (class_of true) text
stripped_seen lines = as_seen (Stripped lines) (stripped_plain lines)

pub overwritten_seen : (bytes text : List ℕ) → Writes (Work.Overwrite None true) bytes text → IsTextOf (class_of true) text
overwritten_seen = as_seen (IsLogged None) overwritten_plain

pub logged_seen : (bytes text : List ℕ) → Writes (Work.Log None true) bytes text → IsTextOf (class_of true) text
logged_seen = as_seen (Logs None) logs_plain
