-- What is read of text whatever follows, what is shown of it, and that this is plain.
pub use Rattle.std.proofs.lemmas.Str.{encodes-append as encoded_on}
pub use Rattle.csicodec_looks.proofs.Fronts.{all_both, all_weaker}
use Rattle.std.proofs.Common.{◌≡◌, ◌≢◌, ℕ, ◌<◌, ◌≤◌, List, [], ◌∷◌, ◌++◌, Option, None, Some, drop, length, length-append, slice_index, refl, sym, ap, subst, ◌∙◌, arith, append_assoc, append-nil, filter, encode_utf8_all, All, zero, suc, Bool, true, cond, length-drop}
use Rattle.std.proofs.{lemmas.List.get_or_append_left, lemmas.List.drop_all, lemmas.List.Elements.filter-append, lemmas.List.Elements.All-from_recursion}
use Rattle.csicodec_clean.proofs.Common.{nat_tests, drop-append-le, decoded, lossy_chars, piece-bounds, lossy_chars-nil, value-6, value-9, value-12, IsRead, flat_map-append, Writing, chars_as, run_as, shown, written, AllByRecursion, IsShown, IsPlain, IsOther, and_from, and_parts, cond_both, all_scalars, IsScalar, scalar, SpellsChar-decoded, Kind, Part, AreGiven, IsStep, AreSteps, Ends, Strips, stripped, drops, ends_bare, is_text, shown_text, IsTextOf, as_read, first_reading}
use Rattle.bstr.specs.Utf8.{bad, decoded_by, or_replacement, replacement}
use Rattle.bstr.proofs.lemmas.PieceLemmas.{by-shape, lossy_chars-step, value-1, value-2, value-3, value-5, value-8, value-11}
use Rattle.csicodec_clean.specs.{Private.Steps.IsStill, Shown.IsCut}
use Rattle.std.specs.Char.{encode_utf8}

longer_by : (n m b c d e c' d' e' : ℕ) → n ≤ m → ((decoded_by n b c d e).char ≡ None → (decoded_by n b c d e).size < n) → 0 < n
    → (1 < n → c' ≡ c) → (2 < n → d' ≡ d) → (3 < n → e' ≡ e) → decoded_by m b c' d' e' ≡ decoded_by n b c d e
longer_by n m b c d e c' d' e' le sure some second_c third_d fourth_e = by-shape n b c d e
    (λ h. absurd (omega (arith, h.0)))
    (λ h. value-1 m b c' d' e' (omega arith, h.1) ∙ sym h.2)
    (λ h. value-2 m b c' d' e' (omega arith, h.1, h.2) ∙ sym h.3)
    (λ h. value-3 m b c' d' e' (omega arith, h.1) ∙ sym h.2)
    (λ h. absurd (cut 1 (omega arith) h.4))
    (λ h. rw (second_c (omega arith)) (value-5 m b c d' e' (omega arith, h.1, h.2, h.3) ∙ sym h.4))
    (λ h. rw (second_c (omega arith)) (value-6 m b c d' e' (omega arith, h.1, h.2, h.3) ∙ sym h.4))
    (λ h. absurd (cut 2 (omega arith) h.5))
    (λ h. rw (second_c (omega arith), third_d (omega arith)) (value-8 m b c d e' (omega arith, h.1, h.2, h.3, h.4) ∙ sym h.5))
    (λ h. rw (second_c (omega arith), third_d (omega arith)) (value-9 m b c d e' (omega arith, h.1, h.2, h.3, h.4) ∙ sym h.5))
    (λ h. absurd (cut 3 (omega arith) h.6))
    (λ h. rw (second_c (omega arith), third_d (omega arith), fourth_e (omega arith)) (value-11 m b c d e (omega arith, h.1, h.2, h.3, h.4, h.5) ∙ sym h.6))
    (λ h. rw (second_c (omega arith), third_d (omega arith), fourth_e (omega arith)) (value-12 m b c d e (omega arith, h.1, h.2, h.3, h.4, h.5) ∙ sym h.6))
  where
    cut : (k : ℕ) → n ≤ k → decoded_by n b c d e ≡ bad k → ⊥
    cut k all is = omega (arith, sure (ap (λ p. p.char) is), ap (λ p. p.size) is)

-- what decodes to a character, or to a piece with bytes behind it, decodes so whatever follows
pub sure_piece : (bs more : List ℕ) → 0 < length bs → ((decoded bs).char ≡ None → (decoded bs).size < length bs) → decoded (bs ++ more) ≡ decoded bs
sure_piece bs more some sure =
    let all = bs ++ more in
    let long = length-append bs more in
    let at : (k : ℕ) → k < length bs → slice_index all k ≡ slice_index bs k = λ k l. get_or_append_left bs more 0 k l in
    subst (λ v. decoded_by (length all) v (slice_index all 1) (slice_index all 2) (slice_index all 3) ≡ decoded bs) (sym (at 0 some))
    (longer_by (length bs) (length all) (slice_index bs 0) (slice_index bs 1) (slice_index bs 2) (slice_index bs 3)
    (slice_index all 1) (slice_index all 2) (slice_index all 3) (omega arith) sure some (at 1) (at 2) (at 3))

-- nothing read yet
pub read_none : (run : List ℕ) → IsRead run [] run
read_none run more = refl

-- one after the other
pub read_on : (run mid rest first later : List ℕ) → IsRead run first mid → IsRead mid later rest → IsRead run (first ++ later) rest
read_on run mid rest first later h k = λ more. h more ∙ ap (λ t. first ++ t) (k more) ∙ sym (append_assoc first later (lossy_chars (rest ++ more)))

-- more bytes came
pub read_more : (run held bytes rest first later : List ℕ) → IsRead run first held → IsRead (held ++ bytes) later rest → IsRead (run ++ bytes) (first ++ later) rest
read_more run held bytes rest first later h k =
    λ more. rw (append_assoc run bytes more, h (bytes ++ more), ← append_assoc held bytes more, k more) (simp append_assoc)

-- the piece in front
pub read_piece : (bs : List ℕ) → 0 < length bs → ((decoded bs).char ≡ None → (decoded bs).size < length bs) → IsRead bs (or_replacement (decoded bs).char ∷ []) (drop (decoded bs).size bs)
read_piece bs some sure = λ more.
    let within = (piece-bounds bs some).2 in
    let step = lossy_chars-step (bs ++ more) (omega (arith, length-append bs more)) in
    rw (step, sure_piece bs more some sure, drop-append-le (decoded bs).size bs more within) refl

-- nothing follows
pub read_all : (run chars rest : List ℕ) → IsRead run chars rest → lossy_chars run ≡ chars ++ lossy_chars rest
read_all run chars rest h = ap lossy_chars (sym (append-nil run)) ∙ h [] ∙ ap (λ t. chars ++ lossy_chars t) (append-nil rest)

-- what is cut is one U+FFFD
pub cut_char : (bs : List ℕ) → 0 < length bs → IsCut bs → lossy_chars bs ≡ replacement ∷ []
cut_char bs some cut =
    let h = cut some in
    rw (lossy_chars-step bs some, h.0, h.1, drop_all (length bs) bs (omega arith), lossy_chars-nil) refl

-- and short
pub cut_short : (bs : List ℕ) → IsCut bs → length bs ≤ 3
cut_short bs cut = grind (arith, nat_tests)

-- the piece in front, of so many bytes, whatever follows
abbrev IsFront : List ℕ → ℕ → ℕ → Type 0
IsFront bs c size = IsRead bs (c ∷ []) (drop size bs) × (0 < size) × (size ≤ length bs) × ((more : List ℕ) → decoded (bs ++ more) ≡ decoded bs)

read_front : (bs : List ℕ) (o : Option ℕ) (size : ℕ) → 0 < length bs → o ≡ (decoded bs).char → size ≡ (decoded bs).size
    → ((decoded bs).char ≡ None → (decoded bs).size < length bs) → IsFront bs (or_replacement o) size
read_front bs o size some char same sure = let bounds = piece-bounds bs some in rw (char, same) (read_piece bs some sure, bounds.0, bounds.2, λ more. sure_piece bs more some sure)

-- a character
pub read_char : (bs : List ℕ) (c size : ℕ) → 0 < length bs → Some c ≡ (decoded bs).char → size ≡ (decoded bs).size → IsFront bs c size
read_char bs c size some char same = read_front bs (Some c) size some char same (λ none. absurd (let e = char ∙ none in cc))

-- and one that is none, with bytes behind it
pub read_bad : (bs : List ℕ) (size : ℕ) → 0 < length bs → None ≡ (decoded bs).char → size ≡ (decoded bs).size → size ≢ length bs → IsFront bs replacement size
read_bad bs size some char same other = read_front bs None size some char same (λ none. omega (arith, (piece-bounds bs some).2, same, other))

-- ---- What is shown of characters, one run behind the other.

pub written_none : (w : Writing) → written w [] ≡ []
written_none w = grind arith

pub written_on : (w : Writing) (xs ys : List ℕ) → written w (xs ++ ys) ≡ written w xs ++ written w ys
written_on None xs ys = encoded_on xs ys
written_on (Some char) xs ys = flat_map-append char xs ys

pub shown_on : (w : Writing) (xs ys : List ℕ) → chars_as w (xs ++ ys) ≡ chars_as w xs ++ chars_as w ys
shown_on w xs ys = ap (written w) (filter-append shown xs ys) ∙ written_on w (filter shown xs) (filter shown ys)

pub shown_none : (w : Writing) → run_as w [] ≡ []
shown_none w = ap (chars_as w) lossy_chars-nil ∙ written_none w

-- what is shown of a run, of which some was read
pub shown_read : (w : Writing) (run chars rest : List ℕ) → IsRead run chars rest → run_as w run ≡ chars_as w chars ++ run_as w rest
shown_read w run chars rest h = ap (chars_as w) (read_all run chars rest h) ∙ shown_on w chars (lossy_chars rest)

pub shown_empty : (w : Writing) (run : List ℕ) → length run ≡ 0 → run_as w run ≡ []
shown_empty w [] none = shown_none w
shown_empty w (b ∷ run) none = absurd (omega (arith, none))

-- ---- The bytes of plain text.

pub still_char : (c : ℕ) → IsShown c → AllByRecursion IsStill (encode_utf8 c)
unfolding encode_utf8
still_char c h = grind (arith, nat_tests)

pub one_char : (c : ℕ) → IsShown c → AllByRecursion IsOther (encode_utf8 c)
one_char c h = all_weaker IsStill IsOther (λ b s. s.0) (encode_utf8 c) (still_char c h)

pub all_parts : {T : Type 0} (P : T → Type 0) (xs ys : List T) → AllByRecursion P (xs ++ ys) → AllByRecursion P xs × AllByRecursion P ys
all_parts P [] ys h = (tt, h)
all_parts P (x ∷ xs) ys h = let more = all_parts P xs ys h.1 in ((h.0, more.0), more.1)

chars : (cs : List ℕ) → AllByRecursion IsShown cs → AllByRecursion IsStill (encode_utf8_all cs)
chars [] h = tt
chars (c ∷ cs) h = all_both IsStill (encode_utf8 c) (encode_utf8_all cs) (still_char c h.0) (chars cs h.1)

pub plain_still : (text : List ℕ) → IsPlain text → AllByRecursion IsStill text
plain_still text (cs, scalars, all, e) = subst (AllByRecursion IsStill) (sym e) (chars cs all)

pub plain_bytes : (text : List ℕ) → IsPlain text → AllByRecursion IsOther text
plain_bytes text p = all_weaker IsStill IsOther (λ b s. s.0) text (plain_still text p)

pub no_escape : (text : List ℕ) → IsPlain text → All IsOther text
no_escape text p = All-from_recursion IsOther text (plain_bytes text p)

-- ---- What is shown is plain.

char_scalar : (o : Option ℕ) → ((c : ℕ) → o ≡ Some c → IsScalar c) → all_scalars (or_replacement o ∷ []) ≡ true
char_scalar None h = refl
char_scalar (Some c) h = rw (h c refl) refl

scalars_within : (fuel : ℕ) (bs : List ℕ) → length bs ≤ fuel → all_scalars (lossy_chars bs) ≡ true
scalars_within fuel [] le = ap all_scalars lossy_chars-nil
scalars_within zero (b ∷ bs) le = absurd (omega (arith, le))
scalars_within (suc fuel) (b ∷ bs) le =
    let all = b ∷ bs in
    let n = (decoded all).size in
    let bounds = piece-bounds all (omega arith) in
    let later = scalars_within fuel (drop n all) (omega (arith, le, bounds.0, length-drop n all)) in
    let one = char_scalar (decoded all).char (λ c e. (SpellsChar-decoded all c e).scalar) in
    ap all_scalars (lossy_chars-step all (omega arith)) ∙ and_from _ _ (and_parts _ _ one).0 later

pub scalars_lossy : (bs : List ℕ) → all_scalars (lossy_chars bs) ≡ true
scalars_lossy bs = scalars_within (length bs) bs (omega arith)

abbrev Kept : List ℕ → Type 0
Kept cs = (all_scalars cs ≡ true) × AllByRecursion IsShown cs

pub kept_shown : (cs : List ℕ) → all_scalars cs ≡ true → Kept (filter shown cs)
kept_shown [] h = (refl, tt)
kept_shown (c ∷ cs) h =
    let both = and_parts (scalar c) (all_scalars cs) h in
    let more = kept_shown cs both.1 in
    cond_both (shown c) (c ∷ filter shown cs) (filter shown cs) Kept (λ e. (and_from (scalar c) (all_scalars (filter shown cs)) both.0 more.0, (e, more.1))) (λ _. more)

pub plain_shown : (run : List ℕ) → IsPlain (shown_text run)
plain_shown run = let k = kept_shown (lossy_chars run) (scalars_lossy run) in (filter shown (lossy_chars run), k.0, k.1, refl)

pub scalars_on : (xs ys : List ℕ) → all_scalars xs ≡ true → all_scalars ys ≡ true → all_scalars (xs ++ ys) ≡ true
scalars_on [] ys h k = k
scalars_on (x ∷ xs) ys h k = let both = and_parts _ _ h in and_from _ _ both.0 (scalars_on xs ys both.1 k)

pub text_on : (class : ℕ → Bool) (s t : List ℕ) → IsTextOf class s → IsTextOf class t → IsTextOf class (s ++ t)
text_on class s t (xs, a, b, c) (ys, d, e, f) = (xs ++ ys, scalars_on xs ys a d, all_both (λ c. class c ≡ true) xs ys b e, ap (λ u. u ++ t) c ∙ ap (λ u. encode_utf8_all xs ++ u) f ∙ sym (encoded_on xs ys))

-- ---- stripped

pub plain_stripped : (parts : List Part) (run : List ℕ) → IsPlain (stripped run parts)
plain_stripped [] run = plain_shown run
plain_stripped (p ∷ parts) run =
    cond_both (is_text p.kind) (stripped (run ++ p.bytes) parts) (shown_text run ++ stripped [] parts) IsPlain (λ _. plain_stripped parts (run ++ p.bytes))
    (λ _. text_on shown (shown_text run) (stripped [] parts) (plain_shown run) (plain_stripped parts []))

module _ {S : Type 0} where
  -- the rule that drops gives nothing for a string
  none_given : (bytes : List ℕ) (s after : S) (text : List ℕ) → AreGiven {S = S} drops s bytes text after → text ≡ []
  none_given [] s after text h = h.0
  none_given (b ∷ bytes) s after text (first, mid, others, none, e, rest) = e ∙ ap (λ (t : List ℕ). t ++ others) none ∙ none_given bytes mid after others rest

  -- what the rule that drops leaves, whatever comes behind
  pub steps_stripped : (ps qs : List Part) (s after : S) (run text last : List ℕ) → AreSteps {S = S} drops s run ps text after last → stripped run (ps ++ qs) ≡ text ++ stripped last qs
  steps_stripped [] qs s after run text last (none, same, e) = rw (none, e) refl
  steps_stripped (p ∷ ps) qs s after run text last (first, mid, next, others, step, e, rest) =
      by p.kind step ∙ ap (λ t. first ++ t) (steps_stripped ps qs mid after next others last rest) ∙ sym (append_assoc first others (stripped last qs)) ∙ ap (λ t. t ++ stripped last qs) (sym e)
    where
      by : (k : Kind) → IsStep {S = S} drops k s run p.bytes first mid next
          → cond (is_text k) (stripped (run ++ p.bytes) (ps ++ qs)) (shown_text run ++ stripped [] (ps ++ qs)) ≡ first ++ stripped next (ps ++ qs)
      by Kind.Csi (own, none, a, b) = rw (a, b, none, append-nil (shown_text run)) refl
      by Kind.Esc (own, none, a, b) = rw (a, b, none, append-nil (shown_text run)) refl
      by Kind.Str (own, given, a, b) = rw (a, b, none_given p.bytes s mid own given, append-nil (shown_text run)) refl
      by _ h = rw (h.0, h.2) refl

  left_stripped : (ps : List Part) (s after : S) (run text last : List ℕ) → AreSteps {S = S} drops s run ps text after last → text ++ shown_text last ≡ stripped run ps
  left_stripped ps s after run text last h = sym (steps_stripped ps [] s after run text last h) ∙ ap (stripped run) (append-nil ps)

  pub strips : (limit : ℕ) (s : S) (bytes text : List ℕ) → Ends {S = S} drops ends_bare limit s bytes text → Strips limit bytes text
  strips limit s bytes text e =
      let bare : text ≡ e.before ++ shown_text e.run = e.all ∙ (rw (e.closes, append-nil (shown_text e.run)) refl) in
      record { parts = e.parts; whole = e.whole; left = bare ∙ left_stripped (as_read first_reading e.parts) s e.after [] e.before e.run e.steps }

pub strips_plain : (limit : ℕ) (bytes text : List ℕ) → Strips limit bytes text → IsPlain text
strips_plain limit bytes text s = subst IsPlain (sym s.left) (plain_stripped (as_read first_reading s.parts) [])
