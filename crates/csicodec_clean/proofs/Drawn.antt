-- Text as its characters are in the sets: part by part, span by span, and byte by byte.
use Rattle.std.proofs.Common.{◌≡◌, ◌<◌, ◌≤◌, ◌≢◌, ◌==◌, ℕ, zero, suc, Bool, true, false, List, [], ◌∷◌, ◌++◌, length, take, drop, refl, sym, ap, subst, ◌∙◌, arith, append_assoc, append-nil, take-append-drop, flat_map, get_or, encode_utf8_all, slice_index, nat_lt, nat_le, ◌&&◌, ◌-◌, ◌+◌, length-append, length-drop}
use Rattle.std.proofs.{lemmas.List.get_or_append_left, lemmas.List.get_or-append-add, lemmas.Str.encode_ascii}
use Rattle.csicodec_clean.proofs.Common.{and_from, and_parts, nat_tests, AllByRecursion, cond_both, Part, part, bytes_of, IsSpan, Kind, singles, read_as, title_open, with_titles, IsRead, ReadsTo, decoded, lossy_chars, lossy_chars-nil, piece-bounds, drop-append-le, value-6, value-9, value-12, scalar, all_scalars, Writing, chars_as, run_as, as_read, first_reading, first_sets, read_behind, passed}
use Rattle.csicodec_clean.proofs.{Plain.read_more, Plain.read_none, Plain.shown_on, Plain.written_none, Titles.open_on, Titles.titled, Titles.titles_on}
use Rattle.csicodec_clean.proofs.{Titles.single_texts}
use Rattle.csicodec_clean.specs.Sets.{behind, behind_text, drawn, drawn_byte, drawn_text, in_use, is_decstr, sets_behind, shifted, with_sets, IsSame, IsSplit}
use Rattle.csicodec_clean.specs.{Private.Steps.Draws, Private.Steps.DrawsTo, Private.Steps.IsStill, Private.Steps.unshifted, declared.reading.Reading.Reading}
use Rattle.csicodec_clean.specs.{declared.reading.Sets.Sets}
use Rattle.csicodec_looks.specs.{Sets.char_in, Sets.graphics, declared.sets.Set.Set, declared.sets.Set.TheVariants.Ascii, declared.sets.Set.TheVariants.British}
use Rattle.csicodec_looks.specs.{declared.sets.Set.TheVariants.Graphics}
use Rattle.csicodec_spans.specs.Parts.{AreAll}
use Rattle.csicodec_looks.proofs.Fronts.{front_in}
use Rattle.bstr.specs.Utf8.{continues, decoded_by, second}
use Rattle.bstr.proofs.lemmas.PieceLemmas.{by-shape, lossy_chars-step, value-1, value-2, value-3, value-5, value-8, value-11}
use Rattle.bstr.proofs.lemmas.LossyLemmas.{lossy_chars-front}
use Rattle.std.specs.{Char.encode_utf8, List.prefix_len}
use lib.Utf8.{low_scalar}

-- ---- one run of bytes behind the other

pub behind_on : (s : Sets) (xs ys : List ℕ) → behind_text s (xs ++ ys) ≡ behind_text (behind_text s xs) ys
behind_on s [] ys = refl
behind_on s (x ∷ xs) ys = behind_on (shifted s x) xs ys

pub drawn_on : (s : Sets) (xs ys : List ℕ) → drawn_text s (xs ++ ys) ≡ drawn_text s xs ++ drawn_text (behind_text s xs) ys
drawn_on s [] ys = refl
drawn_on s (x ∷ xs) ys = ap (λ t. drawn_byte s x ++ t) (drawn_on (shifted s x) xs ys) ∙ sym (append_assoc (drawn_byte s x) (drawn_text (shifted s x) xs) _)

-- ---- parts

sets_on : (s : Sets) (ps qs : List Part) → with_sets s (ps ++ qs) ≡ with_sets s ps ++ with_sets (sets_behind s ps) qs
sets_on s [] qs = refl
sets_on s (p ∷ ps) qs = ap (λ (x : List Part). part p.kind (drawn s p.kind p.bytes) ∷ x) (sets_on (behind s p.kind p.bytes) ps qs)

left_on : (s : Sets) (ps qs : List Part) → sets_behind s (ps ++ qs) ≡ sets_behind (sets_behind s ps) qs
left_on s [] qs = refl
left_on s (p ∷ ps) qs = left_on (behind s p.kind p.bytes) ps qs

pub as_read_on : (r : Reading) (ps qs : List Part) → as_read r (ps ++ qs) ≡ as_read r ps ++ as_read (read_behind r ps) qs
as_read_on r ps qs = ap (with_sets r.sets) (titles_on r.titled ps qs) ∙ sets_on r.sets (with_titles r.titled ps) (with_titles (title_open r.titled ps) qs)

reading : Bool → Sets → Reading
reading t s = record { titled = t; sets = s }

pub read_on : (r : Reading) (ps qs : List Part) → read_behind r (ps ++ qs) ≡ read_behind (read_behind r ps) qs
read_on r ps qs = rw (open_on r.titled ps qs, titles_on r.titled ps qs, left_on r.sets (with_titles r.titled ps) (with_titles (title_open r.titled ps) qs)) refl

-- ---- a span

module _ (k : Kind) (drawn_none : (s : Sets) → drawn s k [] ≡ []) (drawn_more : (s : Sets) (xs ys : List ℕ) → drawn s k (xs ++ ys) ≡ drawn s k xs ++ drawn (behind s k xs) k ys)
    (behind_none : (s : Sets) → behind s k [] ≡ s) (behind_more : (s : Sets) (xs ys : List ℕ) → behind s k (xs ++ ys) ≡ behind (behind s k xs) k ys) where
  all_drawn : (s : Sets) (ps : List Part) → AllByRecursion (λ (p : Part). p.kind ≡ k) ps → AllByRecursion (λ (p : Part). p.kind ≡ k) (with_sets s ps)
      × (flat_map bytes_of (with_sets s ps) ≡ drawn s k (flat_map bytes_of ps)) × (sets_behind s ps ≡ behind s k (flat_map bytes_of ps))
  all_drawn s [] h = (tt, sym (drawn_none s), sym (behind_none s))
  all_drawn s (p ∷ ps) h =
      let later = all_drawn (behind s p.kind p.bytes) ps h.1 in
      ((h.0, later.0), rw (drawn_more s p.bytes (flat_map bytes_of ps), later.1, h.0) refl, rw (behind_more s p.bytes (flat_map bytes_of ps), later.2, h.0) refl)

  some_drawn : (s : Sets) (bytes : List ℕ) (ps : List Part) → AreAll k bytes ps → AreAll k (drawn s k bytes) (with_sets s ps) × (sets_behind s ps ≡ behind s k bytes)
  some_drawn s bytes [] a = absurd (omega (arith, a.some))
  some_drawn s bytes (p ∷ ps) a =
      let all = all_drawn s (p ∷ ps) a.all in
      (record { some = omega arith; all = all.0; joined = all.1 ∙ ap (drawn s k) a.joined }, all.2 ∙ ap (behind s k) a.joined)

span_drawn : (s : Sets) (k : Kind) (bytes : List ℕ) (ps : List Part) → IsSpan k bytes ps → IsSpan k (drawn s k bytes) (with_sets s ps) × (sets_behind s ps ≡ behind s k bytes)
span_drawn s Kind.Text bytes ps h = some_drawn Kind.Text (λ s. refl) drawn_on (λ s. refl) behind_on s bytes ps h
span_drawn s Kind.Str bytes ps h = some_drawn Kind.Str (λ s. refl) (λ s xs ys. refl) (λ s. refl) (λ s xs ys. refl) s bytes ps h
span_drawn s Kind.Other bytes ps h = some_drawn Kind.Other (λ s. refl) (λ s xs ys. refl) (λ s. refl) (λ s xs ys. refl) s bytes ps h
span_drawn s _ bytes ps h = rw h (refl, refl)

-- a span is read as one, and so is what is behind it
pub record SpanRead (r : Reading) (k : Kind) (bytes : List ℕ) (ps : List Part) : Type 0 where
  pub span : IsSpan (read_as k r.titled) (drawn r.sets (read_as k r.titled) bytes) (as_read r ps)
  pub behind : read_behind r ps ≡ passed r k bytes

pub span_read : (r : Reading) (k : Kind) (bytes : List ℕ) (ps : List Part) → IsSpan k bytes ps → SpanRead r k bytes ps
span_read r k bytes ps h =
    let t = titled r.titled k bytes ps h in
    let d = span_drawn r.sets (read_as k r.titled) bytes (with_titles r.titled ps) t.span in
    record { span = d.0; behind = rw (t.behind, d.1) refl }

-- ---- bytes that are what they are

ascii_one : (s : Sets) (b : ℕ) → in_use s ≡ Ascii → drawn_byte s b ≡ b ∷ []
ascii_one s b is = rw is (cond_both (nat_lt b 128) (encode_utf8 b) (b ∷ []) (λ t. t ≡ b ∷ []) (λ low. encode_ascii b (grind (arith, nat_tests))) (λ _. refl))

still_shift : (s : Sets) (b : ℕ) → b ≢ 14 → b ≢ 15 → shifted s b ≡ s
still_shift s b h k = grind (arith, nat_tests)

same_more : (s : Sets) (b : ℕ) (bytes : List ℕ) → drawn_byte s b ≡ b ∷ [] → shifted s b ≡ s → IsSame s bytes → IsSame s (b ∷ bytes)
same_more s b bytes one still h = (rw (one, still, h.0) refl, rw (still, h.1) refl)

pub same_still : (s : Sets) (bytes : List ℕ) → in_use s ≡ Ascii → AllByRecursion IsStill bytes → IsSame s bytes
same_still s [] is h = (refl, refl)
same_still s (b ∷ bytes) is h = same_more s b bytes (ascii_one s b is) (still_shift s b h.0.1 h.0.2) (same_still s bytes is h.1)

pub same_ascii : (s : Sets) (bytes : List ℕ) → in_use s ≡ Ascii → AllByRecursion (λ b. unshifted b ≡ true) bytes → IsSame s bytes
same_ascii s [] is h = (refl, refl)
same_ascii s (b ∷ bytes) is h = same_more s b bytes (ascii_one s b is) (grind (arith, nat_tests)) (same_ascii s bytes is h.1)

pub same_none : (s : Sets) → IsSame s []
same_none s = (refl, refl)

pub same_high : (s : Sets) (b : ℕ) → 128 ≤ b → IsSame s (b ∷ [])
same_high s b high = same_more s b [] (grind (arith, nat_tests)) (grind (arith, nat_tests)) (refl, refl)

-- parts of text that are what they are
pub drawn_singles : (bs : List ℕ) (ps : List Part) → AllByRecursion IsStill bs → with_sets first_sets (singles Kind.Text bs ++ ps) ≡ singles Kind.Text bs ++ with_sets first_sets ps
drawn_singles [] ps h = refl
drawn_singles (b ∷ bs) ps h =
    let one = same_still first_sets (b ∷ []) refl (h.0, tt) in
    rw (one.0, one.1) (ap (λ (x : List Part). part Kind.Text (b ∷ []) ∷ x) (drawn_singles bs ps h.1))

pub read_text : (bs : List ℕ) → AllByRecursion IsStill bs → as_read first_reading (singles Kind.Text bs) ≡ singles Kind.Text bs
read_text bs h = ap (with_sets first_sets) (single_texts bs ∙ sym (append-nil (singles Kind.Text bs))) ∙ drawn_singles bs [] h ∙ append-nil (singles Kind.Text bs)

-- those of control strings are, and a control sequence sets back what is first already
pub string_singles : (bs : List ℕ) (ps : List Part) → with_sets first_sets (singles Kind.Str bs ++ ps) ≡ singles Kind.Str bs ++ with_sets first_sets ps
string_singles [] ps = refl
string_singles (b ∷ bs) ps = ap (λ (x : List Part). part Kind.Str (b ∷ []) ∷ x) (string_singles bs ps)

pub first_stays : (bytes : List ℕ) → behind first_sets Kind.Csi bytes ≡ first_sets
first_stays bytes = cond_both (is_decstr bytes) first_sets first_sets (λ s. s ≡ first_sets) (λ _. refl) (λ _. refl)

-- ---- where a character begins, the one before it ends

closed_by : (n m b c d e c' d' e' : ℕ) → n < m → 0 < n → (1 < n → c' ≡ c) → (2 < n → d' ≡ d) → (3 < n → e' ≡ e)
    → (n ≡ 1 → second b c' ≡ false) → (n ≡ 2 → continues d' ≡ false) → (n ≡ 3 → continues e' ≡ false) → decoded_by m b c' d' e' ≡ decoded_by n b c d e
closed_by n m b c d e c' d' e' less some second_c third_d fourth_e no_c no_d no_e = by-shape n b c d e
    (λ h. absurd (omega (arith, h.0, some)))
    (λ h. value-1 m b c' d' e' (omega arith, h.1) ∙ sym h.2)
    (λ h. value-2 m b c' d' e' (omega arith, h.1, h.2) ∙ sym h.3)
    (λ h. value-3 m b c' d' e' (omega arith, h.1) ∙ sym h.2)
    (λ h. value-5 m b c' d' e' (omega arith, h.1, h.2, no_c (omega arith)) ∙ sym h.4)
    (λ h. rw (second_c (omega arith)) (value-5 m b c d' e' (omega arith, h.1, h.2, h.3) ∙ sym h.4))
    (λ h. rw (second_c (omega arith)) (value-6 m b c d' e' (omega arith, h.1, h.2, h.3) ∙ sym h.4))
    (λ h. rw (second_c (omega arith)) (value-8 m b c d' e' (omega arith, h.1, h.2, h.3, no_d (omega arith)) ∙ sym h.5))
    (λ h. rw (second_c (omega arith), third_d (omega arith)) (value-8 m b c d e' (omega arith, h.1, h.2, h.3, h.4) ∙ sym h.5))
    (λ h. rw (second_c (omega arith), third_d (omega arith)) (value-9 m b c d e' (omega arith, h.1, h.2, h.3, h.4) ∙ sym h.5))
    (λ h. rw (second_c (omega arith), third_d (omega arith)) (value-11 m b c d e' (omega arith, h.1, h.2, h.3, h.4, no_e (omega arith)) ∙ sym h.6))
    (λ h. rw (second_c (omega arith), third_d (omega arith), fourth_e (omega arith)) (value-11 m b c d e (omega arith, h.1, h.2, h.3, h.4, h.5) ∙ sym h.6))
    (λ h. rw (second_c (omega arith), third_d (omega arith), fourth_e (omega arith)) (value-12 m b c d e (omega arith, h.1, h.2, h.3, h.4, h.5) ∙ sym h.6))

not_second : (b c : ℕ) → continues c ≡ false → second b c ≡ false
not_second b c h = grind (arith, nat_tests)

-- bytes that begin with no byte that goes on with a character
abbrev Begins : List ℕ → Type 0
Begins ys = (0 < length ys) × (continues (slice_index ys 0) ≡ false)

closed_piece : (xs ys : List ℕ) → 0 < length xs → Begins ys → decoded (xs ++ ys) ≡ decoded xs
closed_piece xs ys some begins =
    let all = xs ++ ys in
    let long = length-append xs ys in
    let at : (k : ℕ) → k < length xs → slice_index all k ≡ slice_index xs k = λ k l. get_or_append_left xs ys 0 k l in
    let none : length xs + 0 ≡ length xs = omega arith in
    let end : slice_index all (length xs) ≡ slice_index ys 0 = subst (λ n. get_or all n 0 ≡ get_or ys 0 0) none (get_or-append-add xs ys 0 0) in
    let next : (k : ℕ) → length xs ≡ k → continues (slice_index all k) ≡ false = λ k e. subst (λ n. continues (slice_index all n) ≡ false) e (ap continues end ∙ begins.1) in
    subst (λ v. decoded_by (length all) v (slice_index all 1) (slice_index all 2) (slice_index all 3) ≡ decoded xs) (sym (at 0 some))
    (closed_by (length xs) (length all) (slice_index xs 0) (slice_index xs 1) (slice_index xs 2) (slice_index xs 3)
    (slice_index all 1) (slice_index all 2) (slice_index all 3) (omega (arith, begins.0)) some (at 1) (at 2) (at 3)
    (λ e. not_second (slice_index xs 0) (slice_index all 1) (next 1 e)) (next 2) (next 3))

closed_within : (fuel : ℕ) (xs ys : List ℕ) → length xs ≤ fuel → Begins ys → lossy_chars (xs ++ ys) ≡ lossy_chars xs ++ lossy_chars ys
closed_within fuel [] ys le begins = ap (λ t. t ++ lossy_chars ys) (sym lossy_chars-nil)
closed_within zero (x ∷ xs) ys le begins = absurd (omega (arith, le))
closed_within (suc fuel) (x ∷ xs) ys le begins =
    let all = x ∷ xs in
    let n = (decoded all).size in
    let bounds = piece-bounds all (omega arith) in
    let later = closed_within fuel (drop n all) ys (omega (arith, le, bounds.0, length-drop n all)) begins in
    let step = lossy_chars-step (all ++ ys) (omega arith) in
    rw (step, closed_piece all ys (omega arith) begins, drop-append-le n all ys bounds.2, later, lossy_chars-step all (omega arith)) refl

encodes : (c : ℕ) (more : List ℕ) → Begins (encode_utf8 c ++ more)
unfolding encode_utf8
encodes c more = grind (arith, nat_tests)

-- ---- the characters of the sets

in_list : (P : ℕ → Type 0) (xs : List ℕ) (k d : ℕ) → AllByRecursion P xs → P d → P (get_or xs k d)
in_list P [] k d h e = e
in_list P (x ∷ xs) zero d h e = h.0
in_list P (x ∷ xs) (suc k) d h e = in_list P xs k d h.1 e

abbrev IsScalarByte : ℕ → Type 0
IsScalarByte c = scalar c ≡ true

all_scalar : (cs : List ℕ) → all_scalars cs ≡ true → AllByRecursion IsScalarByte cs
all_scalar [] h = tt
all_scalar (c ∷ cs) h = let both = and_parts (scalar c) (all_scalars cs) h in (both.0, all_scalar cs both.1)

all_graphics : AllByRecursion IsScalarByte graphics
all_graphics = all_scalar graphics refl

set_scalar : (set : Set) (b : ℕ) → b < 128 → scalar (char_in set b) ≡ true
set_scalar Ascii b low = low_scalar b (omega (arith, low))
set_scalar British b low = cond_both (b == 35) 163 b IsScalarByte (λ _. refl) (λ _. low_scalar b (omega (arith, low)))
set_scalar Graphics b low = cond_both (nat_le 95 b && nat_le b 126) (get_or graphics (b - 95) b) b IsScalarByte
    (λ _. in_list IsScalarByte graphics (b - 95) b all_graphics (low_scalar b (omega (arith, low)))) (λ _. low_scalar b (omega (arith, low)))

pub set_control : (set : Set) (b : ℕ) → b < 32 → char_in set b ≡ b
set_control Ascii b low = refl
set_control British b low = grind (arith, nat_tests)
set_control Graphics b low = grind (arith, nat_tests)

-- ---- text behind a run

pub draws_none : (s : Sets) (held : List ℕ) → Draws s held [] [] held
draws_none s held = (rw (append-nil held) (read_none held), [], append-nil held)

pub draws_on : (s : Sets) (held xs ys mid left cs ds : List ℕ) → Draws s held xs cs mid → Draws (behind_text s xs) mid ys ds left → Draws s held (xs ++ ys) (cs ++ ds) left
draws_on s held xs ys mid left cs ds (read, front, e) (later, back, f) =
    let now = read_more (held ++ drawn_text s xs) mid (drawn_text (behind_text s xs) ys) left cs ds read later in (
      rw (drawn_on s xs ys, ← append_assoc held (drawn_text s xs) (drawn_text (behind_text s xs) ys)) now,
      front ++ back,
      sym (append_assoc held xs ys) ∙ ap (λ t. t ++ ys) e ∙ append_assoc front mid ys ∙ ap (λ t. front ++ t) f ∙ sym (append_assoc front back left),
    )

pub draws_same : (s : Sets) (held xs left cs : List ℕ) → IsSame s xs → ReadsTo (held ++ xs) cs left → Draws s held xs cs left
draws_same s held xs left cs same (read, front, e) = (rw same.0 read, front, e)

-- a byte of ASCII ends what is held
pub draws_one : (s : Sets) (held : List ℕ) (b : ℕ) → b < 128 → Draws s held (b ∷ []) (lossy_chars held ++ char_in (in_use s) b ∷ []) []
draws_one s held b low =
    let c = char_in (in_use s) b in
    let one : drawn_byte s b ++ [] ≡ encode_utf8_all (c ∷ []) = cond_both (nat_lt b 128) (encode_utf8 c) (b ∷ []) (λ t. t ++ [] ≡ encode_utf8_all (c ∷ [])) (λ _. refl) (λ high. absurd (grind (arith, nat_tests))) in
    let read : IsRead (held ++ encode_utf8_all (c ∷ [])) (lossy_chars held ++ c ∷ []) [] = λ more.
    ap lossy_chars (append_assoc held (encode_utf8_all (c ∷ [])) more)
    ∙ closed_within (length held) held (encode_utf8_all (c ∷ []) ++ more) (omega arith) (subst Begins (sym (append_assoc (encode_utf8 c) [] more)) (encodes c more))
    ∙ ap (λ t. lossy_chars held ++ t) (lossy_chars-front (c ∷ []) more (and_from (scalar c) true (set_scalar (in_use s) b low) refl))
    ∙ sym (append_assoc (lossy_chars held) (c ∷ []) (lossy_chars more)) in
    (rw one read, held ++ b ∷ [], sym (append-nil (held ++ b ∷ [])))

pub to_on : (w : Writing) (s mid after : Sets) (held between left bytes middle rest old now new : List ℕ) → DrawsTo w s held bytes middle mid between old now
    → DrawsTo w mid between middle rest after left now new → DrawsTo w s held bytes rest after left old new
to_on w s mid after held between left bytes middle rest old now new (xs, cs, split, draws, sets, out) (ys, ds, more, later, behind, last) = (
  xs ++ ys,
  cs ++ ds,
  split ∙ ap (λ t. xs ++ t) more ∙ sym (append_assoc xs ys rest),
  draws_on s held xs ys between left cs ds draws (rw sets at later),
  behind ∙ ap (λ (m : Sets). behind_text m ys) sets ∙ sym (behind_on s xs ys),
  last ∙ ap (λ t. t ++ chars_as w ds) out ∙ append_assoc old (chars_as w cs) (chars_as w ds) ∙ ap (λ t. old ++ t) (sym (shown_on w cs ds)),
)

pub to_none : (w : Writing) (s : Sets) (held bytes old : List ℕ) → DrawsTo w s held bytes bytes s held old old
to_none w s held bytes old = ([], [], refl, draws_none s held, refl, sym (ap (λ t. old ++ t) (written_none w) ∙ append-nil old))

-- no byte is left
pub none_behind : (w : Writing) (s after : Sets) (held bytes rest left old new : List ℕ) → length rest ≡ 0 → DrawsTo w s held bytes rest after left old new → DrawsTo w s held bytes [] after left old new
none_behind w s after held bytes [] left old new none h = h
none_behind w s after held bytes (b ∷ rest) left old new none h = absurd (omega (arith, none))

-- bytes in front that are what they are, and one that is drawn
pub same_taken : (w : Writing) (s : Sets) (held bytes front rest left old new : List ℕ) → bytes ≡ front ++ rest → IsSame s front
    → (chars : List ℕ) × ReadsTo (held ++ front) chars left × (new ≡ old ++ chars_as w chars) → DrawsTo w s held bytes rest s left old new
same_taken w s held bytes front rest left old new split same (chars, reads, out) = (front, chars, split, draws_same s held front left chars same reads, sym same.1, out)

pub one_taken : (w : Writing) (s after : Sets) (held bytes : List ℕ) (b : ℕ) (rest left old new : List ℕ) → bytes ≡ b ∷ rest → b < 128 → after ≡ shifted s b → left ≡ []
    → new ≡ old ++ (run_as w held ++ chars_as w (char_in (in_use s) b ∷ [])) → DrawsTo w s held bytes rest after left old new
one_taken w s after held bytes b rest left old new split low sets none out = (
  b ∷ [],
  lossy_chars held ++ char_in (in_use s) b ∷ [],
  split,
  rw none (draws_one s held b low),
  sets,
  out ∙ ap (λ t. old ++ t) (sym (shown_on w (lossy_chars held) (char_in (in_use s) b ∷ []))),
)

-- ---- bytes in front that are what they are

pub split_ascii : (s : Sets) (bytes : List ℕ) → in_use s ≡ Ascii → IsSplit s bytes (take (prefix_len unshifted bytes) bytes) (drop (prefix_len unshifted bytes) bytes)
split_ascii s bytes is = (sym (take-append-drop (prefix_len unshifted bytes) bytes), same_ascii s _ is (front_in unshifted bytes), by bytes)
  where
    by : (bs : List ℕ) → length (take (prefix_len unshifted bs) bs) ≡ 0 → (b : ℕ) → (others : List ℕ) → bs ≡ b ∷ others → b < 128
    by bs none b others e = grind (arith, nat_tests)

pub split_high : (s : Sets) (bytes : List ℕ) (b : ℕ) (others : List ℕ) → bytes ≡ b ∷ others → 128 ≤ b → IsSplit s bytes (take 1 bytes) (drop 1 bytes)
split_high s bytes b others e high = rw e (refl, same_high s b high, λ none. absurd (omega (arith, none)))

pub split_none : (s : Sets) (bytes : List ℕ) → ((b : ℕ) → (others : List ℕ) → bytes ≡ b ∷ others → b < 128) → IsSplit s bytes (take 0 bytes) (drop 0 bytes)
split_none s bytes low = (refl, same_none s, λ none. low)
