-- Text that is told by its bytes: plain bytes in front, text that stays as it is, and where text of a class ends.
pub use Rattle.std.proofs.lemmas.Str.{encode_ascii as alone}
pub use Rattle.csicodec_looks.proofs.Fronts.{front_in, behind_one, behind_drop, front_within, front_ends, low, is_shown, scalars, encoded}
use Rattle.std.proofs.Common.{◌≡◌, ℕ, zero, suc, ◌<◌, ◌≤◌, Bool, true, List, [], ◌∷◌, drop, take, refl, arith, ◌+◌, false, cond, ◌++◌, encode_utf8_all, sym, ap, subst, ◌∙◌, append_assoc, append-nil, filter, ◌-◌, None, Some, length, slice_index, take-append-drop, ◌≢◌, ◌^◌, ◌==◌, min, length-append}
use Rattle.std.proofs.{lemmas.Bool.false≢true, lemmas.List.append_cancel_left, lemmas.List.Sums.sum_by-append}
use Rattle.csicodec_clean.proofs.Common.{AllByRecursion, lossy_chars-encode, Answer, Part, Allows, AreFirstParts, IsWhole, none_unsure, singles, whole_once, shown, shown_chars, shown_text, IsShown, IsPlain, as_read, first_reading, Strips, stripped, IsOther, and_from, nat_tests, common_steps, take-append_seam, all_scalars, scalar, decoded, lossy_chars, piece-bounds, value-6, value-9, value-12, SpellsChar-decoded, Writing, chars_as, written, IsBehind, IsTextOf, plain_byte, ReadsTo, Tells, and_parts, IsOutside, Stands}
use Rattle.csicodec_clean.proofs.Plain.{strips_plain, plain_bytes, plain_still, text_on, all_both, all_weaker, shown_on, written_none, read_more, read_none, read_on, all_parts, scalars_lossy, encoded_on}
use Rattle.csicodec_clean.proofs.Drawn.{read_text}
use Rattle.std.specs.{List.prefix_len, Char.encode_utf8}
use Rattle.csicodec_looks.specs.Bytes.{behind, IsPlainByte}
use Rattle.csicodec_clean.specs.{Shown.IsWritten, Private.Steps.IsTold, Private.Steps.IsStill, Private.Steps.dropped_byte, Private.Steps.IsWide, Check.IsFault}
use Rattle.csicodec_clean.specs.{Check.line_ends}
use Rattle.csicodec_spans.proofs.Agrees.{text_goes_on}
use lib.Utf8.{low_scalar}
use Rattle.bstr.specs.Utf8.{Decoded, continues, second, code_of_2, code_of_3, code_of_4}
use Rattle.bstr.proofs.{lemmas.LossyLemmas.lossy_chars-front, lemmas.EncodeLemmas.decoded-encode}
use Rattle.csicodec_spans.specs.{declared.table.Kind.Kind, declared.table.Mode.Mode}

-- ---- Plain text stays as it is.

pub all_text : (limit : ℕ) (bs : List ℕ) → AllByRecursion IsOther bs → AreFirstParts limit Mode.Text bs (singles Kind.Text bs) [] Mode.Text
all_text limit [] h = (refl, refl)
all_text limit (b ∷ bs) h =
    (bs, Mode.Text, (refl, subst (λ (f : Answer). Allows f limit (b ∷ bs) Kind.Text (b ∷ []) Mode.Text) (sym (text_goes_on b bs h.0)) (refl, refl, refl)), all_text limit bs h.1)

pub whole_all : (limit : ℕ) (bytes : List ℕ) (ps : List Part) → AreFirstParts limit Mode.Text bytes ps [] Mode.Text → IsWhole limit Mode.Text bytes ps
whole_all limit bytes ps first = record { sure = ps; rest = []; after = Mode.Text; first = first; unsure = none_unsure limit Mode.Text; whole = sym (append-nil ps) }

stripped_text : (bs run : List ℕ) → stripped run (singles Kind.Text bs) ≡ shown_text (run ++ bs)
stripped_text [] run = ap shown_text (sym (append-nil run))
stripped_text (b ∷ bs) run = stripped_text bs (run ++ b ∷ []) ∙ ap shown_text (append_assoc run (b ∷ []) bs)

pub all_kept : (cs : List ℕ) → AllByRecursion IsShown cs → filter shown cs ≡ cs
all_kept [] h = refl
all_kept (c ∷ cs) h = ap (λ b. cond b (c ∷ filter shown cs) (filter shown cs)) h.0 ∙ ap (λ t. c ∷ t) (all_kept cs h.1)

pub one_text : (limit : ℕ) (bytes text other : List ℕ) → Strips limit bytes text → Strips limit bytes other → text ≡ other
one_text limit bytes text other s t = s.left ∙ ap (λ ps. stripped [] (as_read first_reading ps)) (whole_once limit Mode.Text bytes s.parts t.parts s.whole t.whole) ∙ sym t.left

pub plain_stays : (limit : ℕ) (text other : List ℕ) → IsPlain text → Strips limit text other → other ≡ text
plain_stays limit text other p s =
    let (cs, scalars, all, e) = p in
    let parts = whole_once limit Mode.Text text s.parts (singles Kind.Text text) s.whole (whole_all limit text (singles Kind.Text text) (all_text limit text (plain_bytes text p))) in
    s.left ∙ ap (λ ps. stripped [] (as_read first_reading ps)) parts ∙ ap (stripped []) (read_text text (plain_still text p)) ∙ stripped_text text [] ∙ ap shown_text e
    ∙ ap shown_chars (lossy_chars-encode cs scalars) ∙ ap encode_utf8_all (all_kept cs all) ∙ sym e

pub twice : (limit : ℕ) (bytes text other : List ℕ) → Strips limit bytes text → Strips limit text other → other ≡ text
twice limit bytes text other s t = plain_stays limit text other (strips_plain limit bytes text s) t

-- ---- plain bytes

ascii_in : (class : ℕ → Bool) → ((b : ℕ) → IsPlainByte b → class b ≡ true) → (bs : List ℕ) → AllByRecursion IsPlainByte bs
    → IsTextOf class bs
ascii_in class has bs h = (bs, scalars bs h, all_weaker IsPlainByte (λ c. class c ≡ true) has bs h, encoded bs h)

pub ascii_shown : (bs : List ℕ) → AllByRecursion IsPlainByte bs → IsPlain bs
ascii_shown = ascii_in shown is_shown

-- ---- behind them, and behind characters of a class

pub behind_ascii : (class : ℕ → Bool) → ((b : ℕ) → IsPlainByte b → class b ≡ true) → (bytes : List ℕ)
    → IsBehind class bytes (behind plain_byte bytes)
behind_ascii class has bytes =
    let front = take (prefix_len plain_byte bytes) bytes in
    (front, sym (take-append-drop (prefix_len plain_byte bytes) bytes), ascii_in class has front (front_in plain_byte bytes))

pub plain_behind : (bytes : List ℕ) → IsBehind shown bytes (behind plain_byte bytes)
plain_behind = behind_ascii shown is_shown

pub none_behind : (bytes : List ℕ) → IsBehind shown bytes bytes
none_behind bytes = ([], refl, ([], refl, tt, refl))

pub further : (class : ℕ → Bool) (bytes mid rest : List ℕ) → IsBehind class bytes mid → IsBehind class mid rest → IsBehind class bytes rest
further class bytes mid rest (xs, e, h) (ys, f, k) =
    (xs ++ ys, e ∙ ap (λ t. xs ++ t) f ∙ sym (append_assoc xs ys rest), text_on class xs ys h k)

pub behind_front : (class : ℕ → Bool) (bytes : List ℕ) (n : ℕ) → IsTextOf class (take n bytes) → IsBehind class bytes (drop n bytes)
behind_front class bytes n h = (take n bytes, sym (take-append-drop n bytes), h)

-- ---- what is read of them

-- characters that are shown are told
pub plain_told : (text : List ℕ) (p : IsPlain text) → IsTold text p.0
plain_told text (cs, scalars, all, e) = (plain_still text (cs, scalars, all, e), λ more. ap (λ t. lossy_chars (t ++ more)) e ∙ lossy_chars-front cs more scalars)

one_read : (b : ℕ) (bs : List ℕ) → b < 128 → lossy_chars (b ∷ bs) ≡ b ∷ lossy_chars bs
one_read b bs a = rw (alone b a) at (lossy_chars-front (b ∷ []) bs (and_from (scalar b) true (low_scalar b (omega (arith, a))) refl))

-- ---- what is appended for it

pub tells_none : (w : Writing) (bytes old : List ℕ) → Tells w bytes bytes old old
tells_none w bytes old = ([], [], refl, (tt, read_none []), sym (ap (λ t. old ++ t) (written_none w) ∙ append-nil old))

pub tells_on : (w : Writing) (bytes mid rest old one new : List ℕ) → Tells w bytes mid old one → Tells w mid rest one new → Tells w bytes rest old new
tells_on w bytes mid rest old one new (xs, cs, e, (h, r), o) (ys, ds, f, (k, t), n) =
    let told : IsTold (xs ++ ys) (cs ++ ds) = (all_both IsStill xs ys h k, read_more xs [] ys [] cs ds r t) in
    (xs ++ ys, cs ++ ds, rw (e, f) (simp append_assoc), told, rw (n, o, shown_on w cs ds) (simp append_assoc))

-- the plain bytes in front are what is before the others
pub front_taken : (bytes front rest : List ℕ) → bytes ≡ front ++ rest → take (length bytes - length rest) bytes ≡ front
front_taken bytes front rest e = grind (arith, common_steps)

pub tells_shown : (w : Writing) (bytes rest old new : List ℕ) → IsBehind shown bytes rest → IsWritten w (take (length bytes - length rest) bytes) old new
    → Tells w bytes rest old new
tells_shown w bytes rest old new (text, e, (cs, scalars, all, is)) h =
    (text, cs, e, plain_told text (cs, scalars, all, is), h cs all (front_taken bytes text rest e ∙ is) ∙ ap (λ t. old ++ written w t) (sym (all_kept cs all)))

pub tells_dropped : (w : Writing) (b : ℕ) (bytes rest old : List ℕ) → bytes ≡ b ∷ rest → dropped_byte b ≡ true → Tells w bytes rest old old
tells_dropped w b bytes rest old e d =
    let other : IsStill b = (λ is. absurd (grind (arith, nat_tests)), λ is. absurd (grind (arith, nat_tests)), λ is. absurd (grind (arith, nat_tests))) in
    let hidden : shown b ≡ false = grind (arith, nat_tests) in
    (b ∷ [], b ∷ [], e, ((other, tt), λ more. one_read b more (grind (arith, nat_tests))), rw (hidden, written_none w, append-nil) refl)

-- what is told is read in front of the rest
pub tells_read : (w : Writing) (bytes rest old new : List ℕ) → Tells w bytes rest old new → (chars : List ℕ) × ReadsTo bytes chars rest × (new ≡ old ++ chars_as w chars)
tells_read w bytes rest old new (text, chars, parts, (other, read), out) = (chars, (λ more. rw (parts, append_assoc) (read (rest ++ more)), text, parts), out)

-- one after the other
pub reads_on : (run mid rest first later : List ℕ) → ReadsTo run first mid → ReadsTo mid later rest → ReadsTo run (first ++ later) rest
reads_on run mid rest first later (h, xs, e) (k, ys, f) = (read_on run mid rest first later h k, xs ++ ys, e ∙ ap (λ t. xs ++ t) f ∙ sym (append_assoc xs ys rest))

-- and told behind what was read
pub tells_more : (w : Writing) (bytes mid from rest chars old out new : List ℕ) → ReadsTo bytes chars mid → from ≡ mid → out ≡ old ++ chars_as w chars → Tells w from rest out new
    → (all : List ℕ) × ReadsTo bytes all rest × (new ≡ old ++ chars_as w all)
tells_more w bytes mid from rest chars old out new reads same was tells =
    let (more, told, longer) = tells_read w mid rest out new (rw same at tells) in
    let shown : new ≡ old ++ chars_as w (chars ++ more) = longer ∙ ap (λ t. t ++ chars_as w more) was ∙ (rw (shown_on w chars more) (simp append_assoc)) in
    (chars ++ more, reads_on bytes mid rest chars more reads told, shown)

-- where nothing was held
pub none_held : (held bytes chars rest new : List ℕ) → length held ≡ 0 → ReadsTo bytes chars rest → new ≡ held ++ rest → ReadsTo (held ++ bytes) chars new
none_held [] bytes chars rest new none reads e = rw e reads
none_held (h ∷ held) bytes chars rest new none reads e = absurd (omega (arith, none))

-- ---- characters that are told by their bytes

pub two : (b c d e : ℕ) → 0xC2 ≤ b → b < 0xE0 → continues c ≡ true → (b ≡ 0xC2 → 0x9F < c) → IsWide b c d e 2
two b c d e low high ok first =
    let is_second : second b c ≡ true = grind (arith, nat_tests) in
    (code_of_2 b c, grind (arith, nat_tests), λ n many. value-6 n b c d e (omega (arith, many), low, high, is_second))

pub three : (b c d e : ℕ) → 0xE0 ≤ b → b < 0xF0 → second b c ≡ true → continues d ≡ true → IsWide b c d e 3
three b c d e low high ok more = (code_of_3 b c d, grind (arith, nat_tests), λ n many. value-9 n b c d e (omega (arith, many), low, high, ok, more))

pub four : (b c d e : ℕ) → 0xF0 ≤ b → b ≤ 0xF4 → second b c ≡ true → continues d ≡ true → continues e ≡ true → IsWide b c d e 4
four b c d e low high ok more most = (code_of_4 b c d e, grind (arith, nat_tests), λ n many. value-12 n b c d e (many, low, high, ok, more, most))

-- a character in front has bytes, and they are there
pub char_within : (bytes : List ℕ) (c size : ℕ) → Some c ≡ (decoded bytes).char → size ≡ (decoded bytes).size → (0 < size) × (size ≤ length bytes)
char_within [] c size char same = absurd (let e : Some c ≡ None = char in cc)
char_within (b ∷ bytes) c size char same =
    let bounds = piece-bounds (b ∷ bytes) (omega arith) in
    (omega (arith, same, bounds.0), omega (arith, same, bounds.2))

-- one of a class is text of it
pub char_text : (class : ℕ → Bool) (bytes : List ℕ) (c size : ℕ) → Some c ≡ (decoded bytes).char → size ≡ (decoded bytes).size → class c ≡ true
    → IsTextOf class (take size bytes)
char_text class bytes c size char same has =
    let s = SpellsChar-decoded bytes c (sym char) in
    let own = encode_utf8 c in
    let text : take size bytes ≡ own =
    ap (λ (i : ℕ). take i bytes) (same ∙ sym s.width) ∙ ap (λ (t : List ℕ). take (length own) t) s.bytes ∙ take-append_seam own (drop (decoded bytes).size bytes) in
    (c ∷ [], and_from (scalar c) true s.scalar refl, (has, tt), text ∙ sym (append-nil own))

pub none_shown : (bs : List ℕ) → IsPlain (take 0 bs)
none_shown bs = ([], refl, tt, refl)

-- the character in front is within the bytes, and shown
pub wide_front : (bs : List ℕ) (len : ℕ) → 4 ≤ length bs
    → (0 < len → IsWide (slice_index bs 0) (slice_index bs 1) (slice_index bs 2) (slice_index bs 3) len) → (len ≤ length bs) × IsPlain (take len bs)
wide_front bs zero many h = (omega arith, none_shown bs)
wide_front bs (suc n) many h =
    let (char, from, found) = h (omega arith) in
    let is = found (length bs) many in
    let same : Some char ≡ (decoded bs).char = sym (ap (λ (p : Decoded). p.char) is) in
    let size : suc n ≡ (decoded bs).size = sym (ap (λ (p : Decoded). p.size) is) in
    ((char_within bs char (suc n) same size).1, char_text shown bs char (suc n) same size (grind (arith, nat_tests, from)))

-- ---- places

-- the text in front is passed, and the rest is kept
pub kept_rest : (class : ℕ → Bool) (held rest kept : List ℕ) (len : ℕ) → IsBehind class held rest → len ≡ length held - length rest → kept ≡ drop len held → kept ≡ rest
kept_rest class held rest kept len h long own = grind (arith, common_steps)

pub passed : (class : ℕ → Bool) (bytes held rest kept : List ℕ) (at line len ends a l : ℕ) → Stands class bytes held at line → IsBehind class held rest → len ≡ length held - length rest → kept ≡ drop len held
    → ends ≡ line_ends (take len held) → a ≡ min (at + len) (2 ^ 64 - 1) → l ≡ min (line + ends) (2 ^ 64 - 1) → Stands class bytes kept a l
passed class bytes held rest kept at line len ends a l s (front, e, has) long left own there here =
    let n : len ≡ length front = omega (arith, long, ap length e, length-append front rest) in
    let text : take len held ≡ front = ap (λ (i : ℕ). take i held) n ∙ ap (λ (t : List ℕ). take (length front) t) e ∙ take-append_seam front rest in
    let m : ends ≡ line_ends front = own ∙ ap line_ends text in
    let size = length-append s.front front in
    let lines = sum_by-append (λ (b : ℕ). cond (b == 10) 1 0) s.front front in
    record {
      front = s.front ++ front;
      whole = s.whole ∙ ap (λ t. s.front ++ t) e ∙ sym (append_assoc s.front front rest) ∙ ap (λ t. (s.front ++ front) ++ t) (sym (kept_rest class held rest kept len (front, e, has) long left));
      text = text_on class s.front front s.text has;
      place = omega (arith, there, s.place, n, size);
      number = omega (arith, here, s.number, m, lines);
    }

-- more came
pub more_came : (class : ℕ → Bool) (bytes held more : List ℕ) (at line : ℕ) → Stands class bytes held at line → Stands class (bytes ++ more) (held ++ more) at line
more_came class bytes held more at line s = record {
  front = s.front;
  whole = ap (λ t. t ++ more) s.whole ∙ append_assoc s.front held more;
  text = s.text;
  place = s.place;
  number = s.number;
}

-- ---- what is no plain text

-- what stands behind plain text in plain text is plain
plain_rest : (front rest : List ℕ) → IsPlain front → IsPlain (front ++ rest) → IsPlain rest
plain_rest front rest (cs, scalars, all, e) (ds, s, h, f) =
    let later = lossy_chars rest in
    let read : lossy_chars (front ++ rest) ≡ cs ++ later = ap (λ (t : List ℕ). lossy_chars (t ++ rest)) e ∙ lossy_chars-front cs rest scalars in
    let same : ds ≡ cs ++ later = sym (lossy_chars-encode ds s) ∙ ap lossy_chars (sym f) ∙ read in
    let bytes : front ++ rest ≡ front ++ encode_utf8_all later = f ∙ ap encode_utf8_all same ∙ encoded_on cs later ∙ ap (λ (t : List ℕ). t ++ encode_utf8_all later) (sym e) in
    let shown = (all_parts IsShown cs later (subst (AllByRecursion IsShown) same h)).1 in
    (later, scalars_lossy rest, shown, append_cancel_left front rest (encode_utf8_all later) bytes)

-- and begins with a character that is shown
plain_seen : (text : List ℕ) → 0 < length text → IsOutside shown text → ¬ IsPlain text
plain_seen text some hidden ([], scalars, all, e) = absurd (omega (arith, some, ap length e))
plain_seen text some hidden (c ∷ cs, scalars, all, e) =
    let both = and_parts (scalar c) (all_scalars cs) scalars in
    let char = ap (λ (t : List ℕ). (decoded t).char) e ∙ ap (λ (p : Decoded). p.char) (decoded-encode c (encode_utf8_all cs) both.0) in
    false≢true (sym (hidden c char) ∙ all.0)

pub not_plain : (bytes rest : List ℕ) (at line : ℕ) → IsFault shown bytes rest at line → ¬ IsPlain bytes
not_plain bytes rest at line (s, some, hidden) plain = plain_seen rest some hidden (plain_rest s.front rest s.text (subst IsPlain s.whole plain))

pub not_left : (limit : ℕ) (bytes rest text : List ℕ) (at line : ℕ) → IsFault shown bytes rest at line → Strips limit bytes text → text ≢ bytes
not_left limit bytes rest text at line fault strips = λ same. not_plain bytes rest at line fault (subst IsPlain same (strips_plain limit bytes text strips))
