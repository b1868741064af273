-- Plain text of which each line has room stays as it is: it is read as its characters.
use Rattle.csicodec_overwrite.proofs.Common.{◌≡◌, ℕ, ◌+◌, Bool, true, false, List, [], ◌∷◌, ◌++◌, refl, sym, ap, subst, ◌∙◌, append_assoc, append-nil, arith, drop, take, take-append-drop, encode_utf8_all, AllByRecursion, singles, prefix_len, all_scalars, lossy_chars, Part, none_unsure, longest, IsPlain, IsPlainByte, front_in, single_texts, all_text, Plain, HasRoom, before, blank, do_all, fresh, IsLineByte, end_of, line_byte, of_chars, of_run, AreOfParts, Overwrites, most, Reads, none_held, none_in, Held, IsAscii, IsBare, cond_both, nat_lt, nat_tests, ◌≢◌, Reading, Sets, Ascii, as_read, read_behind, in_use, part, read_more, encoded}
use Rattle.csicodec_overwrite.proofs.{LineTexts.chars_shown, Read.bare_first, Read.chars_on, Read.run_none, Read.whole_reads, Written.one_text, Same.not_titled}
use Rattle.csicodec_overwrite.specs.Private.Front.{IsLineText}
use Rattle.csicodec_looks.proofs.{Texts.shown_plain, Stays.stays}
use Rattle.std.specs.Char.{encode_utf8}
use Rattle.bstr.proofs.lemmas.LossyLemmas.{lossy_chars-front}
use Rattle.csicodec_clean.specs.{Private.Steps.IsOther, Private.Steps.IsStill, Sets.IsSame, Sets.drawn_byte, Sets.sets_behind, Sets.with_sets}
use Rattle.csicodec_looks.specs.Sets.{char_in}
use Rattle.std.proofs.{lemmas.Str.encode_ascii, Common.◌<◌}
use Rattle.csicodec_clean.proofs.{Drawn.same_still, Drawn.set_control, Plain.plain_still, Told.ascii_shown, Told.scalars}
use Rattle.csicodec_spans.specs.{declared.table.Kind.Kind, declared.table.Mode.Mode}

-- ---- the text

pub of_singles : (bs run : List ℕ) → AreOfParts run (singles Kind.Text bs) [] (run ++ bs)
of_singles [] run = (refl, append-nil run)
of_singles (b ∷ bs) run =
    ([], run ++ b ∷ [], [], (refl, refl), refl, subst (λ (r : List ℕ). AreOfParts (run ++ b ∷ []) (singles Kind.Text bs) [] r) (append_assoc run (b ∷ []) bs) (of_singles bs (run ++ b ∷ [])))

-- ---- it is read as it stands

-- text without ESC, SO and SI is what it is
still_others : (text : List ℕ) → AllByRecursion IsStill text → AllByRecursion IsOther text
still_others [] h = tt
still_others (b ∷ text) h = (h.0.0, still_others text h.1)

module _ (s : Sets) where
  abbrev AreSame : List ℕ → Type 0
  AreSame text = AllByRecursion (λ (b : ℕ). IsSame s (b ∷ [])) text

  single_drawn : (text : List ℕ) → AreSame text → with_sets s (singles Kind.Text text) ≡ singles Kind.Text text
  single_drawn [] h = refl
  single_drawn (b ∷ text) h = rw (h.0.0, h.0.1) (ap (λ (x : List Part). part Kind.Text (b ∷ []) ∷ x) (single_drawn text h.1))

  single_behind : (text : List ℕ) → AreSame text → sets_behind s (singles Kind.Text text) ≡ s
  single_behind [] h = refl
  single_behind (b ∷ text) h = ap (λ (x : Sets). sets_behind x (singles Kind.Text text)) h.0.1 ∙ single_behind text h.1

  abbrev untitled_in : Reading
  untitled_in = record { titled = false; sets = s }

  same_read : (text : List ℕ) → AreSame text → as_read untitled_in (singles Kind.Text text) ≡ singles Kind.Text text
  same_read text h = ap (with_sets s) (single_texts text) ∙ single_drawn text h

  same_behind : (text : List ℕ) → AreSame text → read_behind untitled_in (singles Kind.Text text) ≡ untitled_in
  same_behind text h = rw (not_titled text, single_texts text, single_behind text h) refl

  -- text in ASCII, and controls in each set
  ascii_same : (text : List ℕ) → in_use s ≡ Ascii → AllByRecursion IsStill text → AreSame text
  ascii_same [] is h = tt
  ascii_same (b ∷ text) is h = (same_still s (b ∷ []) is (h.0, tt), ascii_same text is h.1)

  control_drawn : (b : ℕ) → b < 32 → drawn_byte s b ≡ b ∷ []
  control_drawn b low = cond_both (nat_lt b 128) (encode_utf8 (char_in (in_use s) b)) (b ∷ []) (λ t. t ≡ b ∷ [])
      (λ _. rw (set_control (in_use s) b low) (encode_ascii b (omega (arith, low)))) (λ _. refl)

  control_same : (b : ℕ) → b < 32 → b ≢ 14 → b ≢ 15 → IsSame s (b ∷ [])
  control_same b low so si = (ap (λ t. t ++ []) (control_drawn b low), grind (arith, nat_tests))

-- text that introduces no sequence and shifts no set in
text_in : (s : Sets) (text cs : List ℕ) → AllByRecursion IsOther text → AreSame s text → all_scalars cs ≡ true → text ≡ encode_utf8_all cs → Reads (none_in s) text (of_chars cs) (none_in s)
text_in s text cs others same valid own = record {
  unsure = none_unsure longest Mode.Text;
  goes = λ run chars read. record {
    parts = singles Kind.Text text;
    before = [];
    left = run ++ text;
    read = chars ++ cs;
    first = all_text longest text others;
    reading = sym (same_behind s text same);
    are = subst (λ (ps : List Part). AreOfParts run ps [] (run ++ text)) (sym (same_read s text same)) (of_singles text run);
    is_read = read_more run [] text [] chars cs read (λ more. ap (λ (t : List ℕ). lossy_chars (t ++ more)) own ∙ lossy_chars-front cs more valid);
    same = sym (chars_on chars cs);
  };
}

reads_same : (h : Held) (text cs : List ℕ) → IsBare h → AllByRecursion IsOther text → AreSame h.reading.sets text → all_scalars cs ≡ true → text ≡ encode_utf8_all cs → Reads h text (of_chars cs) h
reads_same h text cs bare others same valid own = subst (λ (x : Held). Reads x text (of_chars cs) x) (sym bare) (text_in h.reading.sets text cs others same valid own)

reads_text : (h : Held) (text cs : List ℕ) → IsAscii h → AllByRecursion IsStill text → all_scalars cs ≡ true → text ≡ encode_utf8_all cs → Reads h text (of_chars cs) h
reads_text h text cs (bare, is) stills valid own = reads_same h text cs bare (still_others text stills) (ascii_same h.reading.sets text is stills) valid own

pub reads_plain : (h : Held) (text : List ℕ) → IsAscii h → AllByRecursion IsPlainByte text → Reads h text (of_chars text) h
reads_plain h text bare plain = reads_text h text text bare (plain_still text (ascii_shown text plain)) (scalars text plain) (encoded text plain)

pub reads_line : (h : Held) (text cs : List ℕ) → IsAscii h → IsLineText text cs → Reads h text (of_chars cs) h
reads_line h text cs bare (valid, chars, own, led) = reads_text h text cs bare (plain_still text (cs, valid, chars_shown cs chars, own)) valid own

pub reads_end : (h : Held) (returned : Bool) → IsBare h → Reads h (end_of returned) (of_chars (end_of returned)) h
unfolding encode_utf8
reads_end h false bare = reads_same h (10 ∷ []) (10 ∷ []) bare (omega arith, tt) (control_same h.reading.sets 10 (omega arith) (omega arith) (omega arith), tt) refl refl
reads_end h true bare = reads_same h (13 ∷ 10 ∷ []) (13 ∷ 10 ∷ []) bare (omega arith, (omega arith, tt))
    (control_same h.reading.sets 13 (omega arith) (omega arith) (omega arith), (control_same h.reading.sets 10 (omega arith) (omega arith) (omega arith), tt)) refl refl

-- plain text of which each line has room stays as it is
pub plain_stays : (text other : List ℕ) (p : IsPlain text) → HasRoom most 0 0 p.0 → Overwrites text other → other ≡ text
plain_stays text other (cs, valid, all, e) room o = one_text Plain text other text o (record {
  steps = of_chars cs ++ of_run [];
  read = whole_reads text (of_chars cs) none_held (reads_text none_held text cs (bare_first, refl) (plain_still text (cs, valid, all, e)) valid e);
  all = rw (run_none, append-nil (of_chars cs))
      (e ∙ ap encode_utf8_all (sym (stays most fresh cs [] refl tt all room)) ∙ sym (shown_plain (do_all most fresh (of_chars cs) blank)));
})

-- ---- what its characters do

-- such text in front, and what is behind it
pub split_line : (bytes text rest : List ℕ) → text ≡ take (prefix_len line_byte bytes) bytes → rest ≡ drop (prefix_len line_byte bytes) bytes → (bytes ≡ text ++ rest) × AllByRecursion IsLineByte text
split_line bytes text rest e f = rw (e, f) (sym (take-append-drop (prefix_len line_byte bytes) bytes), front_in line_byte bytes)
