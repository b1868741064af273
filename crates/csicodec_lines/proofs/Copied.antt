-- Text that any line leaves as it is.
use Rattle.std.proofs.Common.{◌≡◌, ◌<◌, ◌≤◌, ℕ, Bool, true, false, List, [], ◌∷◌, ◌++◌, length, length-append, encode_utf8_all, refl, sym, ap, subst, ◌∙◌, append-nil, arith}
use Rattle.std.proofs.{lemmas.Bool.and_from, lemmas.Bool.and_parts, lemmas.List.nil_from_length}
use Rattle.std.specs.{Char.encode_utf8, Str.all_scalars}
use lib.Utf8.{scalar}
use Rattle.csicodec_transform.proofs.Sent.{goes_on}
use Rattle.csicodec_clean.specs.{Sets.first_sets, Shown.IsShown, Shown.written, Stream.Between, Stream.Takes}
use Rattle.csicodec_clean.proofs.{Chunks.takes_none, Chunks.over_told, Plain.shown_none, Plain.written_none, Plain.written_on, Told.alone, Told.plain_told}
use Rattle.csicodec_clean.proofs.{Told.all_kept}
use Rattle.csicodec_lines.specs.{Lines.ends_line, Private.Steps.IsWithin, Stream.Passes}
use Rattle.csicodec_lines.proofs.Common.{nat_tests, AllByRecursion, GoesOn, EndOf, RuleOf, longest, IsPlain, run_as, start_of, Lines, Ending}
use Rattle.csicodec_lines.proofs.Taken.{goes_over, goes_same, goes_within}

-- what got no longer is as it was
pub unchanged : (before more after : List ℕ) → after ≡ before ++ more → length after ≤ length before → after ≡ before
unchanged before more after out few = rw (out, nil_from_length more (omega (arith, ap length out, length-append before more, few))) (append-nil before)

newline : (c : ℕ) → IsShown c → ends_line c ≡ true → c ≡ 10
newline c shown ends = grind (arith, nat_tests)

some_encoded : (c : ℕ) → 0 < length (encode_utf8 c)
unfolding encode_utf8
some_encoded c = grind (arith, nat_tests)

-- the bytes of a character that ends no line end none
within : (c : ℕ) → ends_line c ≡ false → AllByRecursion IsWithin (encode_utf8 c)
unfolding encode_utf8
within c other = grind (arith, nat_tests)

module _ {S P : Type 0} (Begins : P → S) (Gives : RuleOf S) (Closes : EndOf S) (stays : written Gives.writing (10 ∷ []) ≡ encode_utf8_all (10 ∷ [])) where
  abbrev Step : Lines S P → List ℕ → List ℕ → Lines S P → Type 0
  Step = Passes Begins Gives Closes

  abbrev Text : List ℕ → List ℕ
  Text = written Gives.writing

  -- where nothing is open, a character passes, and nothing is open behind it
  takes_shown : (s : S) (c : ℕ) → IsShown c → scalar c ≡ true → Takes Gives (start_of s) (encode_utf8 c) (Text (c ∷ [])) (start_of s)
  takes_shown s c shown is =
      let bytes = encode_utf8 c in
      let all : AllByRecursion IsShown (c ∷ []) = (shown, tt) in
      let told = plain_told bytes (c ∷ [], and_from (scalar c) true is refl, all, sym (append-nil bytes)) in
      let (appended, out, goes, front, last) = over_told Gives longest s first_sets bytes [] [] (Text (c ∷ [])) refl (bytes, c ∷ [], sym (append-nil bytes), told, ap Text (sym (all_kept (c ∷ []) all))) in
      record { unsure = (takes_none Gives s).unsure; goes = rw out goes }

  -- a line begins, and its rule ends it without a byte
  pub record IsBlank (it : Lines S P) : Type 0 where
    pub line : it.line ≡ start_of (Begins it.by)
    pub returned : it.returned ≡ false
    pub closes : Closes (Begins it.by) []

  -- so it is where what ended the line wrote nothing
  pub is_blank : (it : Lines S P) (close before after : List ℕ) → it.line ≡ start_of (Begins it.by) → it.returned ≡ false → Closes it.line.rule close
      → after ≡ before ++ (run_as Gives.writing it.line.held ++ close)
      → length after ≤ length before → IsBlank it
  is_blank it close before after line returned closes out few =
      let more = run_as Gives.writing it.line.held ++ close in
      let none : close ≡ [] = nil_from_length close (omega (arith, ap length out, length-append before more, length-append (run_as Gives.writing it.line.held) close, few)) in
      record { line = line; returned = returned; closes = subst (λ (l : Between S). Closes l.rule []) line (rw none at closes) }

  one_shown : (it : Lines S P) (c : ℕ) (ends : Bool) → ends_line c ≡ ends → IsShown c → scalar c ≡ true → IsBlank it
      → GoesOn Step it (encode_utf8 c) (Text (c ∷ [])) it
  one_shown it c true ends shown is blank =
      let none : Ending Gives Closes it [] = rw blank.line ([], blank.closes, sym (append-nil _ ∙ shown_none Gives.writing)) in
      let text : Text (10 ∷ []) ≡ 10 ∷ [] = stays ∙ ap (λ (t : List ℕ). t ++ []) (alone 10 (omega arith)) in
      rw (newline c shown ends, alone 10 (omega arith), text)
      (goes_over Begins Gives Closes it it 10 [] (rw blank.returned refl) refl none refl blank.returned blank.line)
  one_shown it c false ends shown is blank =
      let takes : Takes Gives it.line (encode_utf8 c) (Text (c ∷ [])) it.line = rw blank.line (takes_shown (Begins it.by) c shown is) in
      goes_within Begins Gives Closes it it (encode_utf8 c) (Text (c ∷ [])) (some_encoded c) (within c ends) refl blank.returned takes

  all_shown : (old new : Lines S P) (cs : List ℕ) → all_scalars cs ≡ true → AllByRecursion IsShown cs → IsBlank old → IsBlank new → new.by ≡ old.by
      → GoesOn Step old (encode_utf8_all cs) (Text cs) new
  all_shown old new [] are shown old_blank new_blank by =
      let line : new.line ≡ old.line = new_blank.line ∙ ap (λ (p : P). start_of (Begins p)) by ∙ sym old_blank.line in
      subst (λ (t : List ℕ). GoesOn Step old [] t new) (sym (written_none Gives.writing))
      (goes_same Begins Gives Closes old new [] (λ own more. rw (old_blank.returned, new_blank.returned) refl) by line)
  all_shown old new (c ∷ cs) are shown old_blank new_blank by =
      let both = and_parts (scalar c) (all_scalars cs) are in
      subst (λ (t : List ℕ). GoesOn Step old (encode_utf8_all (c ∷ cs)) t new) (sym (written_on Gives.writing (c ∷ []) cs))
      (goes_on Step old old new (encode_utf8 c) (encode_utf8_all cs) (Text (c ∷ [])) (Text cs)
      (one_shown old c (ends_line c) refl shown.0 both.0 old_blank) (all_shown old new cs both.1 shown.1 old_blank new_blank by))

  pub goes_shown : (old new : Lines S P) (bytes : List ℕ) (p : IsPlain bytes) → IsBlank old → IsBlank new → new.by ≡ old.by → GoesOn Step old bytes (Text p.0) new
  goes_shown old new bytes (cs, are, shown, e) old_blank new_blank by = rw e (all_shown old new cs are shown old_blank new_blank by)
