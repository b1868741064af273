-- What holds of each action that terminals take a control sequence for: it is in range, and a style is read alone from its text.
use Rattle.std.proofs.Common.{◌≡◌, ℕ, zero, suc, ◌||◌, Bool, true, false, List, [], ◌∷◌, length, Option, None, Some, refl, inl, inr, arith, MatchBool, ℤ, pos, negsuc, ◌==◌, ◌&&◌, ◌^◌, ◌≤ℤ◌, nat_lt, slice_index_or, if◌then◌else◌}
use Rattle.std.proofs.lemmas.Int.{ints}
use Rattle.csicodec_clean.proofs.Common.{AllByRecursion, cond_both, CsiParam, Integer, P, Action, Unspecified, SgrInRange, Group, Styles, semicolon, group, Actions, IsTakenFor, has_unknown, ReadsAlone, canonical-alone, parsed-kept, alone-only}
use Rattle.csicodec_clean.proofs.Plain.{all_weaker}
use Rattle.csicodec_tokens.specs.{Fields.fields_of, Fields.with_field, OneBased.most, Sequence.IsFinal, Sequence.IsSpellable, Sequence.Spellable}
use Rattle.csicodec_actions.specs.{Actions.Sgr, Ranges.InRange}
use Rattle.csicodec_parser.specs.{Canonical.IsCanonicalSgr, declared.group.Group.TheVariants.Whole, Groups.Piece}
use Rattle.csicodec_terminal.specs.{Regular.by_fields, Regular.first, Regular.has_one, Regular.has_two, Regular.regular, Regular.said, Terminal.Anew}
use Rattle.csicodec_terminal.specs.{Terminal.Steps, Terminal.behind, Terminal.is_open}
use Rattle.csicodec_streams.proofs.{Kept.Kept, Kept.parsed-special, Kept.sgr-plain, SgrSpelling.sgr-kept}
use Rattle.csicodec_base.specs.declared.sgr.Sgr as sgr_type

-- ---- a regular list is one of a sequence

pub semicolon-spellable : IsSpellable semicolon
semicolon-spellable = ((omega arith, omega arith), λ d. omega (arith, d))

abbrev IsField : Option ℤ → Type 0
IsField None = Unit {0}
IsField (Some z) = pos 0 ≤ℤ z

abbrev AreFields : Option (List (Option ℤ)) → Type 0
AreFields None = Unit {0}
AreFields (Some fields) = AllByRecursion IsField fields

with_one : (x : Option ℤ) (o : Option (List (Option ℤ))) → IsField x → AreFields o → AreFields (with_field x o)
with_one x None is are = tt
with_one x (Some fields) is are = (is, are)

fields_are : (list : List CsiParam) → Spellable list → AreFields (fields_of list)
fields_are [] ok = tt
fields_are (P b ∷ list) ok = cond_both (b == 59) _ None AreFields (λ _. with_one None (fields_of list) tt (fields_are list ok.2)) (λ _. tt)
fields_are (Integer z ∷ []) ok = (ok.0.0, tt)
fields_are (Integer z ∷ P b ∷ list) ok = cond_both (b == 59) _ None AreFields (λ _. with_one (Some z) (fields_of list) ok.0.0 (fields_are list ok.2.2)) (λ _. tt)
fields_are (Integer z ∷ Integer y ∷ list) ok = absurd ok.1

clamped : (small : Bool) (n : ℕ) → nat_lt n (2 ^ 32) ≡ small → IsSpellable (Integer (pos (if small then n else most)))
clamped true n e = grind (arith, ints, e)
clamped false n e = (omega (arith, ints), omega (arith, ints))

said_alone : (x : Option ℤ) → IsField x → Spellable (said x ∷ [])
said_alone None is = ((omega (arith, ints), omega (arith, ints)), tt, tt)
said_alone (Some (pos n)) is = (clamped (nat_lt n (2 ^ 32)) n refl, tt, tt)
said_alone (Some (negsuc n)) is = absurd (omega (arith, ints, is))

said_before : (x : Option ℤ) (list : List CsiParam) → IsField x → Spellable list → Spellable (said x ∷ semicolon ∷ list)
said_before None list is ok = ((said_alone None is).0, tt, (semicolon-spellable, tt, ok))
said_before (Some (pos n)) list is ok = ((said_alone (Some (pos n)) is).0, tt, (semicolon-spellable, tt, ok))
said_before (Some (negsuc n)) list is ok = absurd (omega (arith, ints, is))

nth_is : (fields : List (Option ℤ)) (n : ℕ) → AllByRecursion IsField fields → IsField (slice_index_or fields n None)
nth_is [] n are = tt
nth_is (x ∷ fields) zero are = are.0
nth_is (x ∷ fields) (suc n) are = nth_is fields n are.1

some_spellable : (none both : Bool) (two one : List CsiParam) → Spellable two → Spellable one → Spellable (if none then [] else if both then two else one)
some_spellable none both two one h k = grind arith

first_spellable : (two : Bool) (fields : List (Option ℤ)) → AllByRecursion IsField fields → Spellable (first two fields)
first_spellable two fields are =
    let one = said_alone (slice_index_or fields 0 None) (nth_is fields 0 are) in
    let next = said_alone (slice_index_or fields 1 None) (nth_is fields 1 are) in
    some_spellable (length fields == 0) (two && nat_lt 1 (length fields)) _ _ (said_before (slice_index_or fields 0 None) _ (nth_is fields 0 are) next) one

fields_spellable : (two : Bool) (list : List CsiParam) (o : Option (List (Option ℤ))) → Spellable list → AreFields o → Spellable (by_fields two list o)
fields_spellable two list None ok are = ok
fields_spellable two list (Some fields) ok are = first_spellable two fields are

regular_spellable : (list : List CsiParam) (final : ℕ) → Spellable list → Spellable (regular list final)
regular_spellable list final ok =
    cond_both (has_two final || has_one final) (by_fields (has_two final) list (fields_of list)) list Spellable
    (λ _. fields_spellable (has_two final) list (fields_of list) ok (fields_are list ok)) (λ _. ok)

-- ---- each action is in range, and a style is read alone

abbrev pub StyleAlone : Action → Type 0
StyleAlone (Sgr s) = ReadsAlone (Sgr s) false
StyleAlone a = Unit {0}

abbrev IsSound : Action → Type 0
IsSound a = InRange a × StyleAlone a

style_alone : (s : sgr_type.Sgr) → SgrInRange s → IsCanonicalSgr s → ReadsAlone (Sgr s) false
style_alone s range canonical = alone-only false (Sgr s) (canonical-alone (Sgr s) false range canonical)

kept_sound : (a : Action) → Kept false a → IsSound a
kept_sound (Sgr s) kept = (
  kept.range,
  elim kept.canonical [
    | inl special ↦ absurd (sgr-plain s (parsed-special (Sgr s) special))
    | inr canonical ↦ style_alone s kept.range canonical
  ],
)
kept_sound a kept = (kept.range, tt)

table_sound : (list : List CsiParam) (final : ℕ) (actions : List Action) → Spellable list → IsFinal final → Actions list false final actions → AllByRecursion IsSound actions
table_sound list final actions ok ends are = all_weaker (Kept false) IsSound kept_sound actions (parsed-kept list false final actions ok ends are)

piece_sound : (g : Group) (rest : List CsiParam) (k : ℕ) (a : Action) → Piece g rest k a → IsSound a
piece_sound Whole rest k a p = absurd p
piece_sound Styles rest k a p = let kept = sgr-kept rest k p.0 p.1 in rw p.2 (kept.range, style_alone p.0 kept.range kept.canonical)
piece_sound _ rest k a p = rw p.5 (tt, tt)

steps_sound : (g : Group) (final : ℕ) (rest : List CsiParam) (actions : List Action) → Steps g false final rest actions → AllByRecursion IsSound actions
steps_sound g final rest [] s = tt
steps_sound g final rest (a ∷ actions) (k, inl p, more) = (piece_sound g rest k a p, steps_sound g final (behind k rest) actions more)
steps_sound g final rest (a ∷ actions) (k, inr u, more) = (rw u.3 (tt, tt), steps_sound g final (behind k rest) actions more)

cut_sound : (foreign : Bool) (g : Group) (list rest : List CsiParam) (final : ℕ) (actions : List Action)
    → MatchBool foreign (actions ≡ Unspecified list false final ∷ []) (Steps g false final rest actions) → AllByRecursion IsSound actions
cut_sound true g list rest final actions e = rw e ((tt, tt), tt)
cut_sound false g list rest final actions s = steps_sound g final rest actions s

anew_sound : (g : Group) (list : List CsiParam) (final : ℕ) (actions : List Action) → Spellable list → IsFinal final → Anew g list false final actions → AllByRecursion IsSound actions
anew_sound Whole list final actions ok ends (second, are, e) = rw e
    (cond_both (has_unknown second) (Unspecified list false final ∷ []) second (AllByRecursion IsSound) (λ _. ((tt, tt), tt))
    (λ _. table_sound (regular list final) final second (regular_spellable list final ok) ends are))
anew_sound g list final actions ok ends s = cut_sound _ g list _ final actions s

either_sound : (less : Bool) (g : Group) (list : List CsiParam) (final : ℕ) (known actions : List Action) → Spellable list → IsFinal final
    → AllByRecursion IsSound known → MatchBool less (Anew g list false final actions) (actions ≡ known) → AllByRecursion IsSound actions
either_sound true g list final known actions ok ends all s = anew_sound g list final actions ok ends s
either_sound false g list final known actions ok ends all s = rw s all

taken_sound : (bytes : List ℕ) (actions : List Action) → IsTakenFor bytes actions → AllByRecursion IsSound actions
taken_sound bytes actions (list, final, is, (known, are, s)) =
    either_sound (has_unknown known || is_open (group list final) list) (group list final) list final known actions is.spellable is.ends
    (table_sound list final known is.spellable is.ends are) s

pub taken_range : (bytes : List ℕ) (actions : List Action) → IsTakenFor bytes actions → AllByRecursion InRange actions
taken_range bytes actions taken = all_weaker IsSound InRange (λ a h. h.0) actions (taken_sound bytes actions taken)

pub taken_alone : (bytes : List ℕ) (actions : List Action) → IsTakenFor bytes actions → AllByRecursion StyleAlone actions
taken_alone bytes actions taken = all_weaker IsSound StyleAlone (λ a h. h.1) actions (taken_sound bytes actions taken)
