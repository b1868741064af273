-- Whether one of some actions is unknown, with one more, and what the faithful rule writes by that.
use Rattle.std.proofs.Common.{◌≡◌, ◌++◌, ◌∷◌, [], ◌||◌, ℕ, List, Bool, true, false, refl, ap, inl, inr, ◌∙◌, ◌<◌, ◌≤◌, arith, length, Result, Ok, Err, OnOk}
use Rattle.std.proofs.{lemmas.Bool.cases_Bool, lemmas.List.Folds.list_any-append}
use Rattle.std.specs.{Bool.if◌then◌else◌, Result.is_ok}
use Rattle.csicodec_tokens.specs.{declared.param.CsiParam.CsiParam, Sequence.Seq}
use Rattle.csicodec_actions.specs.{Actions.Action, Actions.Unspecified, Table.texts}
use Rattle.csicodec_parser.specs.{Groups.Piece, declared.group.Group.Group, Segments.Actions, Private.Steps.actions}
use Rattle.csicodec_terminal.specs.Terminal.{has_unknown, is_unknown}
use Rattle.csicodec_parser.proofs.Cuts.{actions_are}
use Rattle.csicodec_streams.specs.Faithful.{IsFaithful, has_spelling, longest, stays}
use Rattle.csicodec_streams.proofs.OneReading.{decodes-one}

or-none : (b : Bool) → (b || false) ≡ b
or-none true = refl
or-none false = refl

or-one : (b : Bool) → (b || true) ≡ true
or-one true = refl
or-one false = refl

-- a known one changes nothing
pub known_more : (xs : List Action) (a : Action) → is_unknown a ≡ false → has_unknown (xs ++ a ∷ []) ≡ has_unknown xs
known_more xs a known = list_any-append is_unknown xs (a ∷ []) ∙ rw known (or-none (has_unknown xs))

pub unknown_more : (xs : List Action) (a : Action) → is_unknown a ≡ true → has_unknown (xs ++ a ∷ []) ≡ true
unknown_more xs a unknown = list_any-append is_unknown xs (a ∷ []) ∙ rw unknown (or-one (has_unknown xs))

-- a piece is known
pub piece_known : (g : Group) (rest : List CsiParam) (k : ℕ) (a : Action) → Piece g rest k a → is_unknown a ≡ false
piece_known Group.Styles rest k a p = rw p.2 refl
piece_known Group.Whole rest k a p = absurd p
piece_known (Group.Modes s) rest k a p = rw p.5 refl
piece_known (Group.DecModes c) rest k a p = rw p.5 refl

-- ---- what is written for a sequence

anyway : (a b u : Bool) → (a || (b || u)) ≡ false → (a || b) ≡ true → ⊥
anyway true b u none here = cc none
anyway false true u none here = cc none
anyway false false u none here = cc here

neither : (a b u : Bool) → (a || b) ≡ false → u ≡ false → (a || (b || u)) ≡ false
neither true b u none plain = cc none
neither false true u none plain = cc none
neither false false u none plain = plain

unless : (a b u : Bool) → (a || (b || u)) ≡ false → u ≡ true → ⊥
unless true b u none here = cc none
unless false true u none here = cc none
unless false false u none here = cc (none, here)

-- one that stays, whatever its actions are
pub stays_faithful : (bytes : List ℕ) (list : List CsiParam) (final : ℕ) → Seq bytes list final → (stays list final || has_spelling list final) ≡ true
    → IsFaithful bytes bytes
stays_faithful bytes list final seq here =
    let all = actions list false final in (
      list,
      final,
      all,
      seq,
      actions_are list false final,
      λ kept. refl,
      λ none. absurd (anyway (stays list final) (has_spelling list final) (has_unknown all) none here),
    )

-- one of which an action is unknown
pub unknown_faithful : (bytes : List ℕ) (list : List CsiParam) (final : ℕ) (all : List Action) → Seq bytes list final → Actions list false final all
    → has_unknown all ≡ true → IsFaithful bytes bytes
unknown_faithful bytes list final all seq are unknown =
    (list, final, all, seq, are, λ kept. refl, λ none. absurd (unless (stays list final) (has_spelling list final) (has_unknown all) none unknown))

-- one whose normal form is too long
pub long_faithful : (bytes form : List ℕ) (list : List CsiParam) (final : ℕ) (all : List Action) → Seq bytes list final → Actions list false final all
    → form ≡ texts all → longest < length form → IsFaithful bytes bytes
long_faithful bytes form list final all seq are made long = (
  list,
  final,
  all,
  seq,
  are,
  λ kept. refl,
  λ none. (form, (all, decodes-one bytes list false final all seq are, made), λ short. absurd (omega (arith, short, long)), λ more. refl),
)

-- any other
pub form_faithful : (bytes form : List ℕ) (list : List CsiParam) (final : ℕ) (all : List Action) → Seq bytes list final → Actions list false final all
    → form ≡ texts all → length form ≤ longest → (stays list final || has_spelling list final) ≡ false → has_unknown all ≡ false → IsFaithful bytes form
form_faithful bytes form list final all seq are made short free known =
    let none = neither (stays list final) (has_spelling list final) (has_unknown all) free known in (
      list,
      final,
      all,
      seq,
      are,
      λ kept. absurd (cc (kept, none)),
      λ _. (form, (all, decodes-one bytes list false final all seq are, made), λ fits. refl, λ more. absurd (omega (arith, short, more))),
    )

-- and it is appended
pub appended : {A E : Type 0} (done : Result A E) (bytes text old new : List ℕ) → IsFaithful bytes text
    → new ≡ (if is_ok done then old ++ text else old) → OnOk done ((x : List ℕ) × IsFaithful bytes x × (new ≡ old ++ x))
appended (Ok u) bytes text old new faithful is = (text, faithful, is)
appended (Err e) bytes text old new faithful is = tt
