-- What one number, or two, before a final stand for.
use Rattle.std.specs.Prelude.{pos, ◌^◌}
use Rattle.std.proofs.{Common.◌≡◌, Common.◌<◌, Common.ℕ, Common.zero, Common.suc, Common.List, Common.Some, Common.refl, Common.inl, Common.inr, Common.arith}
use Rattle.std.proofs.{lemmas.Bool.lt-ltb, lemmas.Option.same_Some}
use Rattle.csicodec_tokens.specs.{OneBased.most, OneBased.or_default, declared.param.CsiParam.CsiParam}
use Rattle.csicodec_names.specs.EnumNumbers.{erase_in_display_number, erase_in_line_number, erases_in_display, erases_in_line}
use Rattle.csicodec_names.specs.{Numbered.with_number, declared.enums.EraseInDisplay.EraseInDisplay, declared.enums.EraseInLine.EraseInLine}
use Rattle.csicodec_actions.specs.{Actions.Cursor as Moves, Actions.Edit as Edits, Kinds.read, Rows.counted as count, Rows.given, Rows.paired as pair}
use Rattle.csicodec_actions.specs.{Table.Cursor.as_cursor, Table.Edit.as_edit, declared.cursor.Cursor.Cursor, declared.edit.Edit.Edit}
use Rattle.csicodec_structs.specs.Private.Short.{IsOne, IsTwo}
use Rattle.csicodec_actions.specs.declared.cursor.Cursor.TheVariants as cursor
use Rattle.csicodec_actions.specs.declared.edit.Edit.TheVariants as edit

pub or_default_other : (default n : ℕ) → 0 < n → or_default default n ≡ n
or_default_other default zero above = absurd (omega (arith, above))
or_default_other default (suc n) above = refl

-- ---- counts

one_count : {R : Type 0} (make : ℕ → R) (n k : ℕ) → k ≡ or_default 1 n → n < 2 ^ 32 → (list : List CsiParam) → IsOne n list → given (count make) list ≡ Some (make k)
unfolding read
one_count make n k is low list (inl one) = rw (one, is, lt-ltb n (2 ^ 32) low) refl
one_count make n k is low list (inr none) = rw (none.1, is, none.0) refl

two_counts : {R : Type 0} (make : ℕ → ℕ → R) (a b j k : ℕ) → j ≡ or_default 1 a → k ≡ or_default 1 b → a < 2 ^ 32 → b < 2 ^ 32 → (list : List CsiParam) → IsTwo a b list
    → given (pair make) list ≡ Some (make j k)
unfolding read
two_counts make a b j k one two low least list (inl both) = rw (both, one, two, lt-ltb a (2 ^ 32) low, lt-ltb b (2 ^ 32) least) refl
two_counts make a b j k one two low least list (inr (z, inl first)) = rw (first, one, two, z, lt-ltb a (2 ^ 32) low) refl
two_counts make a b j k one two low least list (inr (z, inr none)) = rw (none.1, one, two, z, none.0) refl

-- ---- the cursor

abbrev pub OneMove : ℕ → (ℕ → Cursor) → Type 0
OneMove final make = (n k : ℕ) → k ≡ or_default 1 n → n < 2 ^ 32 → (list : List CsiParam) → IsOne n list → as_cursor list final ≡ Some (Moves (make k))

abbrev pub TwoMoves : ℕ → (ℕ → ℕ → Cursor) → Type 0
TwoMoves final make = (a b j k : ℕ) → j ≡ or_default 1 a → k ≡ or_default 1 b → a < 2 ^ 32 → b < 2 ^ 32 → (list : List CsiParam) → IsTwo a b list
    → as_cursor list final ≡ Some (Moves (make j k))

pub counted : OneMove 65 cursor.Up × OneMove 66 cursor.Down × OneMove 67 cursor.Right × OneMove 68 cursor.Left × OneMove 69 cursor.NextLine
    × OneMove 70 cursor.PrecedingLine × OneMove 71 cursor.CharacterAbsolute × OneMove 96 cursor.CharacterPositionAbsolute
    × OneMove 73 cursor.ForwardTabulation × OneMove 90 cursor.BackwardTabulation × OneMove 89 cursor.LineTabulation
    × OneMove 97 cursor.CharacterPositionForward × OneMove 106 cursor.CharacterPositionBackward × OneMove 100 cursor.LinePositionAbsolute
    × OneMove 101 cursor.LinePositionForward × OneMove 107 cursor.LinePositionBackward
unfolding as_cursor
counted = (one_count _, one_count _, one_count _, one_count _, one_count _, one_count _, one_count _, one_count _, one_count _, one_count _, one_count _, one_count _, one_count _, one_count _, one_count _, one_count _)

pub twos : TwoMoves 72 cursor.Position × TwoMoves 82 cursor.ActivePositionReport × TwoMoves 102 cursor.CharacterAndLinePosition
unfolding as_cursor
twos = (two_counts _, two_counts _, two_counts _)

pub margins : (a b j k : ℕ) → j ≡ or_default 1 a → k ≡ or_default most b → a < 2 ^ 32 → b < 2 ^ 32 → (list : List CsiParam) → IsTwo a b list
    → as_cursor list 114 ≡ Some (Moves (cursor.SetTopAndBottomMargins j k))
unfolding as_cursor read
margins a b j k one two low least list (inl both) = rw (both, one, two, lt-ltb a (2 ^ 32) low, lt-ltb b (2 ^ 32) least) refl
margins a b j k one two low least list (inr (z, inl first)) = rw (first, one, two, z, lt-ltb a (2 ^ 32) low) refl
margins a b j k one two low least list (inr (z, inr none)) = rw (none.1, one, two, z, none.0) refl

pub ruleset paired = (twos, margins)

-- ---- edits

abbrev pub OneEdit : ℕ → (ℕ → Edit) → Type 0
OneEdit final make = (n k : ℕ) → k ≡ or_default 1 n → n < 2 ^ 32 → (list : List CsiParam) → IsOne n list → as_edit list final ≡ Some (Edits (make k))

pub edits : OneEdit 64 edit.InsertCharacter × OneEdit 76 edit.InsertLine × OneEdit 80 edit.DeleteCharacter × OneEdit 77 edit.DeleteLine
    × OneEdit 88 edit.EraseCharacter × OneEdit 83 edit.ScrollUp × OneEdit 84 edit.ScrollDown × OneEdit 98 edit.Repeat
unfolding as_edit
edits = (one_count _, one_count _, one_count _, one_count _, one_count _, one_count _, one_count _, one_count _)

pub erase_in_display : (n : ℕ) (v : EraseInDisplay) → Some v ≡ with_number erase_in_display_number erases_in_display (pos n) → (list : List CsiParam)
    → IsOne n list → as_edit list 74 ≡ Some (Edits (edit.EraseInDisplay v))
unfolding as_edit read
erase_in_display n v is list (inl one) = rw (one, ← is) refl
erase_in_display n v is list (inr none) = rw (none.1, same_Some _ _ (rw none.0 at is)) refl

pub erase_in_line : (n : ℕ) (v : EraseInLine) → Some v ≡ with_number erase_in_line_number erases_in_line (pos n) → (list : List CsiParam)
    → IsOne n list → as_edit list 75 ≡ Some (Edits (edit.EraseInLine v))
unfolding as_edit read
erase_in_line n v is list (inl one) = rw (one, ← is) refl
erase_in_line n v is list (inr none) = rw (none.1, same_Some _ _ (rw none.0 at is)) refl

pub ruleset edited = (edits, erase_in_display, erase_in_line)
