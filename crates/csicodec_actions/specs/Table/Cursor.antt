-- The cursor (ECMA-48, 8.3; DEC STD 070; DECSCUSR of the VT520): lists before a final character, and what each action is written as.
use Rattle.csicodec_actions.specs.Rows.{Row, row, One, Number, mark, counted, chosen, halves, paired, Before, before, read_by}
use Rattle.csicodec_actions.specs.{Actions.Action, Actions.Cursor, Kinds.Count, Kinds.Last, Kinds.Style, Kinds.Control, Kinds.Clear, Written.Written}
use Rattle.csicodec_actions.specs.{Written.The, Written.count, Written.choice, Written.two, Written.fixed, Written.write, Written.put, Common.ℕ, Common.List}
use Rattle.csicodec_actions.specs.{Common.[], Common.Option, Common.CsiParam, Common.most}
use Rattle.std.specs.Prelude.{◌==◌, ◌&&◌, ◌++◌, ◌∷◌, if◌then◌else◌}
use Rattle.csicodec_names.specs.declared.enums.CursorTabulationControl.TheVariants as control
use Rattle.csicodec_names.specs.declared.enums.TabulationClear.TheVariants as clear
use Rattle.csicodec_actions.specs.declared.cursor.Cursor as cursor_type
use Rattle.csicodec_actions.specs.declared.cursor.Cursor.TheVariants as cursor

-- the top, and a bottom that is 4294967295 where it is left out or 0
abbrev pub top_and_bottom : List (Row Action)
top_and_bottom = row [] (Cursor (cursor.SetTopAndBottomMargins 1 most)) ∷ halves Last most (λ a b.
    Cursor (cursor.SetTopAndBottomMargins a b))

-- nothing saves the cursor; the left, and a right that is 4294967295 where it is left out
abbrev pub left_and_right : List (Row Action)
left_and_right = row [] (Cursor cursor.SaveCursor) ∷ halves Count most (λ a b.
    Cursor (cursor.SetLeftAndRightMargins a b))

-- a line for each final character that a count or a place stands ahead of
abbrev pub moves : List (Before Action)
moves =
    before "A" (counted (λ n. Cursor (cursor.Up n)))
    ∷ before "B" (counted (λ n. Cursor (cursor.Down n)))
    ∷ before "C" (counted (λ n. Cursor (cursor.Right n)))
    ∷ before "D" (counted (λ n. Cursor (cursor.Left n)))
    ∷ before "E" (counted (λ n. Cursor (cursor.NextLine n)))
    ∷ before "F" (counted (λ n. Cursor (cursor.PrecedingLine n)))
    ∷ before "G" (counted (λ n. Cursor (cursor.CharacterAbsolute n)))
    ∷ before "`" (counted (λ n. Cursor (cursor.CharacterPositionAbsolute n)))
    ∷ before "I" (counted (λ n. Cursor (cursor.ForwardTabulation n)))
    ∷ before "Z" (counted (λ n. Cursor (cursor.BackwardTabulation n)))
    ∷ before "Y" (counted (λ n. Cursor (cursor.LineTabulation n)))
    ∷ before "a" (counted (λ n. Cursor (cursor.CharacterPositionForward n)))
    ∷ before "j" (counted (λ n. Cursor (cursor.CharacterPositionBackward n)))
    ∷ before "d" (counted (λ n. Cursor (cursor.LinePositionAbsolute n)))
    ∷ before "e" (counted (λ n. Cursor (cursor.LinePositionForward n)))
    ∷ before "k" (counted (λ n. Cursor (cursor.LinePositionBackward n)))
    ∷ []

unfoldable pub as_move : List CsiParam → ℕ → Option Action
as_move list final = read_by moves list final

-- and for each other one
abbrev pub cursor_rows : List (Before Action)
cursor_rows =
    moves
    ++ (before "W" (chosen Control control.SetCharacterTabStopAtActivePosition (λ c.
    Cursor (cursor.TabulationControl c)))
    ∷ before "g" (chosen Clear clear.ClearCharacterTabStopAtActivePosition (λ c.
    Cursor (cursor.TabulationClear c)))
    ∷ before "H" (paired (λ a b. Cursor (cursor.Position a b)))
    ∷ before "R" (paired (λ a b. Cursor (cursor.ActivePositionReport a b)))
    ∷ before "f" (paired (λ a b. Cursor (cursor.CharacterAndLinePosition a b)))
    ∷ before "r" top_and_bottom
    ∷ before "s" left_and_right
    ∷ before "u" (row [] (Cursor cursor.RestoreCursor) ∷ [])
    ∷ before "n" (row (Number 6 ∷ []) (Cursor cursor.RequestActivePositionReport) ∷ [])
    ∷ before "q" (row (One Style ∷ mark " " ∷ []) (λ c. Cursor (cursor.CursorStyle c)) ∷ [])
    ∷ [])

unfoldable pub as_cursor : List CsiParam → ℕ → Option Action
as_cursor list final = read_by cursor_rows list final

-- a line for each variant
abbrev pub written_cursor : cursor_type.Cursor → Written
written_cursor (cursor.Up n) = count n "A"
written_cursor (cursor.Down n) = count n "B"
written_cursor (cursor.Right n) = count n "C"
written_cursor (cursor.Left n) = count n "D"
written_cursor (cursor.NextLine n) = count n "E"
written_cursor (cursor.PrecedingLine n) = count n "F"
written_cursor (cursor.CharacterAbsolute n) = count n "G"
written_cursor (cursor.CharacterPositionAbsolute n) = count n "`"
written_cursor (cursor.Position a b) = write (two Count a b) "H"
written_cursor (cursor.ActivePositionReport a b) = write (two Count a b) "R"
written_cursor (cursor.CharacterAndLinePosition a b) = write (two Count a b) "f"
written_cursor (cursor.ForwardTabulation n) = count n "I"
written_cursor (cursor.BackwardTabulation n) = count n "Z"
written_cursor (cursor.LineTabulation n) = count n "Y"
written_cursor (cursor.CharacterPositionForward n) = count n "a"
written_cursor (cursor.CharacterPositionBackward n) = count n "j"
written_cursor (cursor.LinePositionAbsolute n) = count n "d"
written_cursor (cursor.LinePositionForward n) = count n "e"
written_cursor (cursor.LinePositionBackward n) = count n "k"
written_cursor (cursor.TabulationControl c) = choice Control c "W"
written_cursor (cursor.TabulationClear c) = choice Clear c "g"
written_cursor (cursor.SetTopAndBottomMargins a b) =
    write (if a == 1 && b == most then [] else two Last a b) "r"
written_cursor (cursor.SetLeftAndRightMargins a b) =
    write (if a == 1 && b == most then [] else two Count a b) "s"
written_cursor cursor.SaveCursor = write [] "s"
written_cursor cursor.RestoreCursor = write [] "u"
written_cursor cursor.RequestActivePositionReport = write (fixed 6 ∷ []) "n"
written_cursor (cursor.CursorStyle c) = write (The Style c ∷ put " " ∷ []) "q"
