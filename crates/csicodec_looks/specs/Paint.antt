-- A line as it is written: its characters alone, or painted, with the sequences that set how they look (SGR; ECMA-48, 8.3.117), or as a
-- page, with tags.
use Rattle.std.specs.Prelude.{ℕ, ◌-◌, Bool, true, false, not, List, [], ◌∷◌, ◌++◌, length, take, encode_utf8_all, if◌then◌else◌}
use Rattle.std.specs.List.{flat_map}
use Rattle.csicodec_base.specs.{declared.sgr.Sgr.Sgr, SgrText.sgr_text}
use Rattle.csicodec_looks.specs.{declared.look.Look.Look, Look.is_default, Look.is_none, Look.is_normal, Look.plain, Pieces.escaped, Pieces.piece_texts}
use Rattle.csicodec_looks.specs.{Pieces.turn as tags, declared.cells.Cell.Cell, declared.marking.Marking.Marking, Cells.chars_of}
use Rattle.csicodec_looks.specs.{declared.cells.Cell.TheVariants.Char, declared.cells.Cell.TheVariants.Empty, declared.marking.Marking.TheVariants.Page}
use Rattle.csicodec_looks.specs.{declared.marking.Marking.TheVariants.Plain, declared.marking.Marking.TheVariants.Styled}
use Rattle.csicodec_looks.specs.contracts.look.LookPartialEq.TheImpl as look_eq

-- what `==` says of two looks
abbrev pub same : Look → Look → Bool
same = (look_eq.ghosts).eq

-- ---- the sequence of a look

-- an attribute, where it is set
abbrev pub given : Bool → Sgr → List Sgr
given set s = if set then s ∷ [] else []

-- those that a look sets
abbrev pub attributes : Look → List Sgr
attributes l =
    given (not (is_normal l.intensity)) (Sgr.Intensity l.intensity)
    ++ (given l.italic (Sgr.Italic true)
    ++ (given (not (is_none l.underline)) (Sgr.Underline l.underline)
    ++ (given (not (is_default l.line)) (Sgr.UnderlineColor l.line)
    ++ (given l.overline (Sgr.Overline true)
    ++ (given l.strike (Sgr.StrikeThrough true)
    ++ (given l.inverse (Sgr.Inverse true)
    ++ (given (not (is_default l.foreground)) (Sgr.Foreground l.foreground)
    ++ (given (not (is_default l.background)) (Sgr.Background l.background) ++ []))))))))

-- an attribute's own text without the final `m`, behind `;`
abbrev pub further : Sgr → List ℕ
further s = 59 ∷ take (length (sgr_text s) - 1) (sgr_text s)

-- `ESC [ 0 ; .. m`: a reset, and then what is set
unfoldable pub look_text : Look → List ℕ
look_text l = 27 ∷ 91 ∷ 48 ∷ (flat_map further (attributes l) ++ 109 ∷ [])

-- ---- painting

-- whether how characters look is written
abbrev pub shows_looks : Marking → Bool
shows_looks Plain = false
shows_looks Styled = true
shows_looks (Page m) = true

-- as text, painted or not
abbrev pub as_text : Bool → Marking
as_text false = Plain
as_text true = Styled

-- characters
abbrev pub written : Marking → List ℕ → List ℕ
written Plain chars = encode_utf8_all chars
written Styled chars = encode_utf8_all chars
written (Page m) chars = flat_map escaped chars

-- what is written between two looks, where they aren't one: the sequence of the new one, or the tags
abbrev pub turn : Marking → Look → Look → List ℕ
turn Plain old new = []
turn Styled old new = if same old new then [] else look_text new
turn (Page m) old new = if same old new then [] else piece_texts (tags m true old new)

-- how a cell looks behind others that look so: nothing is set in an empty one, and what belongs to a character looks as that does
abbrev pub look_of : Look → Cell → Look
look_of look Empty = plain
look_of look (Char g) = g.look
look_of look cell = look

-- cells in turn, and at the end nothing is set
abbrev pub paint : Marking → Look → List Cell → List ℕ
paint marking look [] = turn marking look plain
paint marking look (cell ∷ cells) =
    turn marking look (look_of look cell) ++ (written marking (chars_of cell) ++ paint marking (look_of look cell) cells)

-- a line as it is written
abbrev pub text_of : Marking → List Cell → List ℕ
text_of marking cells =
    if shows_looks marking then paint marking plain cells
    else encode_utf8_all (flat_map chars_of cells)

-- lines that are over, each with its newline
abbrev pub ended : Marking → List Cell → List ℕ
ended marking cells = text_of marking cells ++ 10 ∷ []

abbrev pub texts_of : Marking → List (List Cell) → List ℕ
texts_of marking lines = flat_map (ended marking) lines
