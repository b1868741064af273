-- The front of a line that is written as it comes. No promise rests on this file.
use Rattle.std.specs.Prelude.{ℕ, ◌≡◌, ◌<◌, ◌≤◌, ◌*◌, ◌==◌, ◌&&◌, ⊤, Bool, true, not, List, [], ◌∷◌, ◌++◌, length, take, encode_utf8_all}
use Rattle.std.specs.{List.AllByRecursion, Str.all_scalars}
use Rattle.csicodec_looks.specs.{declared.look.Look.Look, Look.plain, declared.cells.Cell.Cell, Line.blank, Line.do_all, Line.line, Line.pen_behind_all}
use Rattle.csicodec_looks.specs.{Line.most, Paint.look_of, Paint.turn, Paint.written, declared.marking.Marking.Marking, Cells.chars_of, Cells.width}
use Rattle.csicodec_looks.specs.{declared.pen.Pen.Pen, declared.step.Step.Step, Plain.AreFull, Plain.closed, Shown.shown}
use Rattle.csicodec_overwrite.specs.{declared.front.LineFront.LineFront, Stream.Held, Stream.Reads, Turned.SetsLook}

-- a tab or a character that is no control
abbrev pub line_char : ℕ → Bool
line_char c = shown c && not (c == 10)

abbrev pub IsLineChar : ℕ → Type 0
IsLineChar c = line_char c ≡ true

-- the first of them takes a column: it is no mark
abbrev pub IsLed : List ℕ → Type 0
IsLed [] = ⊤
IsLed (c ∷ cs) = (column : ℕ) → 0 < width c column

-- text of a line, and its characters
abbrev pub IsLineText : List ℕ → List ℕ → Type 0
IsLineText text chars = (all_scalars chars ≡ true) × AllByRecursion IsLineChar chars × (text ≡ encode_utf8_all chars) × IsLed chars

-- how the last character looks, where text of one look comes behind a character of another
abbrev pub last_of_run : Look → Look → List ℕ → Look
last_of_run last now [] = last
last_of_run last now (c ∷ cs) = now

-- and what is written of that text
abbrev pub run_text : Marking → Look → Look → List ℕ → List ℕ
run_text marking last now run = turn marking last (last_of_run last now run) ++ written marking run

-- how the last of some cells looks, which stands nearest
abbrev pub last_look : List Cell → Look
last_look [] = plain
last_look (cell ∷ cells) = look_of (last_look cells) cell

-- what is written of cells, of which the last stands nearest, while others may come
abbrev pub drawn : Marking → List Cell → List ℕ
drawn marking [] = []
drawn marking (cell ∷ cells) =
    drawn marking cells ++ (turn marking (last_look cells) (look_of (last_look cells) cell) ++ written marking (chars_of cell))

-- With the pen the bytes put cells into a blank line, of which none is empty, and the text is what is written of them: the last looks as
-- `last`, and those that come as `now`.
pub record IsFront (h : Held) (marking : Marking) (pen : Pen) (bytes text : List ℕ) (last now : Look) : Type 0 where
  pub steps : List Step
  pub cells : List Cell
  pub reads : Reads h bytes steps h
  pub lines : (do_all most pen steps blank).lines ≡ []
  pub line : (do_all most pen steps blank).line ≡ line cells []
  pub pens : closed (pen_behind_all most pen steps blank) ≡ closed (record pen { look = now })
  pub full : AreFull cells
  pub few : length cells ≤ 8 * length bytes
  pub looks : last ≡ last_look cells
  pub drawn : text ≡ drawn marking cells

-- the sequence in front, of so many bytes, turns characters that come and the last one alike
abbrev pub IsTurned : Held → Marking → LineFront → ℕ → LineFront → Type 0
IsTurned h marking old len new = SetsLook h (take len old.rest.now) old.now new.now × (new ≡ record old { last = new.now; now = new.now })

-- a sequence in front that sets how text looks is written, and the text behind it
pub record IsStyled (h : Held) (marking : Marking) (old : LineFront) (before : List ℕ) (new : LineFront) (after : List ℕ) : Type 0 where
  pub sequence : List ℕ
  pub text : List ℕ
  pub run : List ℕ
  pub parts : old.rest.now ≡ sequence ++ (text ++ new.rest.now)
  pub sets : SetsLook h sequence old.now new.now
  pub plain : IsLineText text run
  pub room : new.least ≤ length new.rest.now
  pub least : new.least ≡ old.least
  pub looks : new.last ≡ last_of_run old.last new.now run
  pub longer : after ≡ before ++ run_text marking old.last new.now run

-- the bytes up to the rest are a front, and its text is appended
abbrev pub IsWrittenTo : Held → Marking → Pen → List ℕ → List ℕ → List ℕ → Look → Look → List ℕ → Type 0
IsWrittenTo h marking pen bytes before rest last now after = (front : List ℕ) × (text : List ℕ) × (bytes ≡ front ++ rest)
    × IsFront h marking pen front text last now × (after ≡ before ++ text)

abbrev pub IsWritten : Held → Marking → Pen → List ℕ → List ℕ → LineFront → List ℕ → Type 0
IsWritten h marking pen bytes before f after = IsWrittenTo h marking pen bytes before f.rest.now f.last f.now after
