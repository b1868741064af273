-- A stream as it comes, chunk by chunk.
use Rattle.std.specs.{Prelude.ℕ, Prelude.◌≡◌, Prelude.false, Prelude.List, Prelude.[], Prelude.◌++◌, List.concat}
use Rattle.csicodec_spans.specs.{declared.table.Mode.Mode, Parts.Part, Parts.AreFirstParts, Parts.IsUnsure}
use Rattle.csicodec_transform.specs.Transform.{GoesOn}
use Rattle.csicodec_clean.specs.{Cleaned.longest, Shown.IsRead, Stream.AreTaken, Sets.as_read, Sets.first_sets, Sets.read_behind}
use Rattle.csicodec_clean.specs.{declared.reading.Reading.Reading, declared.reading.Sets.Sets}
use Rattle.csicodec_looks.specs.{declared.line.Line.Line, Line.blank, Line.do_all, Line.fresh, Line.pen_behind_all, Line.most, declared.marking.Marking.Marking}
use Rattle.csicodec_looks.specs.{declared.marking.Marking.TheVariants.Plain, declared.pen.Pen.Pen, declared.step.Step.Step, Steps.of_chars, Paint.texts_of}
use Rattle.csicodec_looks.specs.{Row.shown_by}
use Rattle.csicodec_overwrite.specs.{Steps.of_run, Reading.AreOfParts, Reading.Shows}

-- between two pushes: what is open, how text is read, the bytes of which nothing is sure yet, and those of a character before them
pub record Held : Type 0 where
  pub mode : Mode
  pub reading : Reading
  pub bytes : List ℕ
  pub held : List ℕ

-- nothing is open or held, and text is read in these sets
abbrev pub none_in : Sets → Held
none_in sets = record { mode = Mode.Text; reading = record { titled = false; sets = sets }; bytes = []; held = [] }

abbrev pub none_held : Held
none_held = none_in first_sets

-- Behind a run of text that reads as the characters and then the bytes that were held, of which the characters have given their
-- steps: the parts in front of the bytes, and the steps that came for them.
pub record Goes (m : Mode) (r : Reading) (run chars bytes : List ℕ) (steps : List Step)
    (rest : List ℕ) (a : Mode) (later : Reading) (held : List ℕ) : Type 0 where
  pub parts : List Part
  pub before : List Step
  pub left : List ℕ
  pub read : List ℕ
  pub first : AreFirstParts longest m bytes parts rest a
  pub reading : later ≡ read_behind r parts
  pub are : AreOfParts run (as_read r parts) before left
  pub is_read : IsRead left read held
  pub same : of_chars chars ++ steps ≡ before ++ of_chars read

-- a push of these bytes gives the steps
pub record Reads (old : Held) (bytes : List ℕ) (steps : List Step) (new : Held) : Type 0 where
  pub unsure : IsUnsure longest new.mode new.bytes
  pub goes : (run chars : List ℕ) → IsRead run chars old.held
      → Goes old.mode old.reading run chars (old.bytes ++ bytes) steps new.bytes new.mode new.reading new.held

-- what a stream is between two pushes: what is held of it, how characters are put, as what lines are written, and the one that isn't over
pub record Now : Type 0 where
  pub reader : Held
  pub pen : Pen
  pub marking : Marking
  pub line : Line

abbrev pub begun_as : Marking → Now
begun_as marking = record { reader = none_held; pen = fresh; marking = marking; line = blank }

-- as plain text
abbrev pub begun : Now
begun = begun_as Plain

-- these bytes give steps, and these end lines with the text
pub record Passes (old : Now) (bytes text : List ℕ) (new : Now) : Type 0 where
  pub steps : List Step
  pub reads : Reads old.reader bytes steps new.reader
  pub pen : new.pen ≡ pen_behind_all most old.pen steps old.line
  pub marking : new.marking ≡ old.marking
  pub line : new.line ≡ (do_all most old.pen steps old.line).line
  pub all : text ≡ texts_of old.marking (do_all most old.pen steps old.line).lines

-- at the end, with what is held, all that stands in the line is written
abbrev pub Ending : Now → List ℕ → Type 0
Ending last text = text
    ≡ shown_by last.marking (do_all most last.pen (of_run last.reader.held) last.line)

-- it doesn't matter how a stream is cut into chunks: what they append, and the end, is the text of all of it
abbrev pub AnyChunks : Type 0
AnyChunks = (marking : Marking) (chunks : List (List ℕ)) (text rest : List ℕ) (last : Now)
    → AreTaken (GoesOn Passes) (begun_as marking) chunks text last → Ending last rest
    → Shows marking (concat chunks) (text ++ rest)
