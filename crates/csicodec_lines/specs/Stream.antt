-- A log as it comes, chunk by chunk.
use Rattle.std.specs.{Prelude.ℕ, Prelude.◌≡◌, Prelude.false, Prelude.List, Prelude.[], Prelude.◌∷◌, Prelude.◌++◌, List.concat}
use Rattle.csicodec_transform.specs.Transform.{EndsOf, GoesOn}
use Rattle.csicodec_clean.specs.{Cleaned.RuleOf, Cleaned.EndOf, Cleaned.Ends, Cleaned.longest, Stream.AreTaken, Stream.Closing, Stream.Takes, Stream.start_of}
use Rattle.csicodec_lines.specs.{declared.lines.Lines.Lines, Lines.AreOf, Lines.ByLines, Lines.lines_from}

-- where nothing has come
abbrev pub begun : {S P : Type 0} → (P → S) → P → Lines S P
begun Begins by = record { by = by; line = start_of (Begins by); returned = false }

-- texts, a newline behind each
abbrev pub ended : List (List ℕ) → List ℕ
ended [] = []
ended (text ∷ texts) = text ++ 10 ∷ ended texts

-- Since it has begun, these bytes: the lines that are over and their texts, what has come of the one behind them, and its text as
-- far as that is sure. Whatever comes behind the bytes goes on with that line.
pub record Passes {S P : Type 0} (Begins : P → S) (Gives : RuleOf S) (Closes : EndOf S)
    (first : Lines S P) (bytes text : List ℕ) (last : Lines S P) : Type 0 where
  pub by : last.by ≡ first.by
  pub over : List (List ℕ)
  pub texts : List (List ℕ)
  pub line : List ℕ
  pub own : List ℕ
  pub lines : (more : List ℕ) → lines_from first.returned [] (bytes ++ more)
      ≡ over ++ lines_from last.returned line more
  pub each : AreOf (Ends Gives Closes longest (Begins first.by)) over texts
  pub takes : Takes Gives (start_of (Begins first.by)) line own last.line
  pub all : text ≡ ended texts ++ own

-- at the end, what ends the line
abbrev pub Ending : {S P : Type 0} → RuleOf S → EndOf S → EndsOf (Lines S P)
Ending Gives Closes last text = Closing Gives Closes last.line text

-- it doesn't matter how a log is cut into chunks: what they append, and the end, is the text of all of it
abbrev pub AnyChunks : {S P : Type 0} → (P → S) → RuleOf S → EndOf S → Type 0
AnyChunks {S} {P} Begins Gives Closes = (by : P) (chunks : List (List ℕ)) (text rest : List ℕ)
    (last : Lines S P) → AreTaken (GoesOn (Passes Begins Gives Closes)) (begun Begins by) chunks text last
    → Ending Gives Closes last rest
    → ByLines (Ends Gives Closes longest (Begins by)) (concat chunks) (text ++ rest)
