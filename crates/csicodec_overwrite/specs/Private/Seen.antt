-- What a table of slices that came before holds, and what is taken of a slice. No promise rests on this file.
use Rattle.std.specs.{Prelude.ℕ, Prelude.◌≡◌, Prelude.List, Prelude.◌++◌, List.All}
use Rattle.csicodec_overwrite.specs.{declared.seen.Slice.Slice, Stream.Now, Stream.Passes, Stream.Reads, Stream.none_in}

-- the steps are those of the bytes, before which and behind which nothing is held, and text is read in these sets
abbrev pub IsSlice : Slice → Type 0
IsSlice s = Reads (none_in s.before) s.bytes.items s.steps.items (none_in s.after)

-- of each that is kept
abbrev pub AreSlices : List Slice → Type 0
AreSlices kept = All IsSlice kept

-- the bytes in front of the rest pass, and their text is appended
pub record PassesFront (old : Now) (bytes rest : List ℕ) (new : Now) (before after : List ℕ) : Type 0 where
  pub front : List ℕ
  pub text : List ℕ
  pub split : bytes ≡ front ++ rest
  pub passes : Passes old front text new
  pub out : after ≡ before ++ text
