-- What is told of the parts of a stream, as it comes.
use Rattle.std.specs.Prelude.{ℕ, ◌≡◌, List, ◌++◌}
use Rattle.csicodec_spans.specs.{Parts.Part, Parts.AreFirstParts, Parts.IsUnsure, declared.table.Mode.Mode}
use Rattle.csicodec_filter.specs.Filter.{Held}
use Rattle.csicodec_transform.specs.Transform.{GoesOn}

-- since the first of two states: for these parts this text was written, and then it was in the last one
abbrev pub WrittenOf : Type 0 → Type 1
WrittenOf S = S → List Part → List ℕ → S → Type 0

abbrev pub open_at : {S : Type 0} → S → ℕ → Mode → List ℕ → Held S
open_at writer limit m bytes = record { rewrite = writer; limit = limit; mode = m; bytes = bytes }

-- some parts in front of the bytes, for which this text is written; the bytes behind them are left
pub record Writes {S : Type 0} (Own : WrittenOf S) (old : Held S) (text : List ℕ)
    (new : Held S) : Type 0 where
  pub limit : new.limit ≡ old.limit
  pub parts : List Part
  pub first : AreFirstParts old.limit old.mode old.bytes parts new.bytes new.mode
  pub goes : GoesOn Own old.rewrite parts text new.rewrite

-- and it is appended
abbrev pub Appends : {S : Type 0} → WrittenOf S → Held S → List ℕ → List ℕ → Held S → Type 0
Appends Own old before after new = (text : List ℕ) × Writes Own old text new
    × (after ≡ before ++ text)

-- more bytes have come
abbrev pub with_more : {S : Type 0} → Held S → List ℕ → Held S
with_more old bytes = record old { bytes = old.bytes ++ bytes }

-- since it has begun, these bytes: the text of the parts that are sure, and the others are held
pub record Since {S : Type 0} (Own : WrittenOf S) (first : Held S) (bytes text : List ℕ)
    (last : Held S) : Type 0 where
  pub limit : last.limit ≡ first.limit
  pub parts : List Part
  pub cut : AreFirstParts first.limit Mode.Text bytes parts last.bytes last.mode
  pub unsure : IsUnsure first.limit last.mode last.bytes
  pub written : Own first.rewrite parts text last.rewrite
