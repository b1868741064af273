-- A rule as a visitor of a stream, and a filter as its driver.
use Rattle.std.specs.Prelude.{ℕ, ◌≡◌, List, []}
use Rattle.csicodec_spans.specs.{Machine.collected, Told.mode_of, Told.part_of, Visits.Call, Visits.Tell, Visits.Pause, Visits.Stream}
use Rattle.csicodec_filter.specs.Filter.{Held, IsWritten}

-- for a call: a control sequence becomes what is written for it, all else stays, and a pause writes nothing
abbrev pub IsWrittenFor : (List ℕ → List ℕ → Type 0) → Call → List ℕ → Type 0
IsWrittenFor Writes (Tell e) text = IsWritten Writes (part_of e).kind (part_of e).bytes text
IsWrittenFor Writes Pause text = text ≡ []

-- this was written, by a rule that writes no more then
pub record Rewrites {R : Type 0} (Rule : R → List ℕ → List ℕ → Type 0) (first : R) (call : Call)
    (text : List ℕ) (last : R) : Type 0 where
  pub written : IsWrittenFor (Rule first) call text
  pub same : (bytes own : List ℕ) → Rule last bytes own → Rule first bytes own

-- what a filter holds
abbrev pub held : {R : Type 0} → Stream R → Held R
held s = record { rewrite = s.visitor; limit = s.limit; mode = mode_of s.state; bytes = collected s.state }
