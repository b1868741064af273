-- Runs from a reader to a writer, by what is known of both before and after.
use Rattle.std.specs.{Prelude.ℕ, Prelude.List, Prelude.◌++◌, Prelude.Option, Prelude.Result, Prelude.OnOk, Prelude.OnErr, Prelude.IfSome, Io.KnownBytes.Appends}
use Rattle.std.specs.{Io.KnownBytes.Consumes, Io.KnownBytes.IsAtEnd}
use Rattle.csicodec_clean.specs.Stream.{IsFrontOf}

-- All was read, and its text was written, which is safe. After any error what went out is a front of such a text of bytes that were read.
pub record Streams {A E : Type 0} (Out : List ℕ → List ℕ → Type 0) (Safe : List ℕ → Type 0)
    (result : Result A E) (before after old new : Option (List ℕ)) : Type 0 where
  pub ok : OnOk result ((bytes : List ℕ) × (text : List ℕ) × Consumes before after bytes
      × Out bytes text × Safe text × Appends old new text)
  pub end : OnOk result (IsAtEnd after)
  pub front : OnErr result ((bytes : List ℕ) × (more : List ℕ) × (sent : List ℕ)
      × (unsent : List ℕ) × Consumes before after (bytes ++ more)
      × Out bytes (sent ++ unsent) × Safe (sent ++ unsent) × Appends old new sent)

-- And after any error it is a front of the text of the whole input.
pub record StreamsOne {A E : Type 0} (Out : List ℕ → List ℕ → Type 0) (Safe : List ℕ → Type 0)
    (result : Result A E) (before after old new : Option (List ℕ)) : Type 0 where
  pub streams : Streams Out Safe result before after old new
  pub whole : OnErr result (IfSome before (λ bytes. (sent : List ℕ) × IsFrontOf Out bytes sent
      × Appends old new sent))
