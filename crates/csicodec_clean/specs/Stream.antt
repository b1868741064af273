-- A stream that is cleaned as it comes, chunk by chunk.
use Rattle.std.specs.{Prelude.ℕ, Prelude.◌≡◌, Prelude.List, Prelude.[], Prelude.◌∷◌, Prelude.◌++◌, List.concat}
use Rattle.csicodec_spans.specs.{declared.table.Mode.Mode, Parts.Part, Parts.AreFirstParts, Parts.IsUnsure}
use Rattle.csicodec_transform.specs.Transform.{Begins as BeginsWith, EndsOf, PassesOf, Sends}
use Rattle.csicodec_clean.specs.{Shown.IsRead, Shown.chars_as, Shown.run_as, Sets.as_read, Sets.first_reading, Sets.read_behind}
use Rattle.csicodec_clean.specs.{declared.reading.Reading.Reading, Cleaned.RuleOf, Cleaned.EndOf, Cleaned.AreSteps, Cleaned.Ends, Cleaned.longest}

-- between two pushes: the rule, what is open, how text is read, the bytes of which nothing is sure yet, and those of a character before them
pub record Between (S : Type 0) : Type 0 where
  pub rule : S
  pub mode : Mode
  pub reading : Reading
  pub bytes : List ℕ
  pub held : List ℕ

abbrev pub start_of : {S : Type 0} → S → Between S
start_of s = record { rule = s; mode = Mode.Text; reading = first_reading; bytes = []; held = [] }

-- more bytes have come
abbrev pub with_more : {S : Type 0} → Between S → List ℕ → Between S
with_more old bytes = record old { bytes = old.bytes ++ bytes }

-- From one state to another, behind a run of text that reads as the characters and then the bytes that are held, of which the
-- characters have been written: the parts in front of the bytes, and what was appended for them.
pub record Goes {S : Type 0} (Gives : RuleOf S) (limit : ℕ) (run chars : List ℕ)
    (old : Between S) (appended : List ℕ) (new : Between S) : Type 0 where
  pub parts : List Part
  pub text : List ℕ
  pub left : List ℕ
  pub read : List ℕ
  pub first : AreFirstParts limit old.mode old.bytes parts new.bytes new.mode
  pub reads : new.reading ≡ read_behind old.reading parts
  pub steps : AreSteps Gives old.rule run (as_read old.reading parts) text new.rule left
  pub is_read : IsRead left read new.held
  pub same : chars_as Gives.writing chars ++ appended ≡ text ++ chars_as Gives.writing read

-- so it is behind any such run
abbrev pub GoesBy : {S : Type 0} → RuleOf S → ℕ → Between S → List ℕ → Between S → Type 0
GoesBy Gives limit old appended new = (run chars : List ℕ) → IsRead run chars old.held
    → Goes Gives limit run chars old appended new

-- a push of these bytes appends the text
pub record Takes {S : Type 0} (Gives : RuleOf S) (old : Between S) (bytes text : List ℕ)
    (new : Between S) : Type 0 where
  pub unsure : IsUnsure longest new.mode new.bytes
  pub goes : GoesBy Gives longest (with_more old bytes) text new

-- chunks pushed in turn, and all that they append
abbrev pub AreTaken : {S : Type 0} → PassesOf S → S → List (List ℕ) → List ℕ → S → Type 0
AreTaken Step old [] text new = (text ≡ []) × (new ≡ old)
AreTaken {S} Step old (chunk ∷ chunks) text new =
    (mid : S) × (first : List ℕ) × (others : List ℕ) × Step old chunk first mid
    × (text ≡ first ++ others) × AreTaken Step mid chunks others new

-- it doesn't matter how a stream is cut into chunks: what they append, and the end, is what is made of all of it at once
abbrev pub AnyChunks : {S : Type 0} → RuleOf S → EndOf S → Type 0
AnyChunks {S} Gives Closes = (s : S) (chunks : List (List ℕ)) (text close : List ℕ)
    (last : Between S) → AreTaken (Takes Gives) (start_of s) chunks text last → Closes last.rule close
    → Ends Gives Closes longest s (concat chunks) (text ++ (run_as Gives.writing last.held ++ close))

-- at the end: what is shown of the bytes that are held, and what the rule writes
abbrev pub Closing : {S : Type 0} → RuleOf S → EndOf S → EndsOf (Between S)
Closing Gives Closes last text = (close : List ℕ) × Closes last.rule close
    × (text ≡ run_as Gives.writing last.held ++ close)

-- what went out is a front of the text of these bytes: as far as it is sure, or, where they are all, with its end
abbrev pub Begins : {S : Type 0} → RuleOf S → EndOf S → S → Type 0 → List ℕ → List ℕ → Type 0
Begins Gives Closes s = BeginsWith (Sends (Takes Gives) (start_of s)) (Ends Gives Closes longest s)

-- the text that the bytes have begins with what was sent
abbrev pub IsFrontOf : (List ℕ → List ℕ → Type 0) → List ℕ → List ℕ → Type 0
IsFrontOf Out bytes sent = (text : List ℕ) → Out bytes text
    → (unsent : List ℕ) × (text ≡ sent ++ unsent)
