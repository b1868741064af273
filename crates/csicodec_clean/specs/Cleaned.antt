-- What is left of the parts of a stream: the shown characters of its runs of text, each read by itself, and what a rule
-- gives for its control sequences.
use Rattle.std.specs.Prelude.{ℕ, ◌≡◌, None, Bool, true, false, if◌then◌else◌, List, [], ◌∷◌, ◌++◌}
use Rattle.csicodec_spans.specs.{declared.table.Kind.Kind, Parts.Part, Parts.IsWhole, declared.table.Mode.Mode}
use Rattle.csicodec_clean.specs.{Shown.Writing, Shown.run_as, Shown.shown_text, Sets.as_read, Sets.first_reading}

abbrev pub is_text : Kind → Bool
is_text Kind.Text = true
is_text k = false

-- what is shown of the parts, behind a run of text: text goes on with the run, and any other part ends it, and is dropped
abbrev pub stripped : List ℕ → List Part → List ℕ
stripped run [] = shown_text run
stripped run (p ∷ parts) = if is_text p.kind then stripped (run ++ p.bytes) parts
    else shown_text run ++ stripped [] parts

-- the bytes, stripped
pub record Strips (limit : ℕ) (bytes text : List ℕ) : Type 0 where
  pub parts : List Part
  pub whole : IsWhole limit Mode.Text bytes parts
  pub left : text ≡ stripped [] (as_read first_reading parts)

-- a control sequence of more bytes is none
abbrev pub longest : ℕ
longest = 65536

-- what a rule gives: how it writes text, and what in the place of a control sequence, of an escape sequence, and for each byte of a control
-- string. From a state, for what came, this text, and the state then.
pub record RuleOf (S : Type 0) : Type 1 where
  pub writing : Writing
  pub sequence : S → List ℕ → List ℕ → S → Type 0
  pub escape : S → List ℕ → List ℕ → S → Type 0
  pub byte : S → ℕ → List ℕ → S → Type 0

-- the bytes of a control string, or of a piece of one, in turn
abbrev pub AreGiven : {S : Type 0} → RuleOf S → S → List ℕ → List ℕ → S → Type 0
AreGiven Gives s [] text after = (text ≡ []) × (after ≡ s)
AreGiven {S} Gives s (b ∷ bytes) text after =
    (first : List ℕ) × (mid : S) × (others : List ℕ) × Gives.byte s b first mid
    × (text ≡ first ++ others) × AreGiven Gives mid bytes others after

-- one part behind a run of text: text goes on with the run, and any other part ends it
abbrev pub IsStep : {S : Type 0} → RuleOf S → Kind → S → List ℕ → List ℕ → List ℕ → S → List ℕ
    → Type 0
IsStep Gives Kind.Text s run bytes text after left = (text ≡ []) × (after ≡ s)
    × (left ≡ run ++ bytes)
IsStep Gives Kind.Csi s run bytes text after left = (own : List ℕ)
    × Gives.sequence s bytes own after × (text ≡ run_as Gives.writing run ++ own) × (left ≡ [])
IsStep Gives Kind.Esc s run bytes text after left = (own : List ℕ)
    × Gives.escape s bytes own after × (text ≡ run_as Gives.writing run ++ own) × (left ≡ [])
IsStep Gives Kind.Str s run bytes text after left = (own : List ℕ)
    × AreGiven Gives s bytes own after × (text ≡ run_as Gives.writing run ++ own) × (left ≡ [])
IsStep Gives k s run bytes text after left = (text ≡ run_as Gives.writing run) × (after ≡ s)
    × (left ≡ [])

-- the parts in turn: their text, the state behind them, and the run of text that they end in
abbrev pub AreSteps : {S : Type 0} → RuleOf S → S → List ℕ → List Part → List ℕ → S → List ℕ
    → Type 0
AreSteps Gives s run [] text after left = (text ≡ []) × (after ≡ s) × (left ≡ run)
AreSteps {S} Gives s run (p ∷ parts) text after left =
    (first : List ℕ) × (mid : S) × (next : List ℕ) × (others : List ℕ)
    × IsStep Gives p.kind s run p.bytes first mid next
    × (text ≡ first ++ others) × AreSteps Gives mid next parts others after left

-- what a rule writes at the end of a stream, by its state there
abbrev pub EndOf : Type 0 → Type 1
EndOf S = S → List ℕ → Type 0

-- the bytes of a whole stream, cleaned by a rule: all but the run of text that they end in, what is shown of that, and what the rule
-- writes at the end
pub record Ends {S : Type 0} (Gives : RuleOf S) (Closes : EndOf S) (limit : ℕ) (s : S)
    (bytes text : List ℕ) : Type 0 where
  pub parts : List Part
  pub whole : IsWhole limit Mode.Text bytes parts
  pub before : List ℕ
  pub run : List ℕ
  pub after : S
  pub steps : AreSteps Gives s [] (as_read first_reading parts) before after run
  pub close : List ℕ
  pub closes : Closes after close
  pub all : text ≡ before ++ (run_as Gives.writing run ++ close)

-- the rule that drops every control sequence, every escape sequence and every control string
abbrev pub drops : {S : Type 0} → RuleOf S
drops = record {
  writing = None;
  sequence = λ s bytes text after. text ≡ [];
  escape = λ s bytes text after. text ≡ [];
  byte = λ s b text after. text ≡ [];
}

-- and writes nothing at the end
abbrev pub ends_bare : {S : Type 0} → EndOf S
ends_bare s text = text ≡ []
