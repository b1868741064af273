-- A stream that is cleaned as it comes, step by step: the caller keeps what is open, and the bytes that no step used.
use Rattle.std.specs.Prelude.{ℕ, ◌≡◌, ◌≤◌, ◌<◌, ◌+◌, Bool, false, if◌then◌else◌, List, [], ◌∷◌, ◌++◌, length, take, drop}
use Rattle.csicodec_actions.specs.Table.{text}
use Rattle.csicodec_clean.specs.{declared.step.Pause.Pause, declared.whole.Dropped.Dropped, Shown.shown_text, Cleaned.RuleOf, Cleaned.longest}
use Rattle.csicodec_clean.specs.{Sets.first_reading, Stream.Between, Stream.Takes}
use Rattle.csicodec_base.specs.declared.sgr.Sgr.{Sgr}
use Rattle.csicodec_spans.specs.declared.table.Mode.{Mode}
use Rattle.csicodec_actions.specs.Actions as action

-- where nothing has come
abbrev pub beginning : Pause
beginning = record { mode = Mode.Text; reading = first_reading; styled = false; held = 0 }

-- the rule that drops has no state
abbrev pub bare : Dropped
bare = record {}

-- what a stream is between two steps, by the rule's state, the pause, and the bytes that come again: the first of these are held
abbrev pub between : {S : Type 0} → S → Pause → List ℕ → Between S
between s p again = record { rule = s; mode = p.mode; reading = p.reading; bytes = drop p.held again; held = take p.held again }

-- however many of the bytes came again, the step takes those behind them, and leaves the rest
abbrev pub Resumes : {S : Type 0} → RuleOf S → S → Pause → List ℕ → List ℕ → S → Pause → List ℕ
    → Type 0
Resumes Gives s p bytes text after q rest = (again more : List ℕ) → bytes ≡ again ++ more
    → p.held ≤ length again → Takes Gives (between s p again) more text (between after q rest)

-- a step over these bytes appends the text and leaves the rest, which is short
pub record Steps {S : Type 0} (Gives : RuleOf S) (s : S) (p : Pause) (bytes text : List ℕ)
    (after : S) (q : Pause) (rest : List ℕ) : Type 0 where
  pub takes : Resumes Gives s p bytes text after q rest
  pub held : q.held ≤ length rest
  pub few : p.held ≤ 3 → q.held ≤ 3
  pub short : length rest < q.held + longest

-- chunks in turn, each behind what the step before it left: all that the steps append, the pause behind them, and what is left there. The
-- rule's state is told by whether a style is open.
abbrev pub AreStepped : {S : Type 0} → RuleOf S → (Bool → S) → Pause → List ℕ → List (List ℕ)
    → List ℕ → Pause → List ℕ → Type 0
AreStepped Gives rule p again [] all q rest = (all ≡ []) × (q ≡ p) × (rest ≡ again)
AreStepped Gives rule p again (chunk ∷ chunks) all q rest =
    (mid : Pause) × (left : List ℕ) × (first : List ℕ) × (others : List ℕ)
    × Steps Gives (rule p.styled) p (again ++ chunk) first (rule mid.styled) mid left
    × (all ≡ first ++ others) × AreStepped Gives rule mid left chunks others q rest

-- what ends the output: what is shown of the text that is held, and a reset where a style is open
abbrev pub ending : Pause → List ℕ → List ℕ
ending p again =
    shown_text (take p.held again) ++ (if p.styled then text (action.Sgr Sgr.Reset) else [])
