-- What the calls that clean untrusted text step by step answer a C program.
use Rattle.std.specs.Prelude.{ℕ, ◌≡◌, ◌≤◌, ◌+◌, ◌*◌, Bool, List, [], ◌∷◌, ◌++◌, length, take, drop}
use Rattle.csicodec_looks.specs.{declared.sets.Set.Set, declared.xterm.Depth.Depth}
use Rattle.csicodec_clean.specs.{declared.reading.Reading.Reading, declared.step.Pause.Pause, Cleaned.RuleOf, Cleaned.drops, Steps.Steps, Steps.bare}
use Rattle.csicodec_clean.specs.{Steps.ending, Styled.resumed, Styled.keeps}
use Rattle.csicodec_c.specs.{declared.step.Cleaned.Cleaned, declared.step.Cleaning.Cleaning, declared.strip.Stripped.Stripped, Filter.mode_number, Strip.Puts}
use Rattle.csicodec_c.specs.{Strip.bit, Strip.depth_number}
use Rattle.csicodec_structs.specs.{Room.Fills, Status.status_number, declared.status.Status.Status}
use Rattle.csicodec_looks.specs.declared.sets.Set.TheVariants as set

-- graphic sets, and how text is read, as one number: a title is 1, what is shifted in 2, G0 4 and G1 16 times
abbrev pub set_number : Set → ℕ
set_number set.Ascii = 0
set_number set.Graphics = 1
set_number set.British = 2

abbrev pub reading_number : Reading → ℕ
reading_number r = bit r.titled + (2 * bit r.sets.shifted + (4 * set_number r.sets.g0 + 16 * set_number r.sets.g1))

-- the numbers of a state
abbrev pub numbers : Pause → Cleaning
numbers p = record { mode = mode_number p.mode; titled = reading_number p.reading; styled = bit p.styled; held = p.held }

-- the numbers are of a state that these bytes can go on from: so many are there as are held, and those are 3 at most
abbrev pub IsState : Cleaning → ℕ → Pause → Type 0
IsState state len p = (state ≡ numbers p) × (p.held ≤ 3) × (p.held ≤ len)

-- they are of none
abbrev pub IsBadState : Cleaning → ℕ → Type 0
IsBadState state len = (p : Pause) → IsState state len p → ⊥

-- the depth is none
abbrev pub IsBadDepth : ℕ → Type 0
IsBadDepth number = (d : Depth) → number ≡ depth_number d → ⊥

-- the state of a stream of which nothing has come
abbrev pub zeros : Cleaning
zeros = record { mode = 0; titled = 0; styled = 0; held = 0 }

abbrev pub cleaned : Pause → ℕ → ℕ → Cleaned
cleaned p used needed =
    record { status = status_number Status.Done; state = numbers p; used = used; needed = needed }

abbrev pub refused : Status → Cleaned
refused why = record { status = status_number why; state = zeros; used = 0; needed = 0 }

-- a step by a rule, whose state is told by whether a style is open: the text of what is sure, which is put where it fits, how many bytes
-- were used, and the state behind them, which the others can go on from
pub record IsStep {S : Type 0} (Gives : RuleOf S) (rule : Bool → S) (state : Cleaning)
    (bytes old new : List ℕ) (answer : Cleaned) : Type 0 where
  pub before : Pause
  pub after : Pause
  pub text : List ℕ
  pub used : ℕ
  pub began : state ≡ numbers before
  pub within : used ≤ length bytes
  pub steps : Steps Gives (rule before.styled) before bytes text (rule after.styled) after (drop used bytes)
  pub few : after.held ≤ 3
  pub tells : answer ≡ cleaned after used (length text)
  pub fills : Fills old new text

-- a step of strip, which opens no style
abbrev pub IsStripStep : Cleaning → List ℕ → List ℕ → List ℕ → Cleaned → Type 0
IsStripStep state bytes old new answer =
    IsStep drops (λ _. bare) state bytes old new answer × (answer.state.styled ≡ state.styled)

-- a step of clean, with the colours that stay
abbrev pub IsCleanStep : ℕ → Cleaning → List ℕ → List ℕ → List ℕ → Cleaned → Type 0
IsCleanStep number state bytes old new answer =
    (d : Depth) × (number ≡ depth_number d)
    × IsStep keeps (resumed d) state bytes old new answer

-- what ends a stream behind its steps
abbrev pub IsEnd : Cleaning → List ℕ → List ℕ → List ℕ → Stripped → Type 0
IsEnd state bytes old new answer =
    Puts (λ text. (p : Pause) × (state ≡ numbers p) × (text ≡ ending p bytes)) old new answer

-- calls in turn, each over the bytes that the one before it didn't use and then a chunk, with room enough: all that they put, the state
-- behind them, and the bytes that are left there
abbrev pub AreCalls : (Cleaning → List ℕ → List ℕ → List ℕ → Cleaned → Type 0) → Cleaning → List ℕ
    → List (List ℕ) → List ℕ → Cleaning → List ℕ → Type 0
AreCalls IsCall state again [] all last left = (all ≡ []) × (last ≡ state) × (left ≡ again)
AreCalls IsCall state again (chunk ∷ chunks) all last left =
    (answer : Cleaned) × (old : List ℕ) × (new : List ℕ) × (others : List ℕ)
    × IsCall state (again ++ chunk) old new answer × (answer.needed ≤ length old)
    × (all ≡ take answer.needed new ++ others)
    × AreCalls IsCall answer.state (drop answer.used (again ++ chunk)) chunks others last left
