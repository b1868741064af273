-- What the calls that strip untrusted text answer a C program.
use Rattle.std.specs.{Prelude.ℕ, Prelude.◌≡◌, Prelude.◌≢◌, Prelude.◌⊎◌, Prelude.Bool, Prelude.true, Prelude.false, Prelude.List, Prelude.length, List.All}
use Rattle.csicodec_looks.specs.declared.xterm.Depth.{Depth}
use Rattle.csicodec_clean.specs.{declared.styles.Passing.Passing, Cleaned.Strips, Cleaned.longest, Shown.IsPlain, Styled.IsStyledIn, Styled.StylesIn}
use Rattle.csicodec_c.specs.declared.strip.Stripped.{Stripped}
use Rattle.csicodec_structs.specs.{Room.Fills, Status.status_number, declared.status.Status.Status}

abbrev pub stripped : ℕ → Stripped
stripped needed = record { status = status_number Status.Done; needed = needed }

abbrev pub bit : Bool → ℕ
bit false = 0
bit true = 1

abbrev pub depth_number : Depth → ℕ
depth_number Depth.Full = 0
depth_number Depth.Palette = 1
depth_number Depth.Ansi = 2

abbrev pub refused : Status → Stripped
refused why = record { status = status_number why; needed = 0 }

-- the length of such a text, which is put where it fits
pub record Puts (IsText : List ℕ → Type 0) (old new : List ℕ) (answer : Stripped) : Type 0 where
  pub text : List ℕ
  pub is : IsText text
  pub tells : answer ≡ stripped (length text)
  pub fills : Fills old new text

-- or memory ran out, or the numbers stand for nothing, and then nothing is put
pub record IsRefused {A : Type 0} (refusal : Status → A) (StandForNothing : Type 0)
    (old new : List ℕ) (answer : A) : Type 0 where
  pub why : (answer ≡ refusal Status.Memory)
      ⊎ ((answer ≡ refusal Status.BadState) × StandForNothing)
  pub same : new ≡ old

abbrev pub Answers : (List ℕ → Type 0) → Type 0 → List ℕ → List ℕ → Stripped → Type 0
Answers IsText StandForNothing old new answer =
    Puts IsText old new answer ⊎ IsRefused refused StandForNothing old new answer

-- a text of what the numbers stand for
abbrev pub AnswersBy : {A : Type 0} → (A → Type 0) → (A → List ℕ → Type 0) → List ℕ → List ℕ → Stripped
    → Type 0
AnswersBy {A} StandFor IsText old new answer =
    Answers (λ text. (a : A) × StandFor a × IsText a text) ((a : A) → StandFor a → ⊥) old new answer

-- the plain text: it has no ESC, and is UTF-8 of characters that are shown
abbrev pub IsStripped : List ℕ → List ℕ → Type 0
IsStripped bytes text = Strips longest bytes text × IsPlain text × All (λ b. b ≢ 27) text

-- the text with what passes beside it
abbrev pub IsCleaned : List ℕ → Passing → List ℕ → Type 0
IsCleaned bytes passing text = StylesIn passing bytes text × IsStyledIn passing text

-- what passes, by its numbers
abbrev pub IsPassing : ℕ → ℕ → Passing → Type 0
IsPassing depth links passing = (depth ≡ depth_number passing.depth) × (links ≡ bit passing.links)
    × (passing.restores ≡ true)
