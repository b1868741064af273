-- How far a run has come.
use Rattle.csicodec_parser.specs.{Common.ℕ, Common.Bool, Common.true, Common.false, Common.List, Common.length, Common.CsiParam, Common.Action}
use Rattle.csicodec_parser.specs.{Segments.Actions}
use Rattle.std.specs.Prelude.{◌≡◌, ◌≤◌, ◌⊎◌, ◌+◌, ◌-◌, ◌==◌, if◌then◌else◌}

-- what a run was made of, how many actions were given, whether memory was refused, how many tokens are passed, and how many looks were taken
pub record Progress : Type 0 where
  pub list : List CsiParam
  pub flag : Bool
  pub final : ℕ
  pub given : ℕ
  pub failed : Bool
  pub passed : ℕ
  pub looks : ℕ

abbrev pub progress : List CsiParam → Bool → ℕ → ℕ → Bool → ℕ → ℕ → Progress
progress list flag final given failed passed looks =
    record { list = list; flag = flag; final = final; given = given; failed = failed; passed = passed; looks = looks }

-- nothing was read yet
abbrev pub begun : List CsiParam → Bool → ℕ → Progress
begun list flag final = progress list flag final 0 false 0 0

-- these are all the actions of the run's list
abbrev pub ActionsOf : Progress → List Action → Type 0
ActionsOf p actions = Actions p.list p.flag p.final actions

-- memory was refused, or all actions are given
abbrev pub HasEnded : Progress → Type 0
HasEnded p =
    (p.failed ≡ true) ⊎ ((actions : List Action) × ActionsOf p actions × (length actions ≤ p.given))

-- at most so many actions are still to come: one for each unread token, and one for an empty list
abbrev pub most_left : Progress → ℕ
most_left p = if p.failed then 0 else (length p.list - p.passed) + (if p.given == 0 then 1 else 0)
