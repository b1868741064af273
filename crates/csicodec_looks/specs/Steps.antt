-- What each character does in a line.
use Rattle.std.specs.{Prelude.ℕ, Prelude.◌==◌, Prelude.◌||◌, Prelude.List, Prelude.[], Prelude.◌∷◌, Prelude.Some, Prelude.None, Prelude.if◌then◌else◌}
use Rattle.std.specs.{List.flat_map}
use Rattle.csicodec_looks.specs.{Shown.shown, declared.step.Step.Step}

-- VT (ECMA-48, 8.3.161) and FF (8.3.51) go to another row, and of C1 (as UTF-8, which some terminals carry out) IND (ECMA-48:1986), NEL
-- (8.3.86) and RI (8.3.104), and maybe CSI (8.3.16)
abbrev pub of_control : ℕ → List Step
of_control c =
    if c == 11 || (c == 12 || (c == 132 || (c == 141 || c == 155))) then Step.Leave None ∷ []
    else if c == 133 then Step.Leave (Some 1) ∷ [] else Step.Other ∷ []

-- LF (8.3.74) as a line of a log ends with it, CR (8.3.15), BS (8.3.5), HT (8.3.60), and what strip shows
abbrev pub of_char : ℕ → List Step
of_char c = if c == 10 then Step.NewLine ∷ [] else if c == 13 then Step.Column 1 ∷ []
    else if c == 8 then Step.Left 1 ∷ [] else if c == 9 then Step.Tab ∷ []
    else if shown c then Step.Put c ∷ [] else of_control c

abbrev pub of_chars : List ℕ → List Step
of_chars chars = flat_map of_char chars
