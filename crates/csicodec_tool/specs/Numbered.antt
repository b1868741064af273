-- What `--ids` makes of a page: in front of each line stands an anchor with its number.
use Rattle.std.specs.Prelude.{ℕ, ◌≡◌, ◌==◌, ◌+◌, ◌-◌, ◌^◌, min, Bool, true, false, if◌then◌else◌, List, [], ◌∷◌, ◌++◌, codes}
use Rattle.std.specs.Fmt.{decimal}
use Rattle.csicodec_transform.specs.Transform.{EndsOf, PassesOf}
use Rattle.csicodec_tool.specs.{declared.numbered.Numberer.Numberer, declared.numbered.Place.Place}

-- the anchor of a line
abbrev pub anchor : ℕ → List ℕ
anchor line = codes "<span id=\"L" ++ (decimal line ++ codes "\"></span>")

-- what stands in front of what comes at a place
abbrev pub front_of : Place → List ℕ
front_of p = if p.starts then anchor p.line else []

-- a byte further: behind a newline the next line starts, whose number stays where it is the last of 64 bits
abbrev pub further : Place → ℕ → Place
further p b = record { starts = b == 10; line = if b == 10 then min (p.line + 1) (2 ^ 64 - 1) else p.line }

-- bytes from a place on, with an anchor in front of the first of each line
abbrev pub numbered : Place → List ℕ → List ℕ
numbered p [] = []
numbered p (b ∷ bytes) = front_of p ++ (b ∷ numbered (further p b) bytes)

-- the place behind them
abbrev pub behind : Place → List ℕ → Place
behind p [] = p
behind p (b ∷ bytes) = behind (further p b) bytes

-- where a page begins
abbrev pub front : Place
front = record { starts = true; line = 1 }

-- what bytes become, with its lines numbered or not
abbrev pub NumberedAs : Bool → (List ℕ → List ℕ → Type 0) → List ℕ → List ℕ → Type 0
NumberedAs false Out bytes text = Out bytes text
NumberedAs true Out bytes text = (plain : List ℕ) × Out bytes plain × (text ≡ numbered front plain)

-- a stream whose lines are numbered, chunk by chunk
abbrev pub PassesNumbered : {T : Type 0} → PassesOf T → PassesOf (Numberer T)
PassesNumbered Passes first bytes text last = (plain : List ℕ) × Passes first.inner bytes plain last.inner
    × (text ≡ numbered first.place plain) × (last.place ≡ behind first.place plain)

abbrev pub EndsNumbered : {T : Type 0} → EndsOf T → EndsOf (Numberer T)
EndsNumbered Ends last text = (plain : List ℕ) × Ends last.inner plain × (text ≡ numbered last.place plain)
