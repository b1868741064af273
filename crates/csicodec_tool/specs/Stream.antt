-- A log as it comes, chunk by chunk.
use Rattle.std.specs.Prelude.{ℕ, ◌≡◌, Bool, true, false, List, ◌++◌, Option, None, Some, IfSome}
use Rattle.csicodec_transform.specs.Transform.{EndsOf, PassesOf}
use Rattle.csicodec_clean.specs.{Shown.shown_text, Stream.Between, Stream.Takes, Stream.start_of, Styled.Keeping, Styled.first_kept, Styled.keeps}
use Rattle.csicodec_clean.specs.{Styled.resets, declared.styles.Passing.Passing}
use Rattle.csicodec_looks.specs.declared.marking.Marking.TheVariants.{Plain, Styled}
use Rattle.csicodec_overwrite.specs.Stream.{Ending, Now, Passes, begun_as}
use Rattle.csicodec_tool.specs.{declared.log.Log.Log, Log.IsLogged, Log.LogOf}

-- lines with what is made of each by itself and of the last, or a stream as one line
abbrev pub LogAs : Bool → (List ℕ → List ℕ → Type 0) → (List ℕ → List ℕ → Type 0) → List ℕ → List ℕ → Type 0
LogAs true Each Last bytes text = LogOf Each Last bytes text
LogAs false Each Last bytes text = Last bytes text

-- the line that isn't over has these bytes, and of them this text is sure
abbrev pub IsIn : Option Passing → Now → Between Keeping → List ℕ → List ℕ → Type 0
IsIn None at cleaner line text = Passes (begun_as Plain) line text at
IsIn (Some p) at cleaner line text = (painted : List ℕ) × Passes (begun_as Styled) line painted at
    × Takes keeps (start_of (first_kept p)) painted text cleaner

-- it goes on with these bytes, of which this text is sure
abbrev pub Pushes : Option Passing → Now → Between Keeping → List ℕ → List ℕ → Now → Between Keeping → Type 0
Pushes None old cleaner bytes text new behind = Passes old bytes text new
Pushes (Some p) old cleaner bytes text new behind = (painted : List ℕ) × Passes old bytes painted new
    × Takes keeps cleaner painted text behind

-- it is over, and this text is left
abbrev pub Finishes : Option Passing → Now → Between Keeping → List ℕ → Type 0
Finishes None at cleaner text = Ending at text
Finishes (Some p) at cleaner text = (painted : List ℕ) × (more : List ℕ) × (close : List ℕ) × (last : Between Keeping) × Ending at painted
    × Takes keeps cleaner painted more last × resets last.rule close
    × (text ≡ more ++ (shown_text last.held ++ close))

-- the same of a log
abbrev pub IsSame : Log → Log → Type 0
IsSame old new = (new.each ≡ old.each) × (new.styles ≡ old.styles)

abbrev pub GoesIn : Log → List ℕ → List ℕ → Log → Type 0
GoesIn old bytes text new = IsSame old new × Pushes old.styles old.line old.cleaner bytes text new.line new.cleaner

-- since it has begun
abbrev pub PassesLog : PassesOf Log
PassesLog first bytes text last = IsSame first last
    × LogAs first.each (IsLogged first.styles) (IsIn first.styles last.line last.cleaner) bytes text

-- at the end, what is left of the line
abbrev pub EndsLog : EndsOf Log
EndsLog last text = Finishes last.styles last.line last.cleaner text

-- when the line is over, the next one begins
abbrev pub IsBegun : Log → Log → Type 0
IsBegun old new = IsSame old new × (new.line ≡ begun_as old.line.marking)
    × IfSome old.styles (λ p. new.cleaner ≡ start_of (first_kept p))
