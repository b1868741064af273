-- What the private steps of a reader say of each other. No promise rests on this file.
use Rattle.std.specs.Prelude.{ℕ, ◌≡◌, List, [], ◌∷◌, ◌++◌, Option, Some, None}
use Rattle.csicodec_spans.specs.{declared.table.Kind.Kind, declared.table.Mode.Mode}
use Rattle.csicodec_clean.specs.{Private.Steps.Draws, Sets.behind_text, Sets.in_use, Shown.IsRead, declared.reading.Reading.Reading, declared.reading.Sets.Sets}
use Rattle.csicodec_looks.specs.{declared.step.Step.Step, Steps.of_chars, declared.sets.Set.TheVariants.Ascii}
use Rattle.csicodec_overwrite.specs.{Reading.IsOfPart, Stream.Goes, Stream.Held, Stream.none_in}

-- a step, if there is one
abbrev pub if_some : Option Step → List Step
if_some None = []
if_some (Some s) = s ∷ []

-- a span behind a run of which some bytes are held: the steps that come, and what is held then
abbrev pub IsGiven : Sets → Kind → List ℕ → List ℕ → List Step → List ℕ → Type 0
IsGiven sets Kind.Text held bytes steps left = (chars : List ℕ) × Draws sets held bytes chars left
    × (steps ≡ of_chars chars)
IsGiven sets k held bytes steps left = IsOfPart k held bytes steps left

-- from what is open and held to what is then: the parts in front of the rest, and the steps that came for them
abbrev pub GoesTo : Mode → Reading → List ℕ → List ℕ → List ℕ → Mode → Reading → List ℕ → List Step
    → List Step → Type 0
GoesTo m r held bytes rest a later left old new = (steps : List Step) × (new ≡ old ++ steps)
    × ((run chars : List ℕ) → IsRead run chars held → Goes m r run chars bytes steps rest a later left)

-- text in front of the rest, as the sets draw it: the steps of its characters, what is held then, and the sets behind it
abbrev pub DrawsTo : Sets → List ℕ → List ℕ → List ℕ → Sets → List ℕ → List Step → List Step
    → Type 0
DrawsTo sets held bytes rest after left old new = (text : List ℕ) × (chars : List ℕ)
    × (bytes ≡ text ++ rest) × Draws sets held text chars left
    × (after ≡ behind_text sets text) × (new ≡ old ++ of_chars chars)

-- nothing is open or held
abbrev pub IsBare : Held → Type 0
IsBare h = h ≡ none_in h.reading.sets

-- and the set that is shifted in is ASCII
abbrev pub IsAscii : Held → Type 0
IsAscii h = IsBare h × (in_use h.reading.sets ≡ Ascii)
