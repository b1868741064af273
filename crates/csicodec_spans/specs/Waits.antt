-- How often the bytes of a stream are looked at: those that wait, which are handed out, and those that are cut.
use Rattle.std.specs.Prelude.{ℕ, ◌≡◌, ◌+◌, ◌*◌, ◌<◌, ◌⊎◌, List, [], ◌∷◌, ◌++◌, length}
use mathlib.Core.Logic.{inl, inr}
use Rattle.csicodec_spans.specs.{declared.table.Mode.Mode, declared.cut.Span.Span, Parts.Part, Parts.AreFirstParts, Parts.Cuts, Parts.IsUnsure}

-- the bytes that wait, and how many looks at them were taken
pub record Seen : Type 0 where
  pub bytes : List ℕ
  pub looks : ℕ

-- a stream between two chunks: the same of its bytes, and the mode that those before them leave open
pub record Pending : Type 0 where
  pub limit : ℕ
  pub mode : Mode
  pub bytes : List ℕ
  pub looks : ℕ

-- nothing can be cut of what waits and what comes: all of it waits on
abbrev pub WaitsOn : Mode → List ℕ → List ℕ → List ℕ → Mode → Type 0
WaitsOn m waiting bytes rest after = (rest ≡ waiting ++ bytes) × (after ≡ m)

-- what waited is handed out again only where something can be cut of it, unless it is two bytes at most
abbrev pub IsOnce : ℕ → Mode → List ℕ → List ℕ → Type 0
IsOnce limit m waiting bytes = IsUnsure limit m (waiting ++ bytes) → length waiting < 3

-- it is handed out: the parts in front are cut, and what isn't sure behind them waits
pub record IsCut (limit : ℕ) (m : Mode) (waiting bytes rest : List ℕ) (after : Mode) : Type 0 where
  pub parts : List Part
  pub first : AreFirstParts limit m (waiting ++ bytes) parts rest after
  pub once : IsOnce limit m waiting bytes

-- a stream that comes in chunks, and how many bytes that waited were handed out again in all
abbrev pub HandsOut : ℕ → Mode → List ℕ → List (List ℕ) → ℕ → Type 0
HandsOut limit m waiting [] again = again ≡ 0
HandsOut limit m waiting (chunk ∷ chunks) again =
    (rest : List ℕ) × (after : Mode) × (later : ℕ) × IsUnsure limit after rest
    × HandsOut limit after rest chunks later
    × ((WaitsOn m waiting chunk rest after × (again ≡ later))
    ⊎ (IsCut limit m waiting chunk rest after × (again ≡ length waiting + later)))

-- How many looks at bytes that wait that takes: one at each byte of a chunk that waits on; otherwise one at each that is handed out again,
-- and two at each that isn't sure behind what is cut, to keep it and to find the number at its end.
abbrev pub looks_in : (limit : ℕ) (m : Mode) (waiting : List ℕ) (chunks : List (List ℕ)) (again : ℕ)
    → HandsOut limit m waiting chunks again → ℕ
looks_in limit m waiting [] again h = 0
looks_in limit m waiting (chunk ∷ chunks) again (rest, after, later, unsure, others, inl on) =
    length chunk + looks_in limit after rest chunks later others
looks_in limit m waiting (chunk ∷ chunks) again (rest, after, later, unsure, others, inr cut) =
    length waiting + 2 * length rest + looks_in limit after rest chunks later others

-- bytes that are cut into spans, and what is left, of which nothing is sure
abbrev pub AreCut : ℕ → Mode → List ℕ → List Span → List ℕ → Mode → Type 0
AreCut limit m bytes [] rest after = (rest ≡ bytes) × (after ≡ m) × IsUnsure limit after rest
AreCut limit m bytes (s ∷ spans) rest after =
    (behind : List ℕ) × (mid : Mode) × Cuts limit m bytes s.kind s.bytes.now behind mid
    × AreCut limit mid behind spans rest after

-- as many looks as they may take: four at each byte of a span and eight more, and in the end one at each byte that is left and three more
abbrev pub cut_looks : List Span → List ℕ → ℕ
cut_looks [] rest = length rest + 3
cut_looks (s ∷ spans) rest = 4 * length s.bytes.now + 8 + cut_looks spans rest
