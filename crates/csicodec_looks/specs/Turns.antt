-- What a table of control sequences that came before holds: how each turns text, and what is written for it.
use Rattle.std.specs.{Prelude.ℕ, Prelude.◌≡◌, Prelude.◌≤◌, Prelude.List, Prelude.◌++◌, Prelude.length, Prelude.take, List.All}
use Rattle.csicodec_looks.specs.{declared.look.Look.Look, declared.turns.InFront.InFront, declared.turns.Turn.Turn}

-- it turns text of one look into text of another, and that is written for it
abbrev pub IsTurn : (List ℕ → Look → Look → List ℕ → Type 0) → Turn → Type 0
IsTurn Turned t = (t.len ≤ 32) × (t.tags_len ≤ 128) × Turned (take t.len t.bytes) t.old t.new (take t.tags_len t.tags)

-- each that is kept does
abbrev pub AreTurns : (List ℕ → Look → Look → List ℕ → Type 0) → List Turn → Type 0
AreTurns Turned kept = All (IsTurn Turned) kept

-- it is of the sequence in front, and from this look
abbrev pub Fits : Turn → Look → InFront → Type 0
Fits t look f =
    (f.least ≤ t.len) × (t.len ≤ f.most) × (t.len ≤ length f.bytes.now) × (take t.len f.bytes.now ≡ take t.len t.bytes) × (t.old ≡ look)

-- what is written for the sequence in front, of so many bytes, is appended
abbrev pub IsTold : (List ℕ → Look → Look → List ℕ → Type 0) → Look → InFront → ℕ → Look → List ℕ → List ℕ → Type 0
IsTold Turned look f len new old out =
    (f.least ≤ len) × (len ≤ f.most) × (len ≤ length f.bytes.now)
    × (tags : List ℕ) × Turned (take len f.bytes.now) look new tags × (out ≡ old ++ tags)
