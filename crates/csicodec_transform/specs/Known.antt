-- What a table of sequences that came before holds.
use Rattle.std.specs.{Prelude.ℕ, Prelude.◌≡◌, Prelude.◌<◌, Prelude.◌≤◌, Prelude.List, Prelude.Some, Prelude.length, Prelude.slice_get, Prelude.take, List.All}
use Rattle.csicodec_transform.specs.declared.memo.Slot.{Slot}

-- a slot holds a sequence and what is noted of it, unless it holds no bytes
abbrev pub IsKnown : (List ℕ → List ℕ → Type 0) → Slot → Type 0
IsKnown Notes s = (s.len ≤ 48) × (s.text_len ≤ 48)
    × (0 < s.len → Notes (take s.len s.bytes) (take s.text_len s.text))

-- each slot does
abbrev pub AreKnown : (List ℕ → List ℕ → Type 0) → List Slot → Type 0
AreKnown Notes slots = All (IsKnown Notes) slots

-- one of the slots has the sequence in front, and what is noted of it
abbrev pub StandsAt : (List ℕ → List ℕ → Type 0) → List ℕ → List Slot → ℕ → Type 0
StandsAt Notes bytes slots at = (s : Slot) × (slice_get slots at ≡ Some s) × (0 < s.len)
    × (s.len ≤ length bytes) × (s.text_len ≤ 48) × Notes (take s.len bytes) (take s.text_len s.text)
