-- What is left in room that a caller lends.
use Rattle.std.specs.Prelude.{◌≡◌, ◌≤◌, ◌<◌, List, [], ◌∷◌, ◌++◌, length, drop}

-- items that fit stand at the front, and what is behind them stays; of items that don't fit none is put
abbrev pub Fills : {A : Type 0} → List A → List A → List A → Type 0
Fills old new items = (length items ≤ length old → new ≡ items ++ drop (length items) old)
    × (length old < length items → new ≡ old)

-- as many of the items as there is room for stand at the front, and what is behind them stays
abbrev pub laid : {A : Type 0} → List A → List A → List A
laid [] items = []
laid (x ∷ old) [] = x ∷ old
laid (x ∷ old) (y ∷ items) = y ∷ laid old items
