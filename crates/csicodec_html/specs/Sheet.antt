-- What stands ahead of the pieces of a page of its own, and what HTML reads of them.
use Rattle.std.specs.{Prelude.ℕ, Prelude.◌≡◌, Prelude.◌==◌, Prelude.List, Prelude.[], Prelude.◌∷◌, Prelude.encode_utf8_all, Prelude.if◌then◌else◌}
use Rattle.std.specs.{List.AllByRecursion, List.flat_map}
use Rattle.csicodec_clean.specs.{Cleaned.Strips, Cleaned.longest, Shown.IsShown}
use Rattle.csicodec_looks.specs.Pieces.{escaped}

-- ---- what HTML reads

-- the title of a page: the characters that its name is stripped to, escaped
abbrev pub IsTitle : List ℕ → List ℕ → Type 0
IsTitle name title = (chars : List ℕ) × Strips longest name (encode_utf8_all chars)
    × AllByRecursion IsShown chars × (title ≡ flat_map escaped chars)

-- of the text of a `pre`: a newline directly behind its tag is dropped (HTML, 13.2.6.4.7)
abbrev pub in_pre : List ℕ → List ℕ
in_pre [] = []
in_pre (b ∷ bytes) = if b == 10 then bytes else b ∷ bytes
