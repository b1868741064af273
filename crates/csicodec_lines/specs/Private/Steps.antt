-- What private steps say of each other: where a line is cut, and a search as it goes.
use Rattle.std.specs.Prelude.{ℕ, ◌≡◌, Bool, true, not, ◌+◌, ◌-◌, List, false, []}
use Rattle.csicodec_lines.specs.{Lines.ends_line, declared.search.CutSearch.CutSearch, Cuts.Found, Cuts.behind, Cuts.cuts, Cuts.patience, Cuts.told}
use Rattle.csicodec_lines.specs.{Cuts.each_byte, Cuts.first, declared.finder.Finder.Finder, Private.Written.Since, Private.Written.WrittenOf}
use Rattle.csicodec_lines.specs.{Private.Written.open_at}
use Rattle.csicodec_clean.specs.{Check.counted, Cleaned.longest, Titles.title_open}
use Rattle.csicodec_filter.specs.Filter.{Held}
use Rattle.csicodec_transform.specs.Transform.{PassesOf}
use Rattle.csicodec_spans.specs.declared.table.Mode.{Mode}

-- the byte ends no line
abbrev pub is_within : ℕ → Bool
is_within b = not (ends_line b)

abbrev pub IsWithin : ℕ → Type 0
IsWithin b = is_within b ≡ true

-- ---- a search as the code has it

-- it counts down to the first byte that is far enough from the last place, and from there on to that where no newline is waited for
pub record IsAt (c : CutSearch) (s : Found) : Type 0 where
  pub every : c.every ≡ s.every
  pub at : c.at ≡ counted s.at
  pub near : c.near ≡ (s.last + s.every) - s.at
  pub wait : c.wait ≡ patience - (s.at - (s.last + s.every))

-- behind so many bytes of which none has a place behind it
abbrev pub passed : ℕ → Found → Found
passed n s = record { every = s.every; last = s.last; at = s.at + n }

-- behind these bytes, wherever the search was: where it is, and what it told
abbrev pub FindsIn : CutSearch → List (Bool × ℕ) → List ℕ → CutSearch → Type 0
FindsIn old bytes more new = (s : Found) → IsAt old s
    → IsAt new (behind s bytes) × (more ≡ told (cuts s bytes))

-- ---- as it goes

-- this was told of some parts, wherever the search was, by whether a title is open ahead of them, and whether one is behind them
abbrev pub Finds : WrittenOf (CutSearch × Bool)
Finds old parts text new = (new.1 ≡ title_open old.1 parts)
    × ((s : Found) → IsAt old.0 s → IsAt new.0 (behind s (each_byte old.1 parts))
    × (text ≡ told (cuts s (each_byte old.1 parts))))

-- the search, and what waits
abbrev pub held : Finder → Held (CutSearch × Bool)
held f = open_at (f.search, f.titled) f.waiting.limit f.waiting.mode f.waiting.bytes

-- where nothing has come
abbrev pub IsBegun : ℕ → Finder → Type 0
IsBegun every f = IsAt f.search (first every)
    × (held f ≡ open_at (f.search, false) longest Mode.Text [])

-- since it has begun, these bytes, and what was told of them
abbrev pub Passes : PassesOf Finder
Passes old bytes text new = Since Finds (held old) bytes text (held new)
