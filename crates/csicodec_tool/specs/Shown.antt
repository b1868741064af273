-- What a terminal shows behind a stream.
use Rattle.std.specs.{Prelude.ℕ, Prelude.◌≡◌, Prelude.◌⊎◌, Prelude.◌==◌, Prelude.Bool, Prelude.List, Prelude.[], Prelude.◌∷◌, Prelude.◌++◌}
use Rattle.std.specs.{Prelude.if◌then◌else◌, List.concat, List.flat_map}
use Rattle.csicodec_transform.specs.Transform.{EndsOf, PassesOf}
use Rattle.csicodec_screen.specs.{Feeds.Emulated, Feeds.Feeds, Feeds.begun, Views.view}
use Rattle.csicodec_tool.specs.{declared.shown.Display.Display, declared.shown.Shown.Shown}

-- how many rows that left at the top are kept, where they are asked for
abbrev pub kept : Bool → ℕ
kept scrollback = if scrollback then 10000 else 0

-- the driver of a terminal sends CR LF for a newline (ONLCR; POSIX, 11.2.3)
abbrev pub by_driver : ℕ → List ℕ
by_driver b = if b == 10 then 13 ∷ 10 ∷ [] else b ∷ []

-- what comes to a terminal: raw bytes as they are, and others as its driver sends them
abbrev pub as_sent : Bool → List ℕ → List ℕ
as_sent raw bytes = if raw then bytes else flat_map by_driver bytes

-- it is fed these chunks, one after the other
abbrev pub FeedsAll : Bool → Emulated → List (List ℕ) → Emulated → Type 0
FeedsAll raw old [] new = new ≡ old
FeedsAll raw old (chunk ∷ chunks) new = (next : Emulated) × Feeds old (as_sent raw chunk) next × FeedsAll raw next chunks new

-- it reads these bytes, in whatever chunks they come
abbrev pub Reads : Bool → Emulated → List ℕ → Emulated → Type 0
Reads raw old bytes new = (chunks : List (List ℕ)) × (bytes ≡ concat chunks) × FeedsAll raw old chunks new

-- what is written of it
abbrev pub shown : Display → Emulated → List ℕ
shown d emulator = view d.marking d.scrollback emulator.screen

-- A new screen of the size reads all bytes, and the text is what it shows then.
abbrev pub Shows : Display → List ℕ → List ℕ → Type 0
Shows d bytes text = (last : Emulated) × Reads d.raw (begun d.size.rows d.size.columns (kept d.scrollback)) bytes last × (text ≡ shown d last)

-- Of an input that failed nothing went out, or where all its bytes were read a front of its text.
abbrev pub ShowsFront : Display → List ℕ → List ℕ → Type 0
ShowsFront d bytes sent = (sent ≡ []) ⊎ ((unsent : List ℕ) × Shows d bytes (sent ++ unsent))

-- as the stream comes, chunk by chunk, nothing is written ahead of its end
abbrev pub PassesShown : PassesOf Shown
PassesShown first bytes text last = (text ≡ []) × (last.display ≡ first.display) × Reads first.display.raw first.emulator bytes last.emulator

abbrev pub EndsShown : EndsOf Shown
EndsShown last text = text ≡ shown last.display last.emulator
