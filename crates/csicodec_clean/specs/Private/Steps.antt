-- What private steps say of each other. No promise rests on this file.
use Rattle.std.specs.Prelude.{ℕ, ◌≡◌, ◌≢◌, ◌==◌, ◌≤◌, ◌<◌, Bool, false, not, ◌&&◌, ◌||◌, nat_lt, List, [], ◌∷◌, ◌++◌, length, slice_index}
use Rattle.std.specs.List.{AllByRecursion}
use Rattle.bstr.specs.Utf8.{decoded_by, good}
use Rattle.csicodec_spans.specs.{declared.table.Kind.Kind, declared.table.Mode.Mode}
use Rattle.csicodec_clean.specs.{Sets.behind_text, Sets.drawn_text, declared.reading.Reading.Reading, declared.reading.Sets.Sets, Shown.IsRead, Shown.Writing}
use Rattle.csicodec_clean.specs.{Shown.chars_as, Cleaned.RuleOf, Cleaned.IsStep, Stream.Between, Stream.GoesBy}

-- ---- text that is told by its bytes

-- a control of C0 that is dropped, but ESC, SO and SI, or DEL
abbrev pub dropped_byte : ℕ → Bool
dropped_byte b =
    nat_lt b 32 && not (b == 27) && not (b == 14) && not (b == 15) && not (b == 10) && not (b == 9) || b == 127

-- bytes that begin with these four begin with a character from U+00A0 on, of so many bytes
abbrev pub IsWide : ℕ → ℕ → ℕ → ℕ → ℕ → Type 0
IsWide b c d e len = (char : ℕ) × (160 ≤ char)
    × ((n : ℕ) → 4 ≤ n → decoded_by n b c d e ≡ good char len)

abbrev pub IsOther : ℕ → Type 0
IsOther b = b ≢ 27

-- and no SO or SI
abbrev pub IsStill : ℕ → Type 0
IsStill b = (b ≢ 27) × (b ≢ 14) × (b ≢ 15)

-- a run reads as these characters, and then as the rest, which is its end
abbrev pub ReadsTo : List ℕ → List ℕ → List ℕ → Type 0
ReadsTo run chars rest = IsRead run chars rest × (front : List ℕ) × (run ≡ front ++ rest)

-- text of which all is told: no ESC, SO or SI is among it, and it is read as these characters whatever follows
abbrev pub IsTold : List ℕ → List ℕ → Type 0
IsTold text chars = AllByRecursion IsStill text × IsRead text chars []

-- the text before the rest is told, and what is shown of it is appended
abbrev pub Tells : Writing → List ℕ → List ℕ → List ℕ → List ℕ → Type 0
Tells w bytes rest old new =
    (text : List ℕ) × (chars : List ℕ) × (bytes ≡ text ++ rest) × IsTold text chars
    × (new ≡ old ++ chars_as w chars)

-- text behind a run of which some bytes are held: the run then reads as these characters and what is held behind it, which is the end of the bytes
abbrev pub Draws : Sets → List ℕ → List ℕ → List ℕ → List ℕ → Type 0
Draws sets held bytes chars left = IsRead (held ++ drawn_text sets bytes) chars left
    × (front : List ℕ) × (held ++ bytes ≡ front ++ left)

-- the text before the rest, so
abbrev pub DrawsTo : Writing → Sets → List ℕ → List ℕ → List ℕ → Sets → List ℕ → List ℕ → List ℕ
    → Type 0
DrawsTo w sets held bytes rest after left old new = (text : List ℕ) × (chars : List ℕ)
    × (bytes ≡ text ++ rest) × Draws sets held text chars left
    × (after ≡ behind_text sets text) × (new ≡ old ++ chars_as w chars)

-- a byte of ASCII, and no ESC, SO or SI
abbrev pub is_drawn : ℕ → Bool
is_drawn b = nat_lt b 128 && not (b == 27) && not (b == 14) && not (b == 15)

-- no byte among them shifts a set in
abbrev pub unshifted : ℕ → Bool
unshifted b = not (b == 14) && not (b == 15)

-- ---- spans

-- a span behind a run of which some bytes are held: what is appended, and what is held then. One that is no text ends the run, as a part does.
abbrev pub IsAppended : {S : Type 0} → RuleOf S → Sets → Kind → S → List ℕ → List ℕ → List ℕ → S
    → List ℕ → Type 0
IsAppended Gives sets Kind.Text s held bytes text after left = (chars : List ℕ)
    × Draws sets held bytes chars left × (text ≡ chars_as Gives.writing chars) × (after ≡ s)
IsAppended Gives sets k s held bytes text after left = IsStep Gives k s held bytes text after left

-- ESC, an intermediate byte and a final byte stand in front
abbrev pub BeginsWithEscape : List ℕ → Type 0
BeginsWithEscape bytes =
    (3 ≤ length bytes) × (slice_index bytes 0 ≡ 27) × (32 ≤ slice_index bytes 1)
    × (slice_index bytes 1 ≤ 47) × (48 ≤ slice_index bytes 2) × (slice_index bytes 2 ≤ 126)

-- what is open and held
abbrev pub state_of : {S : Type 0} → S → Mode → Reading → List ℕ → List ℕ → Between S
state_of s m reading bytes held = record { rule = s; mode = m; reading = reading; bytes = bytes; held = held }

-- where nothing is
abbrev pub bare_at : {S : Type 0} → S → Sets → List ℕ → Between S
bare_at s sets bytes = state_of s Mode.Text (record { titled = false; sets = sets }) bytes []

-- from one state to another: what is left of the parts between is appended, and what is held stands directly before the rest
abbrev pub GoesTo : {S : Type 0} → RuleOf S → ℕ → Between S → Between S → List ℕ → List ℕ
    → Type 0
GoesTo Gives limit old new before after = (appended : List ℕ) × (after ≡ before ++ appended)
    × GoesBy Gives limit old appended new
    × (front : List ℕ) × (old.held ++ old.bytes ≡ front ++ (new.held ++ new.bytes))
