-- Graphic sets: which characters the bytes of text are. SCS designates a set as G0 (`ESC ( F`) or as G1 (`ESC ) F`), SO shifts G1 in, and SI G0. RIS and
-- DECSTR make both ASCII, and shift G0 in. (DEC VT220 Programmer Reference, EK-VT220-RM, "Character sets"; DEC STD 070; ISO/IEC 2022.)
use Rattle.std.specs.Prelude.{ℕ, ◌≡◌, ◌<◌, ◌==◌, ◌&&◌, nat_lt, Bool, true, false, List, [], ◌∷◌, ◌++◌, length, slice_index, if◌then◌else◌, encode_utf8}
use Rattle.csicodec_spans.specs.{declared.table.Kind.Kind, Parts.Part, Parts.part}
use Rattle.csicodec_clean.specs.{Titles.read_as, Titles.title_behind, Titles.title_open, Titles.with_titles, declared.reading.Reading.Reading}
use Rattle.csicodec_clean.specs.{declared.reading.Sets.Sets}
use Rattle.csicodec_looks.specs.{Sets.char_in, Sets.set_at, declared.sets.Set.Set, declared.sets.Set.TheVariants.Ascii}

abbrev pub first_sets : Sets
first_sets = record { g0 = Ascii; g1 = Ascii; shifted = false }

-- the set that is shifted in
abbrev pub in_use : Sets → Set
in_use s = if s.shifted then s.g1 else s.g0

-- behind a byte of text, which may be SO (00/14) or SI (00/15)
abbrev pub shifted : Sets → ℕ → Sets
shifted s b = if b == 14 then record s { shifted = true } else
    if b == 15 then record s { shifted = false } else s

abbrev pub behind_text : Sets → List ℕ → Sets
behind_text s [] = s
behind_text s (b ∷ bytes) = behind_text (shifted s b) bytes

-- a byte of text: one of ASCII is the character of the set that is shifted in, in UTF-8
abbrev pub drawn_byte : Sets → ℕ → List ℕ
drawn_byte s b = if nat_lt b 128 then encode_utf8 (char_in (in_use s) b) else b ∷ []

abbrev pub drawn_text : Sets → List ℕ → List ℕ
drawn_text s [] = []
drawn_text s (b ∷ bytes) = drawn_byte s b ++ drawn_text (shifted s b) bytes

-- behind an escape sequence: RIS, `ESC c`, or SCS, `ESC ( F` and `ESC ) F`
abbrev pub behind_escape : Sets → List ℕ → Sets
behind_escape s (e ∷ final ∷ []) = if final == 99 then first_sets else s
behind_escape s (e ∷ b ∷ final ∷ []) = if b == 40 then record s { g0 = set_at final } else
    if b == 41 then record s { g1 = set_at final } else s
behind_escape s bytes = s

-- the sequence is DECSTR, `ESC [ ! p`
abbrev pub is_decstr : List ℕ → Bool
is_decstr bytes = length bytes == 4 && (slice_index bytes 2 == 33 && slice_index bytes 3 == 112)

-- behind a part
abbrev pub behind : Sets → Kind → List ℕ → Sets
behind s Kind.Text bytes = behind_text s bytes
behind s Kind.Esc bytes = behind_escape s bytes
behind s Kind.Csi bytes = if is_decstr bytes then first_sets else s
behind s k bytes = s

abbrev pub sets_behind : Sets → List Part → Sets
sets_behind s [] = s
sets_behind s (p ∷ parts) = sets_behind (behind s p.kind p.bytes) parts

-- the bytes of a part: those of text as its characters are in the sets
abbrev pub drawn : Sets → Kind → List ℕ → List ℕ
drawn s Kind.Text bytes = drawn_text s bytes
drawn s k bytes = bytes

abbrev pub with_sets : Sets → List Part → List Part
with_sets s [] = []
with_sets s (p ∷ parts) = part p.kind (drawn s p.kind p.bytes) ∷ with_sets (behind s p.kind p.bytes) parts

-- How parts are read: with titles as what is dropped, which change no set, and text as its characters are in the sets.
abbrev pub first_reading : Reading
first_reading = record { titled = false; sets = first_sets }

abbrev pub as_read : Reading → List Part → List Part
as_read r parts = with_sets r.sets (with_titles r.titled parts)

-- and how those behind them are
abbrev pub read_behind : Reading → List Part → Reading
read_behind r parts = record {
  titled = title_open r.titled parts;
  sets = sets_behind r.sets (with_titles r.titled parts);
}

-- behind a span
abbrev pub passed : Reading → Kind → List ℕ → Reading
passed r k bytes = record {
  titled = title_behind r.titled k bytes;
  sets = behind r.sets (read_as k r.titled) bytes;
}

-- bytes of text that are what they are in the sets, and change none
abbrev pub IsSame : Sets → List ℕ → Type 0
IsSame sets bytes = (drawn_text sets bytes ≡ bytes) × (behind_text sets bytes ≡ sets)

-- bytes in front of which that is so, and the rest: where there are none, it begins with a byte of ASCII
abbrev pub IsSplit : Sets → List ℕ → List ℕ → List ℕ → Type 0
IsSplit sets bytes front rest = (bytes ≡ front ++ rest) × IsSame sets front
    × (length front ≡ 0 → (b : ℕ) → (others : List ℕ) → bytes ≡ b ∷ others → b < 128)
