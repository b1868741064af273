-- What the private steps of `table.rt` find in front of bytes, by tests of one byte after the other. No promise rests on it:
-- what it finds is what the one row of the table of modes says that fits the bytes (`proofs/Agrees.antt`).
use Rattle.std.specs.Prelude.{ℕ, ◌==◌, Bool, true, false, not, ◌&&◌, ◌||◌, nat_lt, nat_le, List, [], ◌∷◌, if◌then◌else◌}
use Rattle.csicodec_spans.specs.{declared.table.Ahead.Ahead, declared.table.Ahead.TheVariants.GoesOn, declared.table.Ahead.TheVariants.Ends}
use Rattle.csicodec_spans.specs.{declared.table.Ahead.TheVariants.New, declared.table.Ahead.TheVariants.Esc, declared.table.Ahead.TheVariants.Csi}
use Rattle.csicodec_spans.specs.{declared.table.Ahead.TheVariants.Unsure, Table.Answer, Table.More, Table.Anew, Table.Sequence, Table.Undecided}
use Rattle.csicodec_spans.specs.{declared.table.Kind.Kind, declared.table.Mode.Mode}
use Rattle.csicodec_spans.specs.declared.table.Kind as kinds
use Rattle.csicodec_spans.specs.declared.table.Mode as modes

-- from the low byte to the high one
abbrev pub is_within : ℕ → ℕ → ℕ → Bool
is_within low high b = nat_le low b && nat_le b high

-- CAN, SUB or ESC: they cancel what is open, and don't belong to it
abbrev pub is_cancel : ℕ → Bool
is_cancel b = b == 24 || b == 26 || b == 27

-- the last character of SOS, PM or APC
abbrev pub opens_string : ℕ → Bool
opens_string b = b == 88 || b == 94 || b == 95

-- a control string is open
abbrev pub in_string : modes.Mode → Bool
in_string Mode.Osc = true
in_string Mode.Dcs = true
in_string Mode.Str = true
in_string _ = false

-- a device control string is open
abbrev pub is_dcs : modes.Mode → Bool
is_dcs Mode.Dcs = true
is_dcs _ = false

-- what the bytes are that belong to what is open
abbrev pub kind_in : modes.Mode → kinds.Kind
kind_in Mode.Text = Kind.Text
kind_in Mode.BadCsi = Kind.Other
kind_in Mode.BadEsc = Kind.Other
kind_in _ = Kind.Str

-- the byte ends nothing: text is all but ESC, a string all but what ends it, and what went wrong goes on over control
-- characters, DEL, and the bytes below the final ones
abbrev pub stays : modes.Mode → ℕ → Bool
stays Mode.Text b = not (b == 27)
stays Mode.Osc b = not (b == 7 || is_cancel b)
stays Mode.Dcs b = not (is_cancel b)
stays Mode.Str b = not (is_cancel b)
stays Mode.BadCsi b = not (is_cancel b) && (nat_lt b 64 || b == 127)
stays Mode.BadEsc b = not (is_cancel b) && (nat_lt b 48 || b == 127)

-- the byte ends what is open, and belongs to it: BEL an OSC, and a final byte what went wrong
abbrev pub ends : modes.Mode → ℕ → Bool
ends Mode.Osc b = b == 7
ends Mode.BadCsi b = is_within 64 126 b
ends Mode.BadEsc b = is_within 48 126 b
ends _ b = false

-- behind ESC and an intermediate byte: a final byte, or the two have gone wrong
abbrev pub intermediate : List ℕ → Ahead
intermediate [] = Unsure
intermediate (b ∷ bytes) = if is_within 48 126 b then Esc 3 else New 2 Mode.BadEsc

-- behind an ESC that begins anew: `[`, `]`, `P`, `X`, `^` or `_`, another final byte, an intermediate one, or the ESC has
-- gone wrong
abbrev pub opened : ℕ → List ℕ → Ahead
opened b bytes =
    if b == 91 then Csi else
    if b == 93 then New 2 Mode.Osc else
    if b == 80 then New 2 Mode.Dcs else
    if opens_string b then New 2 Mode.Str else
    if is_within 48 126 b then Esc 2 else
    if is_within 32 47 b then intermediate bytes else
    New 1 Mode.BadEsc

-- behind ESC: `\` closes the string that is open, a second ESC belongs to a DCS, and anything else begins anew
abbrev pub escape : modes.Mode → List ℕ → Ahead
escape m [] = Unsure
escape m (b ∷ bytes) =
    if in_string m && b == 92 then Ends 2 else
    if is_dcs m && b == 27 then GoesOn 2 else
    opened b bytes

-- a byte that stays, or ends and belongs, or ESC; CAN and SUB are left, and are text
abbrev pub look : modes.Mode → List ℕ → Ahead
look m [] = Unsure
look m (b ∷ bytes) =
    if stays m b then GoesOn 1 else
    if ends m b then Ends 1 else
    if b == 27 then escape m bytes else
    New 1 Mode.Text

-- the answer of the table that it stands for
abbrev pub meant : modes.Mode → Ahead → Answer
meant m (GoesOn n) = More (kind_in m) n m
meant m (Ends n) = More (kind_in m) n Mode.Text
meant m (New n a) = Anew (kind_in a) n a
meant m (Esc n) = Anew Kind.Esc n Mode.Text
meant m Csi = Sequence
meant m Unsure = Undecided
