-- Which rules a list and its final fall under.
use Rattle.std.specs.{Prelude.not, Prelude.◌||◌, Prelude.pos, Prelude.slice_get, Prelude.◌≡◌, Prelude.◌==◌, Prelude.◌∷◌, Prelude.if◌then◌else◌, List.list_any}
use Rattle.csicodec_actions.specs.{declared.mode.DecPrivateMode.DecPrivateMode, declared.mode.TerminalMode.TerminalMode, Kinds.read, Kinds.Dec, Kinds.Terminal}
use Rattle.csicodec_actions.specs.{declared.mode.Change.Change, declared.mode.Switch.Switch}
use Rattle.csicodec_parser.specs.Common.{ℕ, Bool, false, List, Option, Some, CsiParam, Integer, P, Action, Sgr, Mode, changed, switched, Group, Whole, Styles, Modes, DecModes}
use Rattle.csicodec_base.specs.declared.sgr.Sgr as sgr_type
use Rattle.csicodec_base.specs.Pieces as sgr_pieces

-- ---- the group of a list

-- the token is this byte
abbrev pub is_byte : ℕ → Option CsiParam → Bool
is_byte b (Some (P c)) = c == b
is_byte b _ = false

-- behind a `?` stand private modes, before h, l, s and r
abbrev pub dec_group : ℕ → Group
dec_group final =
    if final == 104 then DecModes Change.Set
    else if final == 108 then DecModes Change.Reset
    else if final == 115 then DecModes Change.Save
    else if final == 114 then DecModes Change.Restore
    else Whole

-- without one modes, before h and l
abbrev pub plain_group : ℕ → Group
plain_group final =
    if final == 104 then Modes Switch.Set else if final == 108 then Modes Switch.Reset else Whole

-- before m stand styles, unless the list begins with `>` or `<`
abbrev pub style_group : Option CsiParam → Group
style_group first = if is_byte 62 first || is_byte 60 first then Whole else Styles

-- the group by the first token, if there is one, and the final
abbrev pub group_by : Option CsiParam → ℕ → Group
group_by first final = if final == 109 then style_group first
    else if is_byte 63 first then dec_group final else plain_group final

-- Styles and modes are cut into pieces, and every other list is read whole. A table of rules by the final, the first or the last token, or the
-- shape of the list, chooses the same (law `which_rules` of csicodec).
abbrev pub group : List CsiParam → ℕ → Group
group list final = group_by (slice_get list 0) final

-- ---- what stands before the pieces

-- how many tokens: the `?` before private modes
abbrev pub start : Group → ℕ
start (DecModes c) = 1
start _ = 0

-- a rest with these before it
abbrev pub marked : Group → List CsiParam → List CsiParam
marked (DecModes c) rest = P 63 ∷ rest
marked _ rest = rest

-- ---- the pieces

-- the list begins with this number
abbrev pub BeginsWith : ℕ → List CsiParam → Type 0
BeginsWith n rest = (more : List CsiParam) × (rest ≡ Integer (pos n) ∷ more)

-- a piece of this group, of k tokens, stands at the front, and this is its action: one of the table of styles, or the number of one mode
abbrev pub Piece : Group → List CsiParam → ℕ → Action → Type 0
Piece Whole rest k action = ⊥
Piece Styles rest k action = (s : sgr_type.Sgr) × sgr_pieces.Piece rest k s × (action ≡ Sgr s)
Piece (Modes s) rest k action = (n : ℕ) × (m : TerminalMode) × BeginsWith n rest × (k ≡ 1)
    × (read Terminal (pos n) ≡ Some m) × (action ≡ Mode (switched s m))
Piece (DecModes c) rest k action = (n : ℕ) × (m : DecPrivateMode) × BeginsWith n rest × (k ≡ 1)
    × (read Dec (pos n) ≡ Some m) × (action ≡ Mode (changed c m))

-- ---- what makes a whole list unknown

-- before styles a byte other than `;`, `:` and `?`, and before modes a `?`
abbrev pub is_odd_byte : Group → ℕ → Bool
is_odd_byte Styles b = not (b == 59 || (b == 58 || b == 63))
is_odd_byte (Modes s) b = b == 63
is_odd_byte _ b = false

abbrev pub is_odd : Group → CsiParam → Bool
is_odd g (Integer n) = false
is_odd g (P b) = is_odd_byte g b

abbrev pub has_odd : Group → List CsiParam → Bool
has_odd g list = list_any (is_odd g) list
