-- How a terminal reads a list of parameters before a final, where the table of actions reads nothing of it or less (ECMA-48, 5.4.2 and 8.3.117; xterm, ctlseqs).
use Rattle.std.specs.Prelude.{ℕ, suc, ◌≡◌, ◌⊎◌, ◌-◌, ◌<◌, ◌==◌, ◌&&◌, ◌||◌, not, if◌then◌else◌, Bool, true, false, MatchBool, List, [], ◌∷◌, length, take, drop, Some, pos, slice_get}
use Rattle.std.specs.List.{list_any}
use Rattle.csicodec_tokens.specs.{declared.param.CsiParam.CsiParam, declared.param.CsiParam.TheVariants.Integer, declared.param.CsiParam.TheVariants.P}
use Rattle.csicodec_tokens.specs.{Sequence.Seq}
use Rattle.csicodec_parser.specs.{declared.group.Group.Group, declared.group.Group.TheVariants.Whole, declared.group.Group.TheVariants.Styles, Cut.body}
use Rattle.csicodec_parser.specs.{Cut.IsStuck, Groups.group, Groups.is_byte, Groups.marked, Groups.Piece, Segments.Actions}
use Rattle.csicodec_actions.specs.Actions.{Action, Unspecified}
use Rattle.csicodec_terminal.specs.Regular.{filled, regular}

-- ---- where the table reads nothing, or less

abbrev pub is_unknown : Action → Bool
is_unknown (Unspecified params flag final) = true
is_unknown action = false

abbrev pub has_unknown : List Action → Bool
has_unknown actions = list_any is_unknown actions

-- a list of styles leaves its last parameter out, of which the table reads nothing: `1;` before m
abbrev pub is_open : Group → List CsiParam → Bool
is_open Styles list = is_byte 59 (slice_get list (length list - 1))
is_open g list = false

-- ---- lists that are cut: piece by piece, where an unknown one is told alone and passed over

-- the tokens in front of the n-th `;`, or of the end
abbrev pub up_to : ℕ → List CsiParam → ℕ
up_to n [] = 0
up_to n (t ∷ ts) =
    if is_byte 59 (Some t) then (if n == 1 then 0 else suc (up_to (n - 1) ts)) else suc (up_to n ts)

-- how many parameters a colour has that is said with `;`: its code, the kind, and three parts or one (xterm)
abbrev pub of_color : ℕ → ℕ
of_color kind = if kind == 2 then 5 else if kind == 5 then 3 else 2

-- how many parameters belong to the code at the front
abbrev pub belonging : List CsiParam → ℕ
belonging (Integer (pos n) ∷ P b ∷ Integer (pos kind) ∷ more) =
    if (n == 38 || (n == 48 || n == 58)) && b == 59 then of_color kind else 1
belonging list = 1

abbrev pub past_semicolon : List CsiParam → List CsiParam
past_semicolon [] = []
past_semicolon (t ∷ ts) = if is_byte 59 (Some t) then ts else t ∷ ts

-- what is behind k tokens, and behind the `;` directly after them
abbrev pub behind : ℕ → List CsiParam → List CsiParam
behind k rest = past_semicolon (drop k rest)

-- the front of k tokens is this action: a piece of the table, or an unknown code with what belongs to it
abbrev pub Step : Group → Bool → ℕ → List CsiParam → ℕ → Action → Type 0
Step g flag final rest k action =
    Piece g rest k action
    ⊎ (IsStuck g rest × (0 < length rest) × (k ≡ up_to (belonging rest) rest)
    × (action ≡ Unspecified (marked g (take k rest)) flag final))

abbrev pub Steps : Group → Bool → ℕ → List CsiParam → List Action → Type 0
Steps g flag final rest [] = rest ≡ []
Steps g flag final rest (action ∷ actions) =
    (k : ℕ) × Step g flag final rest k action × Steps g flag final (behind k rest) actions

-- a byte that stands in no such list: it is looked at whole before its first action
abbrev pub is_foreign : Group → CsiParam → Bool
is_foreign g (Integer z) = false
is_foreign Styles (P b) = not (b == 59 || b == 58)
is_foreign g (P b) = not (b == 59)

abbrev pub CutAnew : Group → List CsiParam → Bool → ℕ → List Action → Type 0
CutAnew g list flag final actions =
    MatchBool (list_any (is_foreign g) (body g list)) (actions ≡ Unspecified list flag final ∷ [])
    (Steps g flag final (filled (body g list)) actions)

-- ---- all lists

-- what the table reads of the regular list, if it reads that
abbrev pub known_or : List CsiParam → Bool → ℕ → List Action → List Action
known_or list flag final actions =
    if has_unknown actions then Unspecified list flag final ∷ [] else actions

abbrev pub Anew : Group → List CsiParam → Bool → ℕ → List Action → Type 0
Anew Whole list flag final actions =
    (second : List Action) × Actions (regular list final) flag final second
    × (actions ≡ known_or list flag final second)
Anew g list flag final actions = CutAnew g list flag final actions

-- These are the actions of the list as a terminal takes it: those of the table where it reads all, and else those of a second look.
abbrev pub Terminal : List CsiParam → Bool → ℕ → List Action → Type 0
Terminal list flag final actions =
    (first : List Action) × Actions list flag final first
    × MatchBool (has_unknown first || is_open (group list final) list)
    (Anew (group list final) list flag final actions) (actions ≡ first)

-- the bytes are one control sequence, and a terminal takes it for these actions
abbrev pub IsTakenFor : List ℕ → List Action → Type 0
IsTakenFor bytes actions = (list : List CsiParam) × (final : ℕ) × Seq bytes list final
    × Terminal list false final actions
