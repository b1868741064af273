-- Which values are read back from their own texts, said by their fields.
use Rattle.csicodec_tokens.specs.Sequence.{IsFinal, Spellable}
use Rattle.csicodec_parser.specs.Common.{ℕ, List, Bool, true, length, Option, None, Some, CsiParam, Group, Action, Sgr, Unspecified}
use Rattle.csicodec_parser.specs.{Cut.body, Cut.IsStuck, Groups.group, Groups.has_odd, Segments.IsUnread}
use Rattle.std.specs.Prelude.{◌≡◌, ◌⊎◌, ◌<◌}
use Rattle.csicodec_actions.specs.{Written.AllGood, Written.Written, Special.IsNeverRead, Table.written}
use Rattle.csicodec_base.specs.declared.sgr.Font.{Font}
use Rattle.csicodec_base.specs.declared.sgr.Sgr as sgr_type
use Rattle.csicodec_base.specs.declared.sgr.Sgr.TheVariants as sgr

-- ---- attributes

-- all, but of the alternative fonts only the nine that have a code
abbrev pub IsCanonicalSgr : sgr_type.Sgr → Type 0
IsCanonicalSgr (sgr.Font (Font.Alternate n)) = (0 < n) × (n < 10)
IsCanonicalSgr s = Unit {0}

-- ---- what is unknown

-- an odd byte is in the list, or no piece stands where the first should
abbrev pub IsUncut : Group → List CsiParam → Type 0
IsUncut g list = (has_odd g list ≡ true) ⊎ IsStuck g (body g list)

-- none of the rules of the group reads even the front of the list
abbrev pub IsUnknownIn : Group → List CsiParam → ℕ → Type 0
IsUnknownIn Group.Whole list final = IsUnread list final
IsUnknownIn Group.Styles list final = IsUncut Group.Styles list × (0 < length list)
IsUnknownIn g list final = IsUncut g list

-- the flag is the same, a sequence can have the list and the final, and none of the rules reads it
pub record IsCanonicalUnknown (params : List CsiParam) (own flag : Bool) (final : ℕ) : Type 0 where
  pub same_flag : own ≡ flag
  pub spellable : Spellable params
  pub ends : IsFinal final
  pub unknown : IsUnknownIn (group params final) params final

-- ---- all values

-- each value that the action is written with is read as itself, and so is the action
abbrev pub IsCanonicalWritten : Action → Option Written → Type 0
IsCanonicalWritten a None = ⊥
IsCanonicalWritten a (Some w) = AllGood w.items × ¬ IsNeverRead a

-- where the bytes are read with this flag
abbrev pub Canonical : Action → Bool → Type 0
Canonical (Sgr s) flag = IsCanonicalSgr s
Canonical (Unspecified params own final) flag = IsCanonicalUnknown params own flag final
Canonical a flag = IsCanonicalWritten a (written a)

-- what none of the rules reads
abbrev pub IsUnspecified : Action → Type 0
IsUnspecified (Unspecified params own final) = Unit {0}
IsUnspecified a = ⊥
