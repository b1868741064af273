-- The segmentation: the actions of a list before its final character.
use Rattle.std.specs.Prelude.{MatchBool, ◌≡◌, ◌⊎◌, ◌∷◌, ◌++◌}
use Rattle.csicodec_parser.specs.{Common.ℕ, Common.Bool, Common.List, Common.[], Common.CsiParam, Common.Group, Common.Action, Common.Sgr, Common.Unspecified}
use Rattle.csicodec_parser.specs.{Groups.group, Groups.marked, Groups.has_odd, Cut.body, Cut.Cut, Cut.IsStuck}
use Rattle.csicodec_actions.specs.Table.{Whole}
use Rattle.csicodec_base.specs.declared.sgr.Sgr.TheVariants as sgr

-- what is left after the last piece is one unknown action, unless nothing is left; among private modes it keeps its `?`
abbrev pub remainder : Group → List CsiParam → Bool → ℕ → List Action
remainder g [] flag final = []
remainder g (t ∷ ts) flag final = Unspecified (marked g (t ∷ ts)) flag final ∷ []

-- the actions of a cut that can't be continued, and then what is left
pub record Segmented (g : Group) (list : List CsiParam) (flag : Bool) (final : ℕ)
    (actions : List Action) : Type 0 where
  pub pieces : List Action
  pub rest : List CsiParam
  pub cut : Cut g list pieces rest
  pub stuck : IsStuck g rest
  pub all : actions ≡ pieces ++ remainder g rest flag final

-- a list with nothing to cut: before plain m it resets, and else it is unknown
abbrev pub empty_action : Group → List CsiParam → Bool → ℕ → Action
empty_action Group.Styles list flag final = Sgr sgr.Reset
empty_action _ list flag final = Unspecified list flag final

-- the actions of a list of which this is to be cut
abbrev pub BodyActions : Group → List CsiParam → List CsiParam → Bool → ℕ → List Action → Type 0
BodyActions g list [] flag final actions = actions ≡ empty_action g list flag final ∷ []
BodyActions g list (t ∷ ts) flag final actions = Segmented g (t ∷ ts) flag final actions

-- an odd byte makes the whole list unknown
abbrev pub CutActions : Group → List CsiParam → Bool → ℕ → List Action → Type 0
CutActions g list flag final actions =
    MatchBool (has_odd g list) (actions ≡ Unspecified list flag final ∷ [])
    (BodyActions g list (body g list) flag final actions)

-- no row reads the list
abbrev pub IsUnread : List CsiParam → ℕ → Type 0
IsUnread list final = (action : Action) → Whole list final action → ⊥

-- a list that is read whole is the one action of its row, or unknown
abbrev pub WholeActions : List CsiParam → Bool → ℕ → List Action → Type 0
WholeActions list flag final actions =
    ((action : Action) × Whole list final action × (actions ≡ action ∷ []))
    ⊎ (IsUnread list final × (actions ≡ Unspecified list flag final ∷ []))

abbrev pub ActionsIn : Group → List CsiParam → Bool → ℕ → List Action → Type 0
ActionsIn Group.Whole list flag final actions = WholeActions list flag final actions
ActionsIn g list flag final actions = CutActions g list flag final actions

-- these are the actions of the list before the final character
abbrev pub Actions : List CsiParam → Bool → ℕ → List Action → Type 0
Actions list flag final actions = ActionsIn (group list final) list flag final actions
