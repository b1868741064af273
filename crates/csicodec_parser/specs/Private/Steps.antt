-- What the private steps of a run say to each other: the actions by a function that computes them. Nothing public rests on this
-- file: that it gives the actions of the segmentation is proved.
use Rattle.std.specs.Prelude.{ℤ, pred, slice_get, option_and_then, unwrap_or, ◌≡◌, ◌≤◌, ◌<◌, ◌+◌, ◌-◌, ◌*◌, ◌==◌, ◌∷◌, if◌then◌else◌}
use Rattle.csicodec_base.specs.FrontBy.{piece}
use Rattle.csicodec_parser.specs.Common.{ℕ, zero, suc, Bool, true, false, List, [], length, drop, Option, Some, None, CsiParam, Integer, P, Group, Whole, Styles, Modes, DecModes, CSI, Action, Sgr, Mode, Unspecified, device_of, changed, switched, boxed, whole}
use Rattle.csicodec_parser.specs.{declared.parser.Stage.Stage, declared.parser.Stage.TheVariants.Fresh, declared.parser.Stage.TheVariants.Going}
use Rattle.csicodec_parser.specs.{declared.parser.Stage.TheVariants.Failed, declared.parser.Boxed.Boxed, ActionOf.action_of, ActionOf.unspecified_of}
use Rattle.csicodec_parser.specs.{Groups.group, Groups.start, Groups.marked, Groups.is_odd, Groups.has_odd, Cut.body, Cut.IsRestAfter, Progress.Progress}
use Rattle.csicodec_parser.specs.{Segments.empty_action}
use Rattle.csicodec_actions.specs.{Actions.Device, Actions.Window, Kinds.read, Kinds.Dec, Kinds.Terminal}
use Rattle.csicodec_base.specs.declared.sgr.Sgr as sgr_type

abbrev pub styled : Option (sgr_type.Sgr × ℕ) → Option (Action × ℕ)
styled None = None
styled (Some p) = Some (Sgr p.0, p.1)

-- the number at the front
abbrev pub number_at : List CsiParam → Option ℤ
number_at (Integer z ∷ ts) = Some z
number_at _ = None

-- one token, of this action
abbrev pub one_token : {M : Type 0} → (M → Action) → Option M → Option (Action × ℕ)
one_token make None = None
one_token make (Some m) = Some (make m, 1)

-- the piece at the front, and its number of tokens
abbrev pub front : Group → List CsiParam → Option (Action × ℕ)
front Whole rest = None
front Styles rest = styled (piece rest)
front (Modes s) rest =
    one_token (λ m. Mode (switched s m)) (option_and_then (read Terminal) (number_at rest))
front (DecModes c) rest =
    one_token (λ m. Mode (changed c m)) (option_and_then (read Dec) (number_at rest))

-- what was found, as an action
abbrev pub found : Option (CSI × ℕ) → Option (Action × ℕ)
found None = None
found (Some p) = Some (action_of p.0, p.1)

abbrev pub is_semicolon : CsiParam → Bool
is_semicolon (Integer n) = false
is_semicolon (P b) = b == 59

-- k tokens, and the `;` directly after them
abbrev pub with_semicolon : ℕ → Option CsiParam → ℕ
with_semicolon k None = k
with_semicolon k (Some t) = if is_semicolon t then k + 1 else k

-- the block at the front: its action, and how many tokens it takes
abbrev pub block_of : List CsiParam → Option (Action × ℕ) → Option (Action × ℕ)
block_of rest None = None
block_of rest (Some p) = Some (p.0, with_semicolon p.1 (slice_get rest p.1))

abbrev pub block : Group → List CsiParam → Option (Action × ℕ)
block g rest = block_of rest (front g rest)

-- The actions of what follows `skip` more tokens of a block: one for each block, and `unknown` of a rest at whose front no piece stands.
abbrev pub segments_at : (List CsiParam → Action) → List CsiParam → (ℕ → List Action)
    → Option (Action × ℕ) → List Action
segments_at unknown rest after None = unknown rest ∷ []
segments_at unknown rest after (Some b) = b.0 ∷ after (pred b.1)

abbrev pub segments : Group → (List CsiParam → Action) → List CsiParam → ℕ → List Action
segments g unknown [] skip = []
segments g unknown (t ∷ ts) (suc skip) = segments g unknown ts skip
segments g unknown (t ∷ ts) zero =
    segments_at unknown (t ∷ ts) (segments g unknown ts) (block g (t ∷ ts))

-- the action of a rest that takes memory: that of a row, or else an unknown one, with what stands before the pieces ahead of it
abbrev pub rest_action : Group → List CsiParam → Bool → ℕ → Action
rest_action Whole rest flag final =
    unwrap_or (boxed rest final) (Unspecified (marked Whole rest) flag final)
rest_action g rest flag final = Unspecified (marked g rest) flag final

-- the action in a box, if memory wasn't refused
abbrev pub held : Boxed → Option Action
held (Boxed.Device d) = Some (Device (device_of d.value))
held (Boxed.Window w) = Some (Window w.value)
held (Boxed.Unspecified u) = Some (unspecified_of u.value)
held Boxed.Refused = None

-- the actions of what is left of a list that is cut
abbrev pub actions_after : Group → Bool → ℕ → List CsiParam → List Action
actions_after g flag final rest = segments g (λ l. rest_action g l flag final) rest 0

abbrev pub body_actions : Group → List CsiParam → Bool → ℕ → List CsiParam → List Action
body_actions g list flag final [] = empty_action g list flag final ∷ []
body_actions g list flag final (t ∷ ts) = actions_after g flag final (t ∷ ts)

abbrev pub cut_actions : Group → List CsiParam → Bool → ℕ → List Action
cut_actions g list flag final = if has_odd g list then Unspecified list flag final ∷ []
    else body_actions g list flag final (body g list)

abbrev pub actions_in : Group → List CsiParam → Bool → ℕ → List Action
actions_in Whole list flag final = unwrap_or (whole list final) (Unspecified list flag final) ∷ []
actions_in g list flag final = cut_actions g list flag final

-- all actions of a list before a final character
abbrev pub actions : List CsiParam → Bool → ℕ → List Action
actions list flag final = actions_in (group list final) list flag final

-- whether a token is there, and is an odd byte
abbrev pub is_odd_at : Group → Option CsiParam → Bool
is_odd_at g None = false
is_odd_at g (Some t) = is_odd g t

-- ---- what a stage of a run says

-- the actions still to come, after this many tokens of the list
abbrev pub left_at : Stage → Bool → ℕ → List CsiParam → ℕ → List Action
left_at Fresh flag final list passed = actions list flag final
left_at (Going g) flag final list passed = actions_after g flag final (drop passed list)
left_at Failed flag final list passed = []

-- the first call looks at the first token for the group, and may look at each token once for odd bytes
abbrev pub fresh_cost : Stage → ℕ
fresh_cost Fresh = 1
fresh_cost _ = 0

-- the group that a run goes by
abbrev pub GoesBy : Stage → List CsiParam → ℕ → Group → Type 0
GoesBy Fresh list final g = g ≡ group list final
GoesBy (Going h) list final g = g ≡ h
GoesBy Failed list final g = ⊥

-- where the next block begins
abbrev pub from_at : Stage → Group → ℕ → ℕ
from_at Fresh g passed = start g
from_at _ g passed = passed

-- nothing was read, or there are tokens left
abbrev pub CanGo : Stage → ℕ → ℕ → Type 0
CanGo Fresh passed len = Unit {0}
CanGo (Going g) passed len = passed < len
CanGo Failed passed len = ⊥

abbrev pub has_failed : Stage → Bool
has_failed Failed = true
has_failed _ = false

-- the next block stands from here to there
abbrev pub CutsOn : Group → List CsiParam → ℕ → ℕ → Type 0
CutsOn g list from to =
    (x : Action) × (block g (drop from list) ≡ Some (x, to - from)) × (from < to)

-- ---- what a step of a run says: of the list, how many tokens are passed before it and after it, and the looks before and after

-- by the group g it gives this action
pub record Acts (stage : Stage) (g : Group) (list : List CsiParam)
    (final from to before after : ℕ) (x : Action) : Type 0 where
  pub told : (flag : Bool) → left_at stage flag final list from ≡ x ∷ left_at (Going g) flag final list to
  pub cut : to < length list → CutsOn g list (from_at stage g from) to
  pub forward : from < length list → from < to
  pub pays : after + 115 * from + fresh_cost stage ≤ before + (1 + length list) * fresh_cost stage + 115 * to

-- none of the rules reads what is unread, so that it is one action, for which 10 looks a token are kept
pub record Leaves (stage : Stage) (g : Group) (list : List CsiParam)
    (final from to before after : ℕ) : Type 0 where
  pub told : (flag : Bool) → left_at stage flag final list from ≡ rest_action g (drop to list) flag final ∷ []
  pub pays : after + 115 * from + 10 * length list + fresh_cost stage
      ≤ before + (1 + length list) * fresh_cost stage + 115 * length list + 10 * to

-- all actions of the run's list
abbrev pub all_of : Progress → List Action
all_of p = actions p.list p.flag p.final

-- the answers given are a front of all, the looks are paid for by the tokens that are passed, and what is unread is the rest of a cut
abbrev pub Stands : Stage → Progress → Type 0
Stands Fresh p = (p.given ≡ 0) × (p.passed ≡ 0) × (p.looks ≡ 0)
Stands (Going g) p =
    (g ≡ group p.list p.final)
    × (drop p.given (all_of p) ≡ left_at (Going g) p.flag p.final p.list p.passed)
    × (p.looks ≤ 1 + length p.list + 115 * p.passed)
    × (p.passed < length p.list → IsRestAfter p.list p.final p.given (drop p.passed p.list))
    × (0 < p.given)
Stands Failed p = p.looks ≤ 1 + 116 * length p.list

pub record Sound (stage : Stage) (p : Progress) : Type 0 where
  pub within : p.passed ≤ length p.list
  pub stands : Stands stage p
