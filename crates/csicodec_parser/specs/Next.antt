-- One call of `next`, and of `next_ref`.
use Rattle.std.specs.{Prelude.slice_get, Prelude.unwrap_or, Prelude.Ok, Prelude.Err, Prelude.Result, Prelude.◌≡◌, Prelude.◌+◌, Prelude.◌*◌, Prelude.◌≤◌}
use Rattle.std.specs.{Prelude.◌∷◌, declared.alloc.AllocError.AllocError}
use Rattle.csicodec_parser.specs.Common.{ℕ, Bool, true, false, List, length, Option, Some, None, P, CSI, Action, TakesMemory, Unspecified, boxed}
use Rattle.csicodec_parser.specs.{declared.parser.ActionRef.ActionRef, ActionOf.action_of, Progress.Progress, Progress.ActionsOf, Progress.HasEnded}

-- What `next` answers, all actions of the list being these.
abbrev pub Answers : List Action → Progress → Option (Result CSI AllocError) → Progress → Type 0
-- nothing is left, or memory was refused before; and nothing changes
Answers actions old None new = HasEnded old × (new ≡ old)
-- the next action
Answers actions old (Some (Ok action)) new =
    (old.failed ≡ false) × (slice_get actions old.given ≡ Some (action_of action))
    × (new.given ≡ old.given + 1) × (new.failed ≡ false)
-- memory was refused, where the next action takes some
Answers actions old (Some (Err e)) new =
    (old.failed ≡ false) × ((action : Action) × (slice_get actions old.given ≡ Some action)
    × TakesMemory action) × (new.given ≡ old.given) × (new.failed ≡ true)

-- the run stays one over its list, answers the next action, and the looks stay within their bound
pub record Nexts (old : Progress) (answer : Option (Result CSI AllocError))
    (new : Progress) : Type 0 where
  pub list : new.list ≡ old.list
  pub flag : new.flag ≡ old.flag
  pub final : new.final ≡ old.final
  pub answers : (actions : List Action) → ActionsOf old actions → Answers actions old answer new
  pub counted : old.looks ≤ new.looks
  pub cheap : new.looks ≤ 128 * (length new.list + 1)

-- the action that lends its tokens so, with the flag and the final character of the list
abbrev pub IsRef : ActionRef → Bool → ℕ → Action → Type 0
IsRef (ActionRef.Small csi) flag final action = action ≡ action_of csi
IsRef (ActionRef.Whole list) flag final action =
    action ≡ unwrap_or (boxed list.now final) (Unspecified list.now flag final)
IsRef (ActionRef.Unknown list) flag final action = action ≡ Unspecified list.now flag final
IsRef (ActionRef.UnknownMode list) flag final action = action ≡ Unspecified (P 63 ∷ list.now) flag final

-- What `next_ref` answers, all actions of the list being these.
abbrev pub AnswersRef : List Action → Progress → Option ActionRef → Progress → Type 0
AnswersRef actions old None new = HasEnded old × (new ≡ old)
AnswersRef actions old (Some r) new =
    (old.failed ≡ false) × ((action : Action) × (slice_get actions old.given ≡ Some action)
    × IsRef r old.flag old.final action) × (new.given ≡ old.given + 1) × (new.failed ≡ false)

pub record NextsRef (old : Progress) (answer : Option ActionRef) (new : Progress) : Type 0 where
  pub list : new.list ≡ old.list
  pub flag : new.flag ≡ old.flag
  pub final : new.final ≡ old.final
  pub answers : (actions : List Action) → ActionsOf old actions → AnswersRef actions old answer new
  pub counted : old.looks ≤ new.looks
  pub cheap : new.looks ≤ 128 * (length new.list + 1)
