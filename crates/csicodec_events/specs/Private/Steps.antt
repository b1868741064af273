-- What one step of a stream promises to the next.
use Rattle.std.specs.Prelude.{ℕ, ◌≡◌, ◌<◌, Option, None, Some, false, List, [], ◌∷◌, ◌++◌, take, drop}
use Rattle.csicodec_tokens.specs.declared.param.CsiParam.{CsiParam}
use Rattle.csicodec_events.specs.{declared.event.Events.Events, declared.event.Event.Event, Events.IsMet, Events.IsTold, Events.Waits, Events.is_passed}
use Rattle.csicodec_events.specs.{Events.left}

-- an event was told of the first bytes, so many
pub record HasFound (e : Events) (bytes : List ℕ) (event : Event) (n : ℕ) (list : List CsiParam)
    (after : Events) : Type 0 where
  pub tells : IsTold event e bytes (take n bytes) (drop n bytes) list after
  pub progress : left after (drop n bytes) < left e bytes
  pub again : IsMet after (drop n bytes)
  pub limit : after.limit ≡ e.limit

-- none was
pub record HasWaited (e : Events) (bytes : List ℕ) (after : Events) : Type 0 where
  pub waits : Waits e bytes after
  pub again : (more : List ℕ) → IsMet after (bytes ++ more)
  pub limit : after.limit ≡ e.limit

-- the byte where a sequence stops, if it doesn't stop where the bytes end
abbrev pub StandsAt : Option ℕ → List ℕ → Type 0
StandsAt None behind = behind ≡ []
StandsAt (Some b) behind = (is_passed b ≡ false) × ((more : List ℕ) × (behind ≡ b ∷ more))
