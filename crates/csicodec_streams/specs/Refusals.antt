-- What a decoding and a run over a stream answer.
use Rattle.std.specs.Prelude.{ℕ, Bool, false, List, Option, IfSome}
use Rattle.csicodec_tokens.specs.{declared.param.CsiParam.CsiParam, declared.reader.ReadError.ReadError, Sequence.Reads}
use Rattle.csicodec_streams.specs.Decoding.{Decodes, FaultAt}
use Rattle.csicodec_transform.specs.{declared.error.DecodeError.DecodeError, declared.error.RunError.RunError}
use Rattle.csicodec_actions.specs.Actions.{Action}

-- why these bytes may be refused so: their own fault, at which they have no actions; memory only behind a sequence
abbrev pub RefusesDecode : List ℕ → Bool → DecodeError → Type 0
RefusesDecode bytes flag (DecodeError.Read start error) = FaultAt bytes start error
    × ((actions : List Action) → Decodes bytes flag actions → ⊥)
RefusesDecode bytes flag DecodeError.Memory = (list : List CsiParam) × (final : ℕ)
    × (rest : List ℕ) × Reads bytes list final rest

-- why a run over this input, if its bytes are known, may end so
abbrev pub RefusesRun : Option (List ℕ) → RunError → Type 0
RefusesRun input (RunError.Decode (DecodeError.Read start error)) =
    IfSome input (λ bytes. RefusesDecode bytes false (DecodeError.Read start error))
RefusesRun input (RunError.Decode DecodeError.Memory) = ⊥
RefusesRun input _ = Unit {0}

-- the refusal of the sequence that begins here
abbrev pub refusal_of : ℕ → ReadError → DecodeError
refusal_of start ReadError.Memory = DecodeError.Memory
refusal_of start error = DecodeError.Read start error
