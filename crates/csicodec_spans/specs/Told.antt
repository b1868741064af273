-- What the machine tells, as the parts that the table of modes cuts.
use Rattle.std.specs.Prelude.{ℕ, ◌≡◌, ◌+◌, ◌<◌, List, [], ◌∷◌, ◌++◌, length, map, true}
use Rattle.csicodec_tokens.specs.Fault.{IsBody}
use Rattle.csicodec_spans.specs.Machine.{State, Open, Escape, EscapeIntermediate, CsiParam, Event, Print, Execute, CsiDispatch, EscDispatch, Hook, Put, Unhook, Ignore, Told, tell, in_turn, walk, collected}
use Rattle.csicodec_spans.specs.{declared.table.Kind.Kind, declared.table.Mode.Mode, Table.within, Table.intermediates, Parts.Part, Parts.part}
use Rattle.csicodec_spans.specs.{Parts.AreFirstParts, Parts.IsUnsure}

-- the part that an event tells
abbrev pub part_of : Event → Part
part_of (Print b) = part Kind.Text (b ∷ [])
part_of (Execute b) = part Kind.Text (b ∷ [])
part_of (CsiDispatch bytes) = part Kind.Csi bytes
part_of (EscDispatch bytes) = part Kind.Esc bytes
part_of (Hook b) = part Kind.Str (27 ∷ b ∷ [])
part_of (Put bytes) = part Kind.Str bytes
part_of (Unhook bytes) = part Kind.Str bytes
part_of (Ignore bytes) = part Kind.Other bytes

-- what was open where the control came that is collected, or is open, where none is
abbrev pub mode_of : State → Mode
mode_of (Open m) = m
mode_of (Escape m) = m
mode_of (EscapeIntermediate m i) = m
mode_of (CsiParam m body) = m

-- a state in which the machine may be: what it has collected of a sequence is the beginning of one, and not too long
abbrev pub IsState : ℕ → State → Type 0
IsState limit (EscapeIntermediate m i) = within intermediates i ≡ true
IsState limit (CsiParam m body) = IsBody body × (length body + 2 < limit)
IsState limit _ = Unit {0}

-- What is told of bytes that come in a state is what the table cuts of them, behind what is collected: the parts in front, and all
-- that can be cut. What is left is collected, and the mode there is that of the state.
pub record TellsParts (limit : ℕ) (s : State) (bytes : List ℕ) (t : Told) : Type 0 where
  pub parts : AreFirstParts limit (mode_of s) (collected s ++ bytes) (map part_of t.events) (collected t.to) (mode_of t.to)
  pub unsure : IsUnsure limit (mode_of t.to) (collected t.to)
  pub state : IsState limit t.to

-- In a mode in which nothing is collected, these parts in front of bytes are told, one event for each, and what is behind them is told as if
-- the stream began there.
pub record TellsFront (limit : ℕ) (m : Mode) (bytes : List ℕ) (parts : List Part) (rest : List ℕ) (after : Mode) : Type 0 where
  pub events : List Event
  pub each : map part_of events ≡ parts
  pub goes : walk limit (Open m) bytes ≡ in_turn (tell events (Open after)) (walk limit (Open after) rest)
