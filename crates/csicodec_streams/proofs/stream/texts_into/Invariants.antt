use Rattle.std.proofs.Common.{◌≡◌, false, List, ◌++◌, length}
use Rattle.csicodec_actions.specs.{Actions.Action, Table.texts}
use Rattle.csicodec_streams.specs.{Known.IsNormal, Private.Steps.DecodesFront}
use Rattle.csicodec_transform.specs.Known.{AreKnown}
use Rattle.csicodec_streams.proofs.stream.texts_into.Given as goal

-- the bytes up to here are sequences, and the texts of their actions are out; what is kept is known
abbrev pub invariant-loop-alloc : goal.invariant-loop-alloc
invariant-loop-alloc l = (actions : List Action) × DecodesFront l.bytes false l.rest actions
    × ((before : List Action) → l.initial.sink.bytes ≡ texts before → l.sink.bytes ≡ texts (before ++ actions)) × AreKnown IsNormal l.memo.slots.items

abbrev pub decreases-loop-alloc : goal.decreases-loop-alloc
decreases-loop-alloc l = length l.rest
