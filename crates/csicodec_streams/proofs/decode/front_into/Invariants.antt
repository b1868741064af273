use Rattle.std.proofs.Common.{List, ◌++◌, length}
use Rattle.csicodec_actions.specs.Actions.{Action}
use Rattle.csicodec_streams.specs.Private.Steps.{DecodesFront}
use Rattle.csicodec_streams.proofs.decode.front_into.Given as goal

-- the bytes up to here are sequences, and their actions have gone into the sink
abbrev pub invariant-loop-alloc : goal.invariant-loop-alloc
invariant-loop-alloc g l = (actions : List Action) × DecodesFront l.bytes l.parameters_truncated l.rest actions
    × ((before : List Action) → g.S.Sink.holds l.initial.sink before → g.S.Sink.holds l.sink (before ++ actions))

abbrev pub decreases-loop-alloc : goal.decreases-loop-alloc
decreases-loop-alloc g l = length l.rest
