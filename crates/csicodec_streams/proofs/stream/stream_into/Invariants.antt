use Rattle.std.proofs.Common.{◌≡◌, false, ℕ, List, ◌++◌, ◌+◌, ◌-◌, ◌^◌, length}
use Rattle.std.specs.Io.KnownBytes.{Consumes}
use Rattle.csicodec_actions.specs.{Actions.Action, Table.texts}
use Rattle.csicodec_streams.specs.{Known.IsNormal, Private.Steps.DecodesFront}
use Rattle.csicodec_transform.specs.Known.{AreKnown}
use Rattle.csicodec_streams.proofs.stream.stream_into.Given as goal

-- what was read decodes up to what is held, and the texts of its actions are out; what is kept is known
abbrev pub invariant-chunks : goal.invariant-chunks
invariant-chunks g l = (more : List ℕ) × (actions : List Action) × Consumes (g.R.Read.remaining l.initial.input) (g.R.Read.remaining l.input) more
    × DecodesFront (l.fn.read.items ++ more) false l.held.items actions ×
    (l.sink.bytes ≡ texts actions) ×
    (l.start + length l.held.items ≡ length (l.fn.read.items ++ more)) × AreKnown IsNormal
    l.memo.slots.items

abbrev pub decreases-chunks : goal.decreases-chunks
decreases-chunks g l = 2 ^ 63 - (l.start + length l.held.items)
