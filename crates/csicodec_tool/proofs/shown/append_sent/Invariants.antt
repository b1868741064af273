use Rattle.std.specs.{Prelude.◌≡◌, Prelude.◌++◌, Prelude.length, List.flat_map}
use Rattle.csicodec_tool.specs.Shown.{by_driver}
use Rattle.csicodec_tool.proofs.shown.append_sent.Given as goal

abbrev pub invariant-loop-byte : goal.invariant-loop-byte
invariant-loop-byte l = l.out.items ++ flat_map by_driver l.rest ≡ l.initial.out.items ++ flat_map by_driver l.bytes

abbrev pub decreases-loop-byte : goal.decreases-loop-byte
decreases-loop-byte l = length l.rest
