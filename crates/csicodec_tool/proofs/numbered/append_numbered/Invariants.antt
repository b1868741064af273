use Rattle.std.proofs.Common.{◌≡◌, ◌++◌, length}
use Rattle.csicodec_tool.specs.Numbered.{behind, numbered}
use Rattle.csicodec_tool.proofs.numbered.append_numbered.Given as goal

-- with what is written of the rest it is what is written of all
abbrev pub invariant-loop-byte : goal.invariant-loop-byte
invariant-loop-byte l = record {
  text : l.out.items ++ numbered l.now l.rest ≡ l.initial.out.items ++ numbered l.fn.place l.bytes;
  place : behind l.now l.rest ≡ behind l.fn.place l.bytes;
}

abbrev pub decreases-loop-byte : goal.decreases-loop-byte
decreases-loop-byte l = length l.rest
