use Rattle.std.proofs.Common.{◌≡◌, drop, length}
use Rattle.csicodec_sequences.specs.Known.{first_reading, rows_of}
use Rattle.csicodec_sequences.proofs.known.first_known.Given as goal

-- no row that is passed reads the list
abbrev pub invariant-loop-index : goal.invariant-loop-index
invariant-loop-index l = record {
  end : l.index-end ≡ length l.forms;
  first : first_reading (rows_of l.forms l.slots) l.params l.control ≡ first_reading (rows_of (drop l.index l.forms) (drop l.index l.slots)) l.params l.control;
}
