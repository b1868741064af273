use Rattle.std.proofs.Common.{◌≡◌, ◌++◌, length, drop}
use Rattle.std.specs.Option.{option_map}
use Rattle.csicodec_sequences.specs.Rows.{slot_values}
use Rattle.csicodec_sequences.proofs.row.read_slots.Given as goal

-- a value for each slot that is passed, and what the slots behind give completes them
abbrev pub invariant-loop-slot : goal.invariant-loop-slot
invariant-loop-slot l = record {
  count : length l.values.items ≡ l.slot-index;
  kept : slot_values l.slots l.fn.fields ≡ option_map (λ vs. l.values.items ++ vs) (slot_values (drop l.slot-index l.slots) l.fields);
}
