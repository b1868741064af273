use Rattle.std.proofs.Common.{◌≡◌, ◌-◌, ◌<◌, ◌≤◌, ℕ, length, slice_index, true}
use Rattle.csicodec_spans.specs.{Private.TableBy.stays, declared.table.Mode.Mode}
use Rattle.csicodec_spans.proofs.staying.staying_in_osc.Given as goal

abbrev pub invariant-loop-at : goal.invariant-loop-at
invariant-loop-at l = record {
  within : l.at ≤ length l.bytes;
  stay : (k : ℕ) → k < l.at → stays Mode.Osc (slice_index l.bytes k) ≡ true;
}

abbrev pub decreases-loop-at : goal.decreases-loop-at
decreases-loop-at l = length l.bytes - l.at
