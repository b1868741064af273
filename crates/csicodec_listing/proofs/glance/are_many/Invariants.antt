use Rattle.csicodec_listing.proofs.Common.{◌≡◌, ◌+◌, ◌≤◌, length}
use Rattle.csicodec_listing.specs.Object.{most_values, values_in}
use Rattle.csicodec_listing.proofs.glance.are_many.Given as goal

-- the values up to here are counted
abbrev pub invariant-tokens : goal.invariant-tokens
invariant-tokens l = record {
  all : values_in l.initial.reader ≡ l.count + values_in l.reader;
  few : l.count ≤ most_values;
}

abbrev pub decreases-tokens : goal.decreases-tokens
decreases-tokens l = length l.reader
