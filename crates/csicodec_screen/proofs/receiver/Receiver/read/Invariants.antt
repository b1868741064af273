use Rattle.std.proofs.Common.{◌≡◌, ◌<◌, ◌++◌, ℕ, List}
use Rattle.csicodec_events.specs.Events.{IsMet, left}
use Rattle.csicodec_screen.specs.{Feeds.GoesTo, Private.Reads.reading}
use Rattle.csicodec_screen.proofs.receiver.Receiver.read.Given as goal

-- some events were read
abbrev pub invariant-loop-told : goal.invariant-loop-told
invariant-loop-told l = record {
  limit : 0 < l.events.limit;
  met : IsMet l.events l.rest;
  same : l.events.limit ≡ l.fn.events.limit;
  parts : (front : List ℕ) × (l.bytes ≡ front ++ l.rest);
  goes : GoesTo (reading l.fn.events l.fn.self.string.items l.bytes) l.fn.self.screen (reading l.events l.self.string.items l.rest) l.self.screen;
}

abbrev pub decreases-loop-told : goal.decreases-loop-told
decreases-loop-told l = left l.events l.rest
