use Rattle.std.proofs.Common.{length}
use Rattle.csicodec_events.proofs.input.+characters.Given as goal

abbrev pub decreases-characters : goal.decreases-characters
decreases-characters l = length l.bytes.now
