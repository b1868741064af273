use Rattle.std.proofs.Common.{length}
use Rattle.csicodec_keys.proofs.writing.+append_text.Given as goal

abbrev pub decreases-append_text : goal.decreases-append_text
decreases-append_text l = length l.text.now
