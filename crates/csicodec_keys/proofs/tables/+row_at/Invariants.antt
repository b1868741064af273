use Rattle.std.proofs.Common.{length}
use Rattle.csicodec_keys.proofs.tables.+row_at.Given as goal

abbrev pub decreases-row_at : goal.decreases-row_at
decreases-row_at l = length l.rows.now
