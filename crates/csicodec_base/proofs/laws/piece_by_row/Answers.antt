use Rattle.csicodec_base.proofs.Table.{piece_by_row}
use Rattle.csicodec_base.proofs.laws.piece_by_row.Goals as goal

pub returns : goal.returns
returns c = piece_by_row
