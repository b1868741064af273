use Rattle.csicodec_lines.proofs.Places.{pieces}
use Rattle.csicodec_lines.proofs.laws.pieces.Goals as goal

pub returns : goal.returns
returns c = pieces
