use Rattle.csicodec_lines.proofs.Places.{all_places}
use Rattle.csicodec_lines.proofs.laws.places.Goals as goal

pub returns : goal.returns
returns c = all_places
