use Rattle.csicodec_html.proofs.Paired.{text_stays}
use Rattle.csicodec_html.proofs.laws.text_stays.Goals as goal

pub returns : goal.returns
returns c = text_stays
