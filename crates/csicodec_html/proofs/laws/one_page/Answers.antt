use Rattle.csicodec_html.proofs.Paired.{one_page}
use Rattle.csicodec_html.proofs.laws.one_page.Goals as goal

pub returns : goal.returns
returns c = one_page
