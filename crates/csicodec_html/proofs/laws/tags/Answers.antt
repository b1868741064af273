use Rattle.csicodec_html.proofs.MarkupBytes.{made_markup, page_markup}
use Rattle.csicodec_html.proofs.laws.tags.Goals as goal

pub returns : goal.returns
returns c = record { page = page_markup; made = made_markup }
