use Rattle.csicodec_overwrite.proofs.Same.{same_page}
use Rattle.csicodec_overwrite.proofs.laws.same_page.Goals as goal

pub returns : goal.returns
returns c = same_page
