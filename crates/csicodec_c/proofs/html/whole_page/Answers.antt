use Rattle.std.proofs.Common.{append_assoc, rules}
use Rattle.csicodec_c.proofs.html.whole_page.Goals as goal

pub returns : goal.returns
returns c =
    let (title, is, made) = c.in_ok-page.ensures in
    (title, is, search (rules, append_assoc))
