use Rattle.std.proofs.Common.{append_assoc}
use Rattle.csicodec_clean.proofs.{Common.longest, Chunks.ends_by}
use Rattle.csicodec_clean.proofs.whole.clean_whole.Goals as goal

pub returns : goal.returns
returns g c =
    let (appended, out, goes, front, last) = rw (c.new-held.ensures.items, c.first.ensures) at c.in_ok-_rest.ensures.goes in
    let (close, closes, longer) = c.in_ok-close.ensures in
    let ends = ends_by g.T.Rule.gives g.T.Rule.closes longest c.args.rule.now c.args.bytes.now appended close _ goes c.in_ok-_rest.ensures.unsure closes in
    rw (longer, c.in_ok-append_shown.ensures, out, c.new-out.ensures.items, c.deref.ensures.value, append_assoc) ends
