use Rattle.csicodec_lines.proofs.{Written.appends, Written.appends_none, Written.appends_on, Places.finds_span, Common.longest, Common.Finds}
use Rattle.csicodec_lines.proofs.finder.append_places.Goals as goal

pub loop-cut-init : goal.loop-cut-init
loop-cut-init c = appends_none Finds _ c.args.out.now.items

pub loop-cut-preserved : goal.loop-cut-preserved
loop-cut-preserved c =
    let l = c.loop-cut in
    let cut = c.in-Some.cut in
    let found = c.in-Some.ensures.cut in
    let (more, finds, out) = rw c.read_as-kind.ensures at c.in_ok-take.ensures in
    rw c.title_behind.ensures
    (appends_on Finds _ _ _ _ _ _ l.invariant
    (appends Finds longest (l.search, l.titled) _ l.mode cut.mode l.rest.now cut.rest.now l.out.items _ found.parts found.first
    (more, finds_span l.titled l.search c.take.new.self cut.span.kind cut.span.bytes.now more found.parts found.span finds, out)))
