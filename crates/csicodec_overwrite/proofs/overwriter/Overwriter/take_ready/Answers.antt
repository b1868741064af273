use Rattle.csicodec_overwrite.proofs.{Common.cells_of, Common.ended, Common.end_of, Fronts.end_passes, Written.front_on}
use Rattle.csicodec_overwrite.proofs.overwriter.Overwriter.take_ready.Goals as goal

pub returns-in-Some-clause-passes : goal.returns-in-Some-clause-passes
returns-in-Some-clause-passes c =
    let now = c.self.inside in
    let bare = rw (← c.self.view_is) at c.requires in
    let (returned, ends) = c.in-Some.ensures in
    rw (← c.self.view_is, c.in_ok-end.ensures.none, c.take.ensures) (record {
      front = end_of returned;
      text = ended now.marking (cells_of now.line);
      split = ends;
      passes = end_passes now.reader bare now.marking now.pen now.line returned;
      out = c.in_ok-end.ensures.text;
    })

pub returns-clause-passes : goal.returns-clause-passes
returns-clause-passes c =
    front_on (rw c.in-Some-2.is at c.in_ok-rest.ensures.passes) c.in_ok-far.ensures.passes
