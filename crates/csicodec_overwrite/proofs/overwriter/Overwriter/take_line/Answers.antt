use Rattle.csicodec_overwrite.proofs.{Common.◌++◌, Common.◌∷◌, Common.[], Common.sym, Common.ap, Common.◌∙◌, Common.append_assoc, Common.plain, Common.turn}
use Rattle.csicodec_overwrite.proofs.{Common.end_of, Fronts.line_passes}
use Rattle.csicodec_overwrite.proofs.overwriter.Overwriter.take_line.Goals as goal

pub returns-clause-passes : goal.returns-clause-passes
returns-clause-passes c =
    let (returned, ends) = c.in-Some.ensures in
    let line = c.in_ok-front.front in
    let marking = c.self.inside.marking in
    let end = turn marking line.last plain in
    let bare = rw (← c.self.view_is) at c.requires.bare in
    let (front, text, split, f, out) = rw (c.stand.ensures.sets, c.sets-sets.ensures, ← bare.0) at c.in_ok-front.ensures.written in
    let after = rw (c.stand.ensures.sets, c.sets-sets.ensures, ← bare.0) at c.in_ok-front.ensures.bare in
    let blank = rw (← c.self.view_is) at c.requires.blank in
    rw (← c.self.view_is, blank, after, c.take.ensures) (record {
      front = front ++ end_of returned;
      text = text ++ (end ++ 10 ∷ []);
      split = split ∙ ap (λ t. front ++ t) ends ∙ sym (append_assoc front (end_of returned) c.in-Some.rest.now);
      passes = line_passes c.self.inside.reader bare.0 marking c.self.inside.pen front text line.last line.now returned f;
      out = rw (c.in_ok-push.ensures.items, c.in_ok-append_turn.ensures, c.plain.ensures, out) (simp append_assoc);
    })

pub append_front-requires-clause-bare : goal.append_front-requires-clause-bare
append_front-requires-clause-bare c = rw (c.stand.ensures.sets, c.sets-sets.ensures) (rw (← c.self.view_is) at c.requires.bare.0)

pub append_front-requires-clause-ascii : goal.append_front-requires-clause-ascii
append_front-requires-clause-ascii c = rw (c.stand.ensures.sets, c.sets-sets.ensures) (rw (← c.self.view_is) at c.requires.bare.1)
