use Rattle.csicodec_overwrite.proofs.Common.{[], ◌∷◌, refl, IsPlainByte, AllByRecursion, IsShown, all_both, all_weaker, encoded, is_shown, written}
use Rattle.csicodec_overwrite.proofs.{Fronts.lines_pass, Written.none_taken}
use Rattle.csicodec_overwrite.proofs.overwriter.Overwriter.take_lines.Goals as goal

pub returns-clause-passes : goal.returns-clause-passes
returns-clause-passes c =
    let now = c.self.inside in
    let lines = c.in-Some.lines.now in
    let bare = rw (← c.self.view_is) at c.requires in
    let blank = c.is_blank.ensures c.if-is_blank.true in
    let puts = rw c.shows_looks.ensures at (c.puts_plain.ensures c.if-puts_plain.true) in
    let (front, ends, split, plains, few) = c.in-Some.ensures in
    let all : AllByRecursion IsPlainByte lines = rw ends (all_both IsPlainByte front (10 ∷ []) plains (refl, tt)) in
    rw (← c.self.view_is, blank, c.take.ensures) (record {
      front = lines;
      text = written now.marking lines;
      split = split;
      passes = lines_pass now.reader bare.0 bare.1 now.marking now.pen c.args.bytes.now lines c.in-Some.rest.now puts c.in-Some.ensures;
      out = c.in_ok-append_written.ensures lines (all_weaker IsPlainByte IsShown is_shown lines all) (encoded lines all);
    })

pub returns-2-clause-passes : goal.returns-2-clause-passes
returns-2-clause-passes c = none_taken c.args.self.now c.args.bytes.now c.args.out.now.items c.requires.0
