use Rattle.std.proofs.Common.{◌∙◌, [], ◌∷◌, sym, subst}
use Rattle.csicodec_clean.proofs.Told.{front_in}
use Rattle.csicodec_lines.specs.Stream.{Passes}
use Rattle.csicodec_lines.proofs.{Taken.BeginsWithEnd, Taken.begins_with_end, Taken.whole, Common.adds_on, Common.is_within}
use Rattle.csicodec_lines.proofs.lines.Lines.take_line.Goals as goal

pub take_within-requires : goal.take_within-requires
take_within-requires g c = rw c.split_front.ensures.front (front_in is_within c.args.bytes.now)

pub take_end-requires : goal.take_end-requires
take_end-requires g c = subst BeginsWithEnd (sym c.split_front.ensures.rest ∙ c.in-Some.ensures.cases.0) (begins_with_end c.args.bytes.now)

pub returns-in_default-clause-taken : goal.returns-in_default-clause-taken
returns-in_default-clause-taken g c =
    (c.split_front.result.0.now, whole _ _ _ c.split_front.ensures.front c.split_front.ensures.rest, c.in_ok-take_within.ensures)

pub returns-then-not-branch-clause-taken : goal.returns-then-not-branch-clause-taken
returns-then-not-branch-clause-taken g c =
    adds_on (Passes g.R.Anew.begins g.R.Rule.gives g.R.Rule.closes) _ _ _ _ _ _ _ _ _
    (c.split_front.result.0.now, whole _ _ _ c.split_front.ensures.front c.split_front.ensures.rest, c.in_ok-take_within.ensures)
    (c.in-Some.end.now ∷ [], c.in-Some.ensures.cases.0, c.in_ok-take_end.ensures.taken)

pub returns-clause-taken : goal.returns-clause-taken
returns-clause-taken g c =
    let Step = Passes g.R.Anew.begins g.R.Rule.gives g.R.Rule.closes in
    adds_on Step _ _ _ _ _ _ _ _ _
    (c.split_front.result.0.now, whole _ _ _ c.split_front.ensures.front c.split_front.ensures.rest, c.in_ok-take_within.ensures)
    (adds_on Step _ _ _ _ _ _ _ _ _ (c.in-Some.end.now ∷ [], c.in-Some.ensures.cases.0, c.in_ok-take_end.ensures.taken) c.in_ok-behind.ensures)
