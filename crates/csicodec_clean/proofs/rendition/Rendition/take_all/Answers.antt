use Rattle.std.proofs.Common.{◌∙◌, ◌++◌, ◌∷◌, [], List, Option, ap, sym, subst, map, append_assoc}
use Rattle.csicodec_actions.specs.Actions.{Action}
use Rattle.csicodec_parser.specs.ActionOf.{action_of}
use Rattle.csicodec_clean.specs.{Private.Notes.Adds, Styled.rendition_by, Styled.styles_by, declared.saving.Effect.Effect}
use Rattle.csicodec_clean.proofs.Rendered.{adds_on}
use Rattle.csicodec_clean.proofs.rendition.Rendition.take_all.Goals as goal

pub loop-action-preserved : goal.loop-action-preserved
loop-action-preserved c =
    let p = c.args.passing in
    let a = action_of c.in-Some.action.now in
    let (done, all, adds) = c.loop-action.invariant in
    let mid = c.loop-action.self in
    let between = c.loop-action.out.items in
    let last = c.take.new.self in
    let new = c.take.new.out.items in
    let one = subst (λ (e : Option Effect). Adds mid last between new (λ r. styles_by p r e) (λ r. rendition_by p r e)) c.action_effect.ensures c.in_ok-take.ensures in (
      done ++ a ∷ [],
      all ∙ ap (λ (l : List Action). done ++ l) (ap (map action_of) c.in-Some.ensures.cases.0) ∙ sym (append_assoc done (a ∷ []) (map action_of c.in-Some.others.now)),
      adds_on p done a c.args.self.now mid last c.args.out.now.items between new adds one,
    )
