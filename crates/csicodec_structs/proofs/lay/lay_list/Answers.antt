use Rattle.std.proofs.Common.{◌∙◌, refl, List, false}
use Rattle.csicodec_actions.specs.Actions.{Action}
use Rattle.csicodec_parser.specs.Progress.{begun}
use Rattle.csicodec_structs.specs.Next.{Lays}
use Rattle.csicodec_structs.proofs.{Laid.lays_none, Running.given_all, Running.given_more, Running.lent_is, Running.not_failed, Running.same_list}
use Rattle.csicodec_structs.proofs.lay.lay_list.Goals as goal

pub loop-action-init : goal.loop-action-init
loop-action-init c = rw c.parse-run.ensures (record {
  list = refl;
  flag = refl;
  final = refl;
  going = refl;
  lays = λ all of. lays_none c.args.actions.now c.args.params.now;
})

pub loop-action-preserved : goal.loop-action-preserved
loop-action-preserved c =
    let inv = c.loop-action.invariant in
    let old = c.loop-action.run in
    let steps = c.next_ref.ensures.next in
    let some = c.segmentation.ensures.some in
    record {
      list = steps.list ∙ inv.list;
      flag = steps.flag ∙ inv.flag;
      final = steps.final ∙ inv.final;
      going = not_failed old c.next_ref.new.self c.next_ref.result c.in-Some.action some.0 steps c.in-Some.is (rw (inv.list, inv.flag, inv.final) some.1);
      lays = given_more old c.next_ref.new.self c.next_ref.result c.in-Some.action
          (λ (all : List Action). Lays c.args.actions.now c.loop-action.actions c.args.params.now c.loop-action.params c.loop-action.count all)
          (λ (all : List Action). Lays c.args.actions.now c.lay_ref.new.actions c.args.params.now c.lay_ref.new.params c.in_ok-count.count all)
          steps c.in-Some.is inv.lays
          (λ before a is lays. rw (lent_is c.in-Some.action c.args.control a (rw (inv.flag, inv.final) at is)) (c.in_ok-count.ensures c.args.actions.now c.args.params.now before lays));
    }

pub returns : goal.returns
returns c =
    let inv = c.loop-action.invariant in
    let old = c.loop-action.run in
    let some = c.segmentation.ensures.some in
    let (all, parts, lays) = given_all old c.next_ref.new.self c.next_ref.result
    (λ (all : List Action). Lays c.args.actions.now c.loop-action.actions c.args.params.now c.loop-action.params c.loop-action.count all)
    some.0 c.next_ref.ensures.next c.in_default.is inv.going (rw (inv.list, inv.flag, inv.final) some.1) inv.lays in
    (all, same_list (begun c.args.list.now false c.args.control) old all inv.list inv.flag inv.final parts, lays)
