use Rattle.csicodec_parser.proofs.Common.{◌≤◌, false, List, refl, sym, subst, arith, ◌∙◌, ap, length, drop, CsiParam, action_of, progress, rest_action, has_failed, IsRef}
use Rattle.csicodec_parser.proofs.NextLemmas.{Steps, goes_ok, ref_none, ref_ok, rest_alone, sound_ok}
use Rattle.csicodec_parser.proofs.parser.Run+Tokens.next_ref.Goals as goal

pub returns-in_default-clause-next : goal.returns-in_default-clause-next
returns-in_default-clause-next c =
    rw (c.in_default.ensures.none.1, ← c.self.view_is) (ref_none c.self.inside.stage _ refl c.self.invariant (c.in_default.ensures.none.0 c.self.inside.end.truncated))

-- the step by an action that a rule reads
read : (c : goal.After-charge) → let run = c.self.inside in let new = c.next_action.new.look in
    Steps run.stage c.in-Some.group (progress run.look.list run.end.truncated run.end.control run.given.total (has_failed run.stage) run.look.passed run.look.looks)
    (progress new.list run.end.truncated run.end.control c.charge.new.self.total false new.passed new.looks) (action_of c.in-Some-next_action.action)
read c =
    let at = c.group_at.ensures in
    let acts = rw (at.list, at.passes) at c.in-Some-next_action.ensures.some in
    record {
      same = record { list = c.next_action.ensures.list ∙ at.list; flag = refl; final = refl };
      goes = c.in-Some.ensures.group;
      told = acts.told c.self.inside.end.truncated;
      within = c.next_action.ensures.within;
      pays = omega (arith, acts.pays, at.costs);
      counted = omega (arith, c.next_action.ensures.counted, at.costs);
      given = c.charge.ensures;
      going = refl;
    }

pub invariant_of-self-in-Some-next_action : goal.invariant_of-self-in-Some-next_action
invariant_of-self-in-Some-next_action c =
    let acts = rw (c.group_at.ensures.list, c.group_at.ensures.passes) at c.in-Some-next_action.ensures.some in
    sound_ok c.self.inside.stage c.in-Some.group _ _ _ refl c.self.invariant (read c) (λ w. acts.cut (omega (arith, w, ap length (c.next_action.ensures.list ∙ c.group_at.ensures.list))))

pub returns-in-Some-next_action-clause-next : goal.returns-in-Some-next_action-clause-next
returns-in-Some-next_action-clause-next c =
    rw (sym c.self.view_is) (ref_ok c.self.inside.stage c.in-Some.group _ _ _ (action_of c.in-Some-next_action.action) refl c.self.invariant (read c) refl)

pub returns-in-Some-next_action-clause-fewer : goal.returns-in-Some-next_action-clause-fewer
returns-in-Some-next_action-clause-fewer c =
    let acts = rw (c.group_at.ensures.list, c.group_at.ensures.passes) at c.in-Some-next_action.ensures.some in
    rw (sym c.self.view_is) (goes_ok c.self.inside.stage c.in-Some.group _ _ _ refl c.self.invariant (read c) c.in-Some.ensures.some acts.forward)

-- the step by the action of all that is unread
rest : (c : goal.After-charge-in-None) → let run = c.self.inside in let new = c.rest_ref-rest.new.look in
    Steps run.stage c.in-Some.group (progress run.look.list run.end.truncated run.end.control run.given.total (has_failed run.stage) run.look.passed run.look.looks)
    (progress new.list run.end.truncated run.end.control c.charge-in-None.new.self.total false new.passed new.looks) (rest_action c.in-Some.group (drop c.next_action.new.look.passed run.look.list) run.end.truncated run.end.control)
rest c =
    let at = c.group_at.ensures in
    let leaves = rw (at.list, at.passes) at c.in-None.ensures.none in
    let now = c.next_action.ensures.list ∙ at.list in
    let e = c.rest_ref-rest.ensures in
    let all = e.all in
    let long : length c.self.inside.look.list ≤ c.rest_ref-rest.new.look.passed = omega (arith, all, ap length e.list, ap length now) in
    let more = rest_alone c.in-Some.group c.self.inside.end.truncated c.self.inside.end.control c.self.inside.look.list c.next_action.new.look.passed c.rest_ref-rest.new.look.passed _ (leaves.told c.self.inside.end.truncated) long in
    record {
      same = record { list = e.list ∙ now; flag = refl; final = refl };
      goes = c.in-Some.ensures.group;
      told = more;
      within = omega (arith, all);
      pays = omega (arith, leaves.pays, at.costs, e.costs, all, ap length e.list, ap length now, c.next_action.ensures.within);
      counted = omega (arith, c.next_action.ensures.counted, at.costs, e.costs, c.next_action.ensures.within);
      given = c.charge-in-None.ensures;
      going = refl;
    }

pub invariant_of-self-in-None : goal.invariant_of-self-in-None
invariant_of-self-in-None c =
    let all = c.rest_ref-rest.ensures.all in
    sound_ok c.self.inside.stage c.in-Some.group _ _ _ refl c.self.invariant (rest c) (λ w. absurd (omega (arith, w, all)))

pub returns-in-None-clause-next : goal.returns-in-None-clause-next
returns-in-None-clause-next c =
    let run = c.self.inside in
    let now = c.next_action.ensures.list ∙ c.group_at.ensures.list in
    let lent = subst (λ (l : List CsiParam). IsRef c.rest_ref-rest.result run.end.truncated run.end.control (rest_action c.in-Some.group (drop c.next_action.new.look.passed l) run.end.truncated run.end.control)) now
    (c.rest_ref-rest.ensures.is run.end.truncated run.end.control) in
    rw (sym c.self.view_is) (ref_ok run.stage c.in-Some.group _ _ _ _ refl c.self.invariant (rest c) lent)

pub returns-in-None-clause-fewer : goal.returns-in-None-clause-fewer
returns-in-None-clause-fewer c =
    let all = c.rest_ref-rest.ensures.all in
    let step = rest c in
    rw (sym c.self.view_is) (goes_ok c.self.inside.stage c.in-Some.group _ _ _ refl c.self.invariant step c.in-Some.ensures.some (λ w. omega (arith, w, all, ap length step.same.list)))
