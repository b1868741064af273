use Rattle.csicodec_parser.proofs.NextLemmas.{Steps, sound_ok, next_ok, next_err, next_none, goes_ok, goes_err, rest_alone}
use Rattle.csicodec_parser.proofs.Common.{◌≤◌, true, false, refl, sym, rules, arith, ◌∙◌, ap, length, action_of, progress, has_failed}
use Rattle.csicodec_parser.proofs.parser.RunIterator.next.Given.{Over}
use Rattle.csicodec_parser.proofs.parser.RunIterator.next.Goals as goal

pub returns-in_default-clause-steps : goal.returns-in_default-clause-steps
returns-in_default-clause-steps g c =
    rw (c.in_default.ensures.none.1, ← c.self.view_is) (next_none c.self.inside.stage _ refl c.self.invariant (c.in_default.ensures.none.0 c.self.inside.end.truncated))

-- the step by an action that a rule reads
read : (g : Over) (c : goal.After-charge g) → let run = c.self.inside in let new = c.next_action.new.look in
    Steps run.stage c.in-Some.group (progress (g.L.Look.tokens run.look) run.end.truncated run.end.control run.given.total (has_failed run.stage) (g.L.Look.passed run.look) (g.L.Look.looks run.look))
    (progress (g.L.Look.tokens new) run.end.truncated run.end.control c.charge.new.self.total false (g.L.Look.passed new) (g.L.Look.looks new)) (action_of c.in-Some-next_action.action)
read g c =
    let at = c.group_at.ensures in
    let acts = rw (at.list, at.passes) at c.in-Some-next_action.ensures.some in
    record {
      same = record { list = c.next_action.ensures.list ∙ at.list; flag = refl; final = refl };
      goes = c.in-Some.ensures.group;
      told = acts.told c.self.inside.end.truncated;
      within = c.next_action.ensures.within;
      pays = omega (arith, acts.pays, at.costs);
      counted = omega (arith, c.next_action.ensures.counted, at.costs);
      given = c.charge.ensures;
      going = refl;
    }

pub invariant_of-self-in-Some-next_action : goal.invariant_of-self-in-Some-next_action
invariant_of-self-in-Some-next_action g c =
    let acts = rw (c.group_at.ensures.list, c.group_at.ensures.passes) at c.in-Some-next_action.ensures.some in
    sound_ok c.self.inside.stage c.in-Some.group _ _ _ refl c.self.invariant (read g c) (λ w. acts.cut (omega (arith, w, ap length (c.next_action.ensures.list ∙ c.group_at.ensures.list))))

pub returns-in-Some-next_action-clause-steps : goal.returns-in-Some-next_action-clause-steps
returns-in-Some-next_action-clause-steps g c =
    rw (sym c.self.view_is) (next_ok c.self.inside.stage c.in-Some.group _ _ c.in-Some-next_action.action refl c.self.invariant (read g c))

pub returns-in-Some-next_action-clause-goes : goal.returns-in-Some-next_action-clause-goes
returns-in-Some-next_action-clause-goes g c =
    let acts = rw (c.group_at.ensures.list, c.group_at.ensures.passes) at c.in-Some-next_action.ensures.some in
    let less = goes_ok c.self.inside.stage c.in-Some.group _ _ _ refl c.self.invariant (read g c) c.in-Some.ensures.some acts.forward in
    rw (sym c.self.view_is) (record { on = λ f. (search rules, search rules, less); keeps = search rules; rests = λ f. tt })

-- the step by the action of all that is unread
rest : (g : Over) (c : goal.After-charge-in-Ok g) → let run = c.self.inside in let new = c.rest_action.new.look in
    Steps run.stage c.in-Some.group (progress (g.L.Look.tokens run.look) run.end.truncated run.end.control run.given.total (has_failed run.stage) (g.L.Look.passed run.look) (g.L.Look.looks run.look))
    (progress (g.L.Look.tokens new) run.end.truncated run.end.control c.charge-in-Ok.new.self.total false (g.L.Look.passed new) (g.L.Look.looks new)) (action_of c.in-Ok.action)
rest g c =
    let at = c.group_at.ensures in
    let leaves = rw (at.list, at.passes) at c.in-None.ensures.none in
    let now = c.next_action.ensures.list ∙ at.list in
    let e = c.rest_action.ensures in
    let all = c.in-Ok.ensures.all in
    let long : length (g.L.Look.tokens c.self.inside.look) ≤ g.L.Look.passed c.rest_action.new.look = omega (arith, all, ap length e.list, ap length now) in
    let more = rest_alone c.in-Some.group c.self.inside.end.truncated c.self.inside.end.control (g.L.Look.tokens c.self.inside.look) _ _ _ (leaves.told c.self.inside.end.truncated) long in
    record {
      same = record { list = e.list ∙ now; flag = refl; final = refl };
      goes = c.in-Some.ensures.group;
      told = rw (c.in-Ok.ensures.ok, now) more;
      within = e.within;
      pays = omega (arith, leaves.pays, at.costs, e.costs, all, ap length e.list, ap length now);
      counted = omega (arith, c.next_action.ensures.counted, at.costs, e.counted);
      given = c.charge-in-Ok.ensures;
      going = refl;
    }

pub invariant_of-self-in-Ok : goal.invariant_of-self-in-Ok
invariant_of-self-in-Ok g c =
    let all = c.in-Ok.ensures.all in
    sound_ok c.self.inside.stage c.in-Some.group _ _ _ refl c.self.invariant (rest g c) (λ w. absurd (omega (arith, w, all)))

pub returns-in-Ok-clause-steps : goal.returns-in-Ok-clause-steps
returns-in-Ok-clause-steps g c = rw (sym c.self.view_is) (next_ok c.self.inside.stage c.in-Some.group _ _ c.in-Ok.action refl c.self.invariant (rest g c))

pub returns-in-Ok-clause-goes : goal.returns-in-Ok-clause-goes
returns-in-Ok-clause-goes g c =
    let all = c.in-Ok.ensures.all in
    let step = rest g c in
    let less = goes_ok c.self.inside.stage c.in-Some.group _ _ _ refl c.self.invariant step c.in-Some.ensures.some (λ w. omega (arith, w, all, ap length step.same.list)) in
    rw (sym c.self.view_is) (record { on = λ f. (search rules, search rules, less); keeps = search rules; rests = λ f. tt })

pub returns-in-Err-clause-steps : goal.returns-in-Err-clause-steps
returns-in-Err-clause-steps g c =
    let list = c.group_at.ensures.list in
    let leaves = rw (list, c.group_at.ensures.passes) at c.in-None.ensures.none in
    let now = c.next_action.ensures.list ∙ list in
    rw (sym c.self.view_is)
    (next_err c.self.inside.stage _ _ c.in-Err.error c.in-Some.group _ refl c.self.invariant (record { list = c.rest_action.ensures.list ∙ now; flag = refl; final = refl })
    (leaves.told c.self.inside.end.truncated) (omega (arith, leaves.pays, c.group_at.ensures.costs, c.rest_action.ensures.costs, ap length now)) refl refl
    (omega (arith, c.next_action.ensures.counted, c.group_at.ensures.costs, c.rest_action.ensures.counted)))

pub returns-in-Err-clause-goes : goal.returns-in-Err-clause-goes
returns-in-Err-clause-goes g c =
    let run = c.self.inside in
    let new = c.rest_action.new.look in
    let after = progress (g.L.Look.tokens new) run.end.truncated run.end.control run.given.total true (g.L.Look.passed new) (g.L.Look.looks new) in
    let less = goes_err run.stage _ after refl c.self.invariant c.in-Some.ensures.some refl in
    rw (sym c.self.view_is) (record { on = λ f. (search rules, search rules, less); keeps = search rules; rests = λ f. tt })
