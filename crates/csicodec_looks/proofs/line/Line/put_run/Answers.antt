use Rattle.csicodec_looks.proofs.Common.{[], ◌∷◌, ◌∙◌, List, ℕ, ap, arith, length, length-append, subst, sym, Option, Some, Cell, Line, line, PutsRun, last_of, most}
use Rattle.csicodec_looks.proofs.Stays.{last_is, run_all, none_run}
use Rattle.csicodec_looks.proofs.line.Line.put_run.Goals as goal

pub returns : goal.returns
returns c =
    let pen = c.args.pen.now in
    let l = c.args.self.now in
    let text = c.args.text.now in
    let run = c.split_run.result.0.now in
    let rest = c.split_run.result.1.now in
    let start = subst (λ (m : Line). PutsRun most pen l text text pen m) (ap (line l.left) c.requires.last) (none_run most pen l text c.requires.plain) in
    let all = run_all most pen l text rest run pen l.left (subst (λ (t : List ℕ). PutsRun most pen l text t pen (line l.left [])) c.split_run.ensures.parts start)
    c.split_run.ensures.untabbed c.requires.over
    (omega (arith, ap length c.in-Some.ensures.cases.0, length-append c.in-Some._front.now (c.in-Some.last.now ∷ []))) in
    let last = ap (last_of pen.last) c.in-Some.ensures.cases.0 ∙ last_is pen.last c.in-Some._front.now c.in-Some.last.now ∙ ap Some (sym c.from.ensures) in
    subst (λ (t : Option ℕ). PutsRun most pen l text rest (record pen { last = t }) (line c.push_run.new.self l.right)) last
    (subst (λ (m : Line). PutsRun most pen l text rest (record pen { last = last_of pen.last run }) m)
    (ap (λ (t : List Cell). line t []) (sym c.in_ok-push_run.ensures) ∙ ap (line c.push_run.new.self) (sym c.requires.last)) all)
