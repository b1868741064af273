use Rattle.csicodec_overwrite.proofs.Common.{◌++◌, ◌∙◌, List, ℕ, ap, append_assoc, sym, on_ok_weaker, Look, turn, written}
use Rattle.csicodec_overwrite.proofs.Fronts.{run_nothing, run_some}
use Rattle.csicodec_overwrite.proofs.front.append_run.Goals as goal

pub returns-then-is_empty-clause-text : goal.returns-then-is_empty-clause-text
returns-then-is_empty-clause-text c = λ chars shown own.
    run_nothing c.args.marking.now c.args.last.now c.args.now.now chars c.args.run.now c.args.out.now.items own (sym c.is_empty.ensures ∙ c.if-is_empty.true)

pub returns-clause-text : goal.returns-clause-text
returns-clause-text c =
    let marking = c.args.marking.now in
    let run = c.args.run.now in
    let last = c.args.last.now in
    let now = c.args.now.now in
    let old = c.args.out.now.items in
    on_ok_weaker c.append_written.result
    (λ e chars shown own. e chars shown own ∙ ap (λ (t : List ℕ). t ++ written marking chars) c.in_ok-append_turn.ensures
    ∙ append_assoc old (turn marking last now) (written marking chars)
    ∙ ap (λ (l : Look). old ++ (turn marking last l ++ written marking chars)) (sym (run_some last now chars run own (sym c.is_empty.ensures ∙ c.if-is_empty.false))))
    c.append_written.ensures
