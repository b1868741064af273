use Rattle.csicodec_overwrite.proofs.Common.{◌≡◌, ◌∙◌, ap, length, nil_from_length, of_run, refl, rules, append-nil}
use Rattle.csicodec_overwrite.proofs.Read.{run_none}
use Rattle.csicodec_overwrite.proofs.text.append_held.Goals as goal

pub returns-then-is_empty-clause-steps : goal.returns-then-is_empty-clause-steps
returns-then-is_empty-clause-steps c =
    let held = c.args.held.now.items in
    let none : length held ≡ 0 = search rules in
    rw (nil_from_length held none, run_none, append-nil c.args.steps.now.items) refl
