use Rattle.std.proofs.Common.{◌≡◌, length, refl, rules, append-nil}
use Rattle.csicodec_clean.proofs.Plain.{shown_empty}
use Rattle.csicodec_clean.proofs.spans.append_held.Goals as goal

pub returns-then-is_empty-clause-shown : goal.returns-then-is_empty-clause-shown
returns-then-is_empty-clause-shown g c =
    let held = c.args.held.now.items in
    let none : length held ≡ 0 = search rules in
    rw (shown_empty g.T.Rule.gives.writing held none, append-nil c.args.out.now.items) refl
