use Rattle.std.proofs.Common.{ℕ, List, ◌++◌, ap, ◌∙◌}
use Rattle.csicodec_compact.proofs.{Beside.short_front, Common.on_ok_weaker}
use Rattle.csicodec_compact.proofs.runs.append_text.Goals as goal

pub returns-in-Some : goal.returns-in-Some
returns-in-Some c =
    let same = short_front c.args.text.now c.args.wide.now c.in-Some.front.now c.requires c.in-Some.ensures.cases.same c.if-text-le32.true in
    on_ok_weaker c.push_front.result (λ e. e ∙ ap (λ (l : List ℕ). c.args.out.now ++ l) same) c.push_front.ensures.ok
