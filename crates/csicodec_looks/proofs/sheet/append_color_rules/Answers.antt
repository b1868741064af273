use Rattle.std.proofs.Common.{◌++◌, ◌∙◌, add-one, append-nil, append_assoc, ap, sym, ℕ, List}
use Rattle.csicodec_looks.specs.{Sheet.class_rule, Sheet.color_rules, Sheet.declaration, declared.classes.Class.Class}
use Rattle.csicodec_looks.proofs.sheet.append_color_rules.Goals as goal

pub loop-place-init : goal.loop-place-init
unfolding color_rules
loop-place-init c = sym (append-nil c.args.out.now.items)

pub loop-place-preserved : goal.loop-place-preserved
unfolding class_rule color_rules declaration
loop-place-preserved c =
    let p = c.args.palette.now in
    let i = c.loop-place.place in
    let next = class_rule p (Class.Color c.args.part i) in
    rw (add-one i)
    (c.in_ok-append_rule.ensures ∙ ap (λ (l : List ℕ). l ++ next) c.loop-place.invariant ∙ append_assoc c.args.out.now.items (color_rules p c.args.part i) next)
