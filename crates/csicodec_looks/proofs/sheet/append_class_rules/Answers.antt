use Rattle.std.proofs.{Common.◌≡◌, Common.List, Common.ℕ, Common.◌++◌, Common.◌∙◌, Common.ap, Common.append_assoc, Common.refl, lemmas.Result.on_ok_weaker}
use Rattle.csicodec_looks.specs.Sheet.{class_rule, class_rules, color_rules, declaration, fixed_rules, kind_of_lines, line_rule, places}
use Rattle.csicodec_looks.specs.{declared.classes.Layer.TheVariants.GroundAsText, declared.palette.Palette.Palette, declared.sheet.TheConstants.RULES}
use Rattle.csicodec_looks.specs.{Look.line_kind, Look.line_places, Look.weight}
use Rattle.csicodec_looks.proofs.sheet.append_class_rules.Goals as goal

fixed : (p : Palette) → RULES.now ≡ fixed_rules p
unfolding fixed_rules class_rule line_rule declaration places kind_of_lines line_places line_kind weight
fixed p = refl

pub returns : goal.returns
unfolding class_rules class_rule declaration
returns c =
    let first = c.in_ok-extend_from_slice.ensures.items ∙ ap (λ (t : List ℕ). c.args.out.now.items ++ t) (c.as_bytes.ensures.value ∙ fixed c.args.palette.now) in
    on_ok_weaker c.append_color_rules-5.result
    (λ (e : c.append_color_rules-5.new.out.items ≡ c.append_color_rules-4.new.out.items ++ color_rules c.args.palette.now GroundAsText 256).
    rw (e, c.in_ok-append_color_rules-4.ensures, c.in_ok-append_color_rules-3.ensures, c.in_ok-append_color_rules-2.ensures, c.in_ok-append_color_rules.ensures) (
    rw (c.in_ok-append_rule-2.ensures, c.or_own-ground.ensures, c.in_ok-append_rule.ensures, c.or_own-text.ensures, first) (simp append_assoc)))
    c.append_color_rules-5.ensures
