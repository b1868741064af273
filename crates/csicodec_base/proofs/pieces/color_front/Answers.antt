use Rattle.std.proofs.{Common.rules, Common.arith, Common.◌≡◌, Common.◌∙◌, Common.refl, Common.sym, lemmas.List.take_rest, lemmas.Int.ints}
use Rattle.std.specs.Prelude.{pos}
use mir.{Val.SFits, Syntax.w64}
use Rattle.csicodec_tokens.specs.declared.param.CsiParam.TheVariants.{Integer}
use Rattle.csicodec_base.specs.Shapes.{four_shape, three_shape}
use Rattle.csicodec_base.proofs.Table.{behind_kind}
use Rattle.csicodec_base.proofs.pieces.color_front.Goals as goal

pub returns-in-58-eq6-eq58 : goal.returns-in-58-eq6-eq58
returns-in-58-eq6-eq58 c =
    let fits : SFits w64 c.in-P.kind = search rules in
    let six : c.in-P.kind ≡ pos 6 = omega (arith, ints) in
    c.rgba_front.ensures ∙ sym (behind_kind 6 four_shape c.args.after.now _ (Integer (pos 0)) (take_rest c.args.after.now 3) (omega arith) (cc) (cc) (cc) refl)

pub returns-in-58-eq2-eq58 : goal.returns-in-58-eq2-eq58
returns-in-58-eq2-eq58 c =
    let fits : SFits w64 c.in-P.kind = search rules in
    let two : c.in-P.kind ≡ pos 2 = omega (arith, ints) in
    c.rgb_front.ensures ∙ sym (behind_kind 2 (three_shape 58) c.args.after.now _ (Integer (pos 0)) (take_rest c.args.after.now 3) (omega arith) (cc) (cc) (cc) refl)
