use Rattle.std.proofs.{Common.refl, lemmas.Option.IfSome_then}
use Rattle.csicodec_base.proofs.Table.{front_38, front_48, front_58}
use Rattle.csicodec_base.specs.Shapes.{Back, Front, Line}
use Rattle.csicodec_structs.proofs.Styled.{alone_style, painted_by}
use Rattle.csicodec_structs.proofs.attributes.style_front.Goals as goal

pub returns-in-38 : goal.returns-in-38
returns-in-38 c = IfSome_then _ c.color_front.ensures (λ x. painted_by Front 38 11 front_38 (λ _. refl) c.args.text.now c.args.behind.now x.1.now c.args.number x.0 c.in-38.is c.requires)

pub returns-in-48 : goal.returns-in-48
returns-in-48 c =
    IfSome_then _ c.color_front-in-48.ensures (λ x. painted_by Back 48 12 front_48 (λ _. refl) c.args.text.now c.args.behind.now x.1.now c.args.number x.0 c.in-48.is c.requires)

pub returns-in-58 : goal.returns-in-58
returns-in-58 c =
    IfSome_then _ c.color_front-in-58.ensures (λ x. painted_by Line 58 4 front_58 (λ _. refl) c.args.text.now c.args.behind.now x.1.now c.args.number x.0 c.in-58.is c.requires)

pub returns-in_ok-style_alone-in_default : goal.returns-in_ok-style_alone-in_default
returns-in_ok-style_alone-in_default c =
    let found = c.in_ok-style_alone-in_default in
    alone_style c.args.text.now c.args.behind.now c.args.number found.field-0 c.requires found.ensures
