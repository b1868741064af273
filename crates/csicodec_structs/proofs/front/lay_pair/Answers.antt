use Rattle.std.specs.Prelude.{pos}
use Rattle.std.proofs.Common.{◌∷◌, [], refl, inl, subst, arith}
use Rattle.csicodec_tokens.specs.declared.param.CsiParam.TheVariants.{Integer, P}
use Rattle.csicodec_tokens.proofs.Reading.{first_cut}
use Rattle.csicodec_streams.proofs.OneReading.{byte_cut}
use Rattle.csicodec_structs.specs.Private.Short.{AreStyles}
use Rattle.csicodec_structs.proofs.{ShortLaid.cursor_row, ShortLaid.pair_read, ShortLaid.row_laid, ShortLaid.styles_laid, Styled.two_styles}
use Rattle.csicodec_structs.proofs.front.lay_pair.Goals as goal

pub returns-in_ok-style_alone-in-109-2-clause-some : goal.returns-in_ok-style_alone-in-109-2-clause-some
returns-in_ok-style_alone-in-109-2-clause-some c =
    let body = c.args.body.now in
    let rest = c.in_ok-second.rest.now in
    let read = pair_read body c.args.behind.now _ rest c.args.first c.in_ok-second.second c.requires c.in_ok-behind_mark.ensures c.in_ok-second.ensures.first in
    let one = c.in_ok-style_alone-in-109 in
    let two = c.in_ok-style_alone-in-109-2 in
    let both = two_styles body rest c.args.first c.in_ok-second.second one.field-0 two.field-0 read one.ensures two.ensures in
    styles_laid body _ c.args.actions.now c.put_styles.new.actions (one.field-0 ∷ two.field-0 ∷ []) 2
    (subst (AreStyles _ _) (byte_cut rest 109 c.in-109.len_at_least (omega arith)) both) refl c.put_styles.ensures

pub returns-in_ok-cursor-in-64-to-126-clause-some : goal.returns-in_ok-cursor-in-64-to-126-clause-some
returns-in_ok-cursor-in-64-to-126-clause-some c =
    let body = c.args.body.now in
    let rest = c.in_ok-second.rest.now in
    let read = pair_read body c.args.behind.now _ rest c.args.first c.in_ok-second.second c.requires c.in_ok-behind_mark.ensures c.in_ok-second.ensures.first in
    let list = Integer (pos c.args.first) ∷ P 59 ∷ Integer (pos c.in_ok-second.second) ∷ [] in
    row_laid body rest _ c.args.actions.now c.put.new.room list _ c.cursor_struct.result read (omega arith, omega arith)
    (first_cut rest c.in-64-to-126.len_at_least) (cursor_row list _ c.in_ok-cursor-in-64-to-126.cursor _ (c.in_ok-cursor-in-64-to-126.ensures list (inl refl)) c.cursor_struct.ensures) c.put.ensures
