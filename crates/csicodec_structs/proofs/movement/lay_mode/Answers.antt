use Rattle.std.specs.Prelude.{pos}
use Rattle.std.proofs.Common.{◌<◌, ◌∷◌, [], refl, arith, ap, ◌∙◌}
use Rattle.csicodec_tokens.specs.declared.param.CsiParam.TheVariants.{Integer, P}
use Rattle.csicodec_streams.proofs.OneReading.{byte_cut}
use Rattle.csicodec_structs.specs.{Rows.mode_struct, Private.Short.ReadsOn, Private.Short.change_final}
use Rattle.csicodec_structs.proofs.{ShortLaid.change_ends, ShortLaid.mode_row, ShortLaid.row_laid, Styled.byte_token}
use Rattle.csicodec_structs.proofs.movement.lay_mode.Goals as goal

pub returns-clause-some : goal.returns-clause-some
returns-clause-some c =
    let body = c.args.body.now in
    let found = c.in_ok-number in
    let done = c.in_ok-change in
    let low : c.in_ok-number.number < 65536 = omega (arith, found.ensures.short) in
    let mark = byte_token 63 body _ (byte_cut body 63 c.in-63.len_at_least (omega arith)) (omega arith, omega arith) (λ d. omega (arith, d.1)) in
    let read : ReadsOn c.args.body.now (P 63 ∷ Integer (pos c.in_ok-number.number) ∷ []) c.in_ok-number.behind.now = (_, mark, (found.behind.now, found.ensures.first, refl)) in
    row_laid body found.behind.now done.after.now c.args.actions.now c.put.new.room (P 63 ∷ Integer (pos found.number) ∷ []) (change_final done.change) c.mode_struct.result
    read (change_ends done.change) done.ensures (mode_row found.number done.change c.mode_struct.result low (c.mode_struct.ensures ∙ ap mode_struct c.of-mode.ensures)) c.put.ensures
