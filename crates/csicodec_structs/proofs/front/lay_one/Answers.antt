use Rattle.std.proofs.Common.{arith}
use Rattle.csicodec_streams.proofs.OneReading.{byte_cut}
use Rattle.csicodec_structs.proofs.{ShortLaid.row_laid, Styled.alone_row}
use Rattle.csicodec_structs.proofs.front.lay_one.Goals as goal

pub returns-clause-some : goal.returns-clause-some
returns-clause-some c =
    let behind = c.args.behind.now in
    let (list, one, read) = c.requires in
    row_laid c.args.body.now behind _ c.args.actions.now c.put.new.room list 109 c.style_struct.result read (omega arith, omega arith)
    (byte_cut behind 109 c.in-109.len_at_least (omega arith)) (rw c.style_struct.ensures (alone_row c.args.number c.in_ok-style.style list c.in_ok-style.ensures one)) c.put.ensures
