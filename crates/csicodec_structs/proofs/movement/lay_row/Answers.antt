use Rattle.std.proofs.Common.{arith}
use Rattle.csicodec_tokens.proofs.Reading.{first_cut}
use Rattle.csicodec_structs.proofs.ShortLaid.{row_laid}
use Rattle.csicodec_structs.proofs.movement.lay_row.Goals as goal

pub returns-clause-some : goal.returns-clause-some
returns-clause-some c =
    let behind = c.args.behind.now in
    let (list, one, read) = c.requires in
    row_laid c.args.body.now behind _ c.args.actions.now c.put.new.room list _ c.in_ok-given.given read (omega arith, omega arith)
    (first_cut behind c.in-64-to-126.len_at_least) (c.in_ok-given.ensures list one) c.put.ensures
