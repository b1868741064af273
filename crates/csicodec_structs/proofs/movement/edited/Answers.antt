use Rattle.std.proofs.{Common.w64, Common.arith, lemmas.Int.to_z_pos}
use Rattle.csicodec_structs.proofs.Moved.{erase_in_display, erase_in_line}
use Rattle.csicodec_structs.proofs.movement.edited.Goals as goal

pub returns-in_ok-from_i64-in-74-clause-edits : goal.returns-in_ok-from_i64-in-74-clause-edits
returns-in_ok-from_i64-in-74-clause-edits c =
    let found = c.in_ok-from_i64-in-74 in
    let number = c.args.number in
    λ list one. rw c.in-74.is (erase_in_display number found.field-0 (rw (c.from.ensures, to_z_pos w64 number (omega (arith, c.ranges.number.fits))) at found.ensures.listed) list one)

pub returns-in_ok-from_i64-in-75-clause-edits : goal.returns-in_ok-from_i64-in-75-clause-edits
returns-in_ok-from_i64-in-75-clause-edits c =
    let found = c.in_ok-from_i64-in-75 in
    let number = c.args.number in
    λ list one. rw c.in-75.is (erase_in_line number found.field-0 (rw (c.from-in-75.ensures, to_z_pos w64 number (omega (arith, c.ranges.number.fits))) at found.ensures.listed) list one)
