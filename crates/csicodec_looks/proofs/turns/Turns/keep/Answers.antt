use Rattle.std.proofs.Common.{arith}
use Rattle.csicodec_looks.proofs.Recalled.{kept}
use Rattle.csicodec_looks.proofs.turns.Turns.keep.Goals as goal

pub put-requires-clause-turn : goal.put-requires-clause-turn
put-requires-clause-turn g c =
    kept (g.T.Turning.turns c.args._by.now) c.args.bytes.now c.args.tags.now c.copy_from_slice.new.self c.copy_from_slice-2.new.self _ _
    c.args.old c.args.new c.copy_from_slice.ensures.after c.copy_from_slice-2.ensures.after
    (omega (arith, c.if-bytes-gt-LONGEST.false)) (omega (arith, c.if-tags-gt-WIDEST.false)) c.requires.turn
