use Rattle.std.proofs.{Common.◌++◌, Common.take, KnownBytes.Appends-trans, KnownBytes.Appends-kept}
use Rattle.csicodec_transform.proofs.{Sent.moves_front, io.send.Goals.in-Ok, io.send.Goals.in-Err+else-ne}
use Rattle.csicodec_transform.proofs.io.send.Goals as goal

pub loop-preserved : goal.loop-preserved
loop-preserved g c =
    let (sent, split, appended) = c.loop.invariant in
    let rest = c.loop.rest.now in
    elim c.match-write.branch [
      | in-Ok w ↦
          let n = w.in-Ok.count in
          rw w.rest-is (sent ++ take n rest, moves_front _ sent rest n split, Appends-trans _ _ _ _ _ appended w.in-Ok.ensures.bytes)
      | in-Err+else-ne w ↦ rw w.rest-is (sent, split, Appends-kept _ _ _ sent appended w.in-Err.ensures.bytes)
    ]
