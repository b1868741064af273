use Rattle.std.proofs.{Common.◌++◌, Common.take, KnownBytes.Appends-trans}
use Rattle.csicodec_transform.proofs.Sent.{moves_front}
use Rattle.csicodec_transform.proofs.io.write_out.Goals as goal

pub loop-rest-preserved : goal.loop-rest-preserved
loop-rest-preserved g c =
    let (sent, split, appended) = c.loop-rest.invariant in
    let rest = c.loop-rest.rest.now in
    let n = c.in-Ok.count in
    (sent ++ take n rest, moves_front _ sent rest n split, Appends-trans _ _ _ _ _ appended c.in-Ok.ensures.bytes)
