use Rattle.std.proofs.{Common.◌++◌, Common.take, Common.arith, lemmas.List.length-append, KnownBytes.Consumes-trans}
use Rattle.csicodec_transform.proofs.io.read_out.Goals as goal

pub loop-read-preserved : goal.loop-read-preserved
loop-read-preserved g c =
    let (bytes, consumed, counted) = c.loop-read.invariant in
    let buf = c.read.new.buf in
    let n = c.in-Ok.count in (
      bytes ++ take n buf,
      Consumes-trans _ _ _ bytes _ consumed c.in-Ok.ensures.bytes.0,
      omega (arith, counted, length-append bytes (take n buf), c.in-Ok.ensures.bound.1),
    )
