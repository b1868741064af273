use Rattle.csicodec_looks.proofs.Common.{◌≡◌, length, length-take-le, refl, take, zip2_splat, counted, untabbed_byte}
use Rattle.csicodec_looks.proofs.ascii.UntabbedByteClass.lanes.Goals as goal

pub returns : goal.returns
returns c =
    let d = c.args.bytes.now in
    let v = take 16 d in
    let long : length v ≡ 16 = length-take-le 16 d c.requires in
    counted untabbed_byte d _ _ c.requires c.type_inv.bytes c.first_set.ensures _ (zip2_splat _ v 16 9 long) refl
