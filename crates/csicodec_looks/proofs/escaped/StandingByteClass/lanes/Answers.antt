use Rattle.std.proofs.{Common.◌≡◌, Common.length, Common.length-take-le, Common.refl, Common.take, lemmas.Simd.zip2_of_maps, lemmas.Simd.zip2_splat}
use Rattle.csicodec_looks.proofs.Common.{stands}
use Rattle.csicodec_tokens.proofs.Lanes.{counted}
use Rattle.csicodec_looks.proofs.escaped.StandingByteClass.lanes.Goals as goal

pub returns : goal.returns
returns c =
    let d = c.args.bytes.now in
    let v = take 16 d in
    let long : length v ≡ 16 = length-take-le 16 d c.requires in
    let brackets = zip2_of_maps _ _ _ v (zip2_splat _ v 16 60 long) (zip2_splat _ v 16 62 long) in
    let neighbours = zip2_of_maps _ _ _ v (zip2_splat _ v 16 38 long) (zip2_splat _ v 16 39 long) in
    counted stands d _ _ c.requires c.type_inv.bytes c.first_set.ensures _ (zip2_of_maps _ _ _ v (zip2_of_maps _ _ _ v brackets neighbours) (zip2_splat _ v 16 34 long)) refl
