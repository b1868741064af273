use Rattle.std.proofs.{Common.◌≡◌, Common.length, Common.length-take-le, Common.refl, Common.take, lemmas.Simd.zip2_of_maps, lemmas.Simd.zip2_splat}
use Rattle.csicodec_tokens.proofs.Lanes.{counted}
use Rattle.csicodec_clean.specs.Private.Steps.{unshifted}
use Rattle.csicodec_clean.proofs.reading.UnshiftedByteClass.lanes.Goals as goal

pub returns : goal.returns
returns c =
    let d = c.args.bytes.now in
    let v = take 16 d in
    let long : length v ≡ 16 = length-take-le 16 d c.requires in
    counted unshifted d _ _ c.requires c.type_inv.bytes c.first_set.ensures _ (zip2_of_maps _ _ _ v (zip2_splat _ v 16 14 long) (zip2_splat _ v 16 15 long)) refl
