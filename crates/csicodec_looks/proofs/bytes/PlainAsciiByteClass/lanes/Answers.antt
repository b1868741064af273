use Rattle.std.proofs.{Common.◌≡◌, Common.leb, Common.cond, Common.length, Common.length-take-le, Common.refl, Common.take, lemmas.Simd.zip2_of_maps}
use Rattle.std.proofs.{lemmas.Simd.zip2_splat, lemmas.Simd.zip2_splat_left}
use Rattle.csicodec_looks.proofs.Common.{plain_byte}
use Rattle.csicodec_tokens.proofs.Lanes.{counted}
use Rattle.csicodec_looks.proofs.bytes.PlainAsciiByteClass.lanes.Goals as goal

pub returns : goal.returns
returns c =
    let d = c.args.bytes.now in
    let v = take 16 d in
    let long : length v ≡ 16 = length-take-le 16 d c.requires in
    let control = zip2_of_maps _ _ _ v (zip2_of_maps _ _ _ v (zip2_splat _ v 16 32 long) (zip2_splat _ v 16 10 long)) (zip2_splat _ v 16 9 long) in
    counted plain_byte d _ _ c.requires c.type_inv.bytes c.first_set.ensures _
    (zip2_of_maps _ _ _ v control (zip2_splat_left (λ a b. cond (leb a b) 255 0) 127 16 v long)) refl
