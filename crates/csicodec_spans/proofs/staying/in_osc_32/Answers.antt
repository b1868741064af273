use Rattle.std.proofs.{Common.refl, Common.arith, lemmas.Simd.zip2_of_maps, lemmas.Simd.zip2_splat}
use Rattle.csicodec_spans.proofs.OneSpan.{lanes_before}
use Rattle.csicodec_spans.specs.declared.table.Mode.{Mode}
use Rattle.csicodec_spans.proofs.staying.in_osc_32.Goals as goal

pub returns : goal.returns
returns c =
    let v = c.args.lanes in
    let long = c.fits-lanes.0 in
    lanes_before Mode.Osc 32 v _ _ (omega arith) long c.fits-lanes.1
    (zip2_of_maps _ _ _ v (zip2_of_maps _ _ _ v (zip2_splat _ v 32 24 long) (zip2_splat _ v 32 26 long))
    (zip2_of_maps _ _ _ v (zip2_splat _ v 32 27 long) (zip2_splat _ v 32 7 long))) refl
