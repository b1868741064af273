use Rattle.std.proofs.{Common.refl, Common.arith, lemmas.Simd.zip2_splat}
use Rattle.csicodec_spans.proofs.OneSpan.{lanes_before}
use Rattle.csicodec_spans.specs.declared.table.Mode.{Mode}
use Rattle.csicodec_spans.proofs.near.before_esc_16.Goals as goal

pub returns : goal.returns
returns c = lanes_before Mode.Text 16 c.args.lanes _ _ (omega arith) c.fits-lanes.0 c.fits-lanes.1 (zip2_splat _ c.args.lanes 16 27 c.fits-lanes.0) refl
