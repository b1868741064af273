use Rattle.csicodec_overwrite.proofs.Common.{refl, Sends, Transforms, IsPlain, Plain, Overwrites, Ending, Passes, begun_as}
use Rattle.csicodec_overwrite.proofs.{Written.shown_sent, Written.begins, Written.passes_none, Written.transformed, Kept.overwritten_plain}
use Rattle.csicodec_clean.proofs.Streams.{Texts, streams_one}
use Rattle.csicodec_overwrite.proofs.run.overwrite_all.Goals as goal

pub transform_all-requires-clause-begun : goal.transform_all-requires-clause-begun
transform_all-requires-clause-begun g c = rw c.new.ensures (passes_none (begun_as Plain) refl)

pub returns : goal.returns
returns g c =
    let texts : Texts (Sends Passes (begun_as Plain)) (Transforms Passes Ending (begun_as Plain)) Overwrites IsPlain = record {
      whole = transformed Plain;
      begins = begins Plain;
      safe = overwritten_plain;
    } in
    streams_one _ _ Overwrites IsPlain c.transform_all.result _ _ _ _ texts (shown_sent Plain)
    (rw c.new.ensures at c.transform_all.ensures.ok) (rw c.new.ensures at c.transform_all.ensures.front)
