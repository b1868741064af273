use Rattle.std.proofs.lemmas.Result.{err_from_is_err_and}
use Rattle.csicodec_streams.proofs.OneReading.{refused_for_memory}
use Rattle.csicodec_streams.proofs.decode.decode_all.Goals as goal

pub returns-in_err-decode_into-clause-only : goal.returns-in_err-decode_into-clause-only
returns-in_err-decode_into-clause-only c = λ actions d.
    let p = err_from_is_err_and c.from_residual.result c.from_residual.ensures.1 in
    rw (p.1, p.2) (refused_for_memory c.args.bytes.now c.args.parameters_truncated _ actions c.in_err-decode_into.ensures.refused d)
