use Rattle.std.proofs.{Common.arith, lemmas.Result.err_from_is_err_and}
use Rattle.csicodec_tokens.proofs.reader.read_csi.Goals as goal

pub returns-in_err-tail-clause-only : goal.returns-in_err-tail-clause-only
returns-in_err-tail-clause-only c = λ list final rest s.
    let p = err_from_is_err_and c.from_residual.result c.from_residual.ensures.1 in
    let (memory, more) = c.in_err-tail.ensures.only list final rest s in
    rw (p.1, p.2) (memory, omega (arith, more, c.new-params.ensures.capacity))

pub returns-clause-only : goal.returns-clause-only
returns-clause-only c = λ list final rest s. c.in_ok-tail.ensures.only list final rest s
