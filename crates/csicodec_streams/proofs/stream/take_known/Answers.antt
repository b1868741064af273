use Rattle.std.proofs.Common.{◌∙◌, ap, ◌++◌, List, ℕ, arith}
use Rattle.csicodec_streams.proofs.stream.take_known.Goals as goal

pub returns-clause-noted : goal.returns-clause-noted
returns-clause-noted c = λ some.
    let (text, normal, out) = c.take_simple.ensures.normal some in
    let same = c.recall-known.ensures.none (omega (arith, c.if-known-gt0.false)) in
    (text, normal, out ∙ ap (λ (l : List ℕ). l ++ text) same)
