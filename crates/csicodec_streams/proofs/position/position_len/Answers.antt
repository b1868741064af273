use Rattle.std.proofs.Common.{take-take, ap, take, subst, ◌∙◌, ℕ, List}
use Rattle.csicodec_streams.specs.Known.{IsPosition}
use Rattle.csicodec_streams.proofs.position.position_len.Goals as goal

pub returns-in-Some-clause-own : goal.returns-in-Some-clause-own
returns-in-Some-clause-own c = λ some.
    let len = c.placed_len.result in
    let same = ap (λ (l : List ℕ). take len l) c.in-Some.ensures.cases.same
    ∙ take-take len 48 c.args.bytes.now c.placed_len.ensures.short in
    subst IsPosition same (c.placed_len.ensures.own some)
