use Rattle.std.proofs.{Common.◌≡◌, Common.◌+◌, Common.◌++◌, Common.◌≤◌, Common.◌∙◌, Common.length, Common.take, Common.ap, Common.arith, Common.length-take}
use Rattle.std.proofs.{Common.take-take, Math.Seq.take-append-add, lemmas.Grind.common_steps, lemmas.List.take_min}
use Rattle.csicodec_looks.proofs.Common.{prefix_len, stands}
use Rattle.csicodec_looks.proofs.escaped.append_standing.Goals as goal

pub returns-clause-front : goal.returns-clause-front
returns-clause-front c =
    let old = c.args.out.now.items in
    let bytes = c.args.bytes.now in
    let count = prefix_len stands bytes in
    let size = ap length c.split_front.ensures.front in
    let len = length (take count bytes) in
    let few : len ≤ 16 = omega (arith, c.if-front-gt-LANES.false, size) in
    let whole : take len bytes ≡ take count bytes = ap (λ n. take n bytes) (length-take count bytes) ∙ take_min count bytes in
    let same : take (length old + len) (old ++ take 16 bytes) ≡ old ++ take count bytes =
    take-append-add old (take 16 bytes) len ∙ ap (λ t. old ++ t) (take-take len 16 bytes few ∙ whole) in
    grind (arith, common_steps, c.truncate.ensures.items, c.in_ok-extend_from_slice-2.ensures.items, c.split_at.ensures.front, c.len.ensures, size, same)
