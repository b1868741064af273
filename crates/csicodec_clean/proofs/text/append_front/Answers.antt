use Rattle.std.proofs.{Common.◌≡◌, Common.◌+◌, Common.◌++◌, Common.◌∙◌, Common.length, Common.take, Common.ap, Common.arith, Common.take-take}
use Rattle.std.proofs.{Math.Seq.take-append-add, lemmas.Grind.common_steps}
use Rattle.csicodec_clean.proofs.text.append_front.Goals as goal

pub returns : goal.returns
returns g c =
    let old = c.args.out.now.items in
    let bytes = c.args.bytes.now in
    let n = g.row.N in
    let len = c.args.len in
    let same : take (length old + len) (old ++ take n bytes) ≡ old ++ take len bytes =
    take-append-add old (take n bytes) len ∙ ap (λ t. old ++ t) (take-take len n bytes c.if-len.false) in
    grind (arith, common_steps, c.truncate.ensures.items, c.in_ok-extend_from_slice.ensures.items, c.split_at-2.ensures.front, c.len.ensures, same)
