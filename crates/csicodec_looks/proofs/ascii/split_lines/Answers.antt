use Rattle.csicodec_looks.proofs.Common.{◌≡◌, ◌+◌, ◌++◌, ◌∷◌, [], drop, take, length, length-append, length-take-le, slice_index, sym, ap, ◌∙◌, append_assoc, take-append-drop, arith, take-append-le, take_more, eqb-true, AllByRecursion, prefix_len, IsPlainByte, front_in}
use Rattle.csicodec_tokens.proofs.Walks.{All-front}
use Rattle.csicodec_looks.specs.Bytes.{plain_byte}
use Rattle.csicodec_looks.proofs.ascii.split_lines.Goals as goal

pub returns : goal.returns
returns c =
    let near = c.split_at.result.0.now in
    let text = c.split_front.result.0.now in
    let last = c.in_ok-last.last in
    let len = prefix_len plain_byte near in
    let front = take last text in
    let more = drop len near ++ c.split_at.result.1.now in
    let (after, is) = c.in_ok-last.ensures in
    let line : take (last + 1) text ≡ front ++ 10 ∷ [] = take_more text last 0 after.high ∙ ap (λ n. front ++ n ∷ []) (eqb-true (slice_index text last) 10 is) in
    let plain : AllByRecursion IsPlainByte text = rw c.split_front.ensures.front (front_in plain_byte near) in
    let parts : near ≡ text ++ drop len near = sym (take-append-drop len near) ∙ ap (λ t. t ++ drop len near) (sym c.split_front.ensures.front) in
    let whole : c.args.bytes.now ≡ text ++ more = c.split_at.ensures.by_index.0 ∙ ap (λ t. t ++ c.split_at.result.1.now) parts
    ∙ append_assoc text (drop len near) c.split_at.result.1.now in
    let lines : c.split_at-2.result.0.now ≡ front ++ 10 ∷ [] = c.split_at-2.ensures.front ∙ ap (take (last + 1)) whole
    ∙ take-append-le (last + 1) text more (omega (arith, after.high)) ∙ line in (
      front,
      lines,
      c.split_at-2.ensures.by_index.0,
      All-front IsPlainByte front (drop last text) (rw take-append-drop plain),
      omega (
        arith,
        ap length lines,
        length-append front (10 ∷ []),
        length-take-le last text (omega arith),
        ap length parts,
        length-append text
            (drop len near),
      ),
    )
