use Rattle.std.proofs.{Common.◌≡◌, Common.◌+◌, Common.◌≤◌, Common.List, Common.◌++◌, Common.ℕ, Common.length, Common.take, Common.arith, Common.ap, Common.◌∙◌}
use Rattle.std.proofs.{Common.append_assoc, Common.rules, Math.Seq.take-append-add, lemmas.List.take-take, lemmas.List.take-append-le}
use Rattle.std.proofs.{lemmas.List.length-take-le}
use Rattle.csicodec_tokens.proofs.text.put.Goals.{then-len-lt-ROOM+in_ok-widen, else-len-lt-ROOM}
use Rattle.csicodec_tokens.proofs.text.put.Goals as goal

-- a part behind a front, and of it the first bytes
part_front : (front part behind after : List ℕ) (n count : ℕ) → length front + count ≤ n →
    count ≤ length part → take (length front + count)
    (take n ((front ++ (part ++ behind)) ++ after)) ≡ front ++ take count part
part_front front part behind after n count within short =
    take-take (length front + count) n _ within ∙ ap (λ (l : List ℕ). take (length front + count) l) (append_assoc front (part ++ behind) after)
    ∙ take-append-add front ((part ++ behind) ++ after) count
    ∙ ap (λ (l : List ℕ). front ++ l) (ap (λ (l : List ℕ). take count l) (append_assoc part behind after) ∙ take-append-le count part (behind ++ after) short)

put_behind : (old now part done behind after : List ℕ) (len n count : ℕ) → take len now ≡ take len old → done ≡ part → len ≤ length now → len + count ≤ n → count ≤ length part
    → take (len + count) (take n ((take len now ++ (done ++ behind)) ++ after)) ≡ take len old ++ take count part
put_behind old now part done behind after len n count same is within room short =
    let front : length (take len now) ≡ len = length-take-le len now within in
    let all = part_front (take len now) part behind after n count (omega (arith, front, room)) short in
    rw (is, ← same) (rw front at all)

pub returns-clause-ok : goal.returns-clause-ok
returns-clause-ok c =
    let B = c.if-len-lt-ROOM.bytes in
    let same : take c.args.len B.items ≡ take c.args.len c.args.bytes.now.items = search rules in
    let room : c.args.len + c.args.count ≤ B.len = search rules in
    put_behind c.args.bytes.now.items c.deref_mut.result.now c.args.part.now c.copy_from_slice.new.self _ _ c.args.len B.len c.args.count
    (ap (λ (l : List ℕ). take c.args.len l) c.deref_mut.ensures.value ∙ same) c.copy_from_slice.ensures.after (omega (arith, c.deref_mut.ensures.len, room)) room c.requires.count
