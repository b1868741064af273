use Rattle.std.proofs.{Common.rules, Common.◌≡◌, Common.ℕ, Common.List, Common.[], Common.◌++◌, Common.length, Common.ap, Common.◌∙◌, Common.append-nil}
use Rattle.std.proofs.{lemmas.List.nil_from_length}
use Rattle.csicodec_compact.proofs.alike.Comparer.read.Goals as goal

pub returns : goal.returns
returns c = λ yes.
    let (front, t, whole) = c.in-Ok.ensures.found in
    let (ys, written, put) = c.in_ok-parse_into.ensures [] c.clear.ensures in
    let rest = c.in-Ok.tail.rest.now in
    let none : length rest ≡ 0 = search rules in
    let all : c.args.bytes.now ≡ front = whole ∙ ap (λ (l : List ℕ). front ++ l) (nil_from_length rest none) ∙ append-nil front in
    (c.read_csi_into.new.params.items, c.in-Ok.tail.control, ys, rw all t, rw c.deref.ensures.value at written, put)
