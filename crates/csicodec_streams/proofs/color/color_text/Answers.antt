use Rattle.std.proofs.Common.{ℕ, List, ◌∷◌, ◌+◌, ◌-◌, length, get_or, drop, ap, append-nil, refl, take, ◌∙◌, arith, length-take}
use Rattle.csicodec_streams.proofs.Colors.{colons_normal, colons_selected}
use Rattle.csicodec_streams.proofs.color.color_text.Goals as goal

pub returns-in-50 : goal.returns-in-50
returns-in-50 c = λ sgr rest colored.
    let bytes = c.args.bytes.now in
    let parts = take (length bytes - 7) (drop 7 bytes) in
    let len = length bytes - length rest in
    let lanes = c.copy_from_slice-in-50.ensures.after ∙ colons_selected (take 16 parts) 16 (omega (arith, length-take 16 parts)) in
    rw c.copy_from_slice.ensures.after
    (ap (λ (l : List ℕ). take (len + 1) (27 ∷ 91 ∷ get_or bytes 2 0 ∷ 56 ∷ 58 ∷ 50 ∷ 58 ∷ 58 ∷ l)) (append-nil c.copy_from_slice-in-50.new.self ∙ lanes)
    ∙ colons_normal bytes parts rest (get_or bytes 2 0) len sgr colored refl (omega arith) refl refl)
