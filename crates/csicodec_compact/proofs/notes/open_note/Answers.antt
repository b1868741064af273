use Rattle.std.proofs.Common.{ℕ, List, ◌∷◌, ap, append-nil, take, ◌∙◌}
use Rattle.csicodec_compact.proofs.notes.open_note.Goals as goal

pub returns : goal.returns
returns c =
    let list = append-nil c.copy_from_slice-2.new.self ∙ c.copy_from_slice-2.ensures.after ∙ c.split_at-2.ensures.front ∙ ap (λ (l : List ℕ). take 29 l) c.split_at.ensures.back in
    (c.mark.result, c.mark.ensures, rw (c.copy_from_slice.ensures.after) (ap (λ (l : List ℕ). c.mark.result ∷ c.args.numbers ∷ 59 ∷ l) list))
