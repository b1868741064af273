use Rattle.std.proofs.{Common.◌≡◌, Common.◌++◌, Common.ℕ, Common.List, Common.take, Common.drop, Common.sym, Common.ap, Common.arith, Common.◌∙◌}
use Rattle.std.proofs.{lemmas.List.take-append-drop}
use Rattle.csicodec_transform.proofs.memo.Noted.wide.Goals as goal

pub returns : goal.returns
returns c =
    let text = c.self.inside.text in
    let len = c.self.inside.len in
    let front : take len text ≡ c.args.self.now = grind (arith, c.self.view_is) in
    (drop len text, sym (take-append-drop len text) ∙ ap (λ (l : List ℕ). l ++ drop len text) front)
