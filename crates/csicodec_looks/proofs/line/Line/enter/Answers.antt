use Rattle.csicodec_looks.proofs.Common.{[], ◌∷◌, ◌++◌, ◌≡◌, ◌∙◌, List, ap, cond, rules, subst, sym, true, nat_lt, list_all, Cell, is_blank, onto, Does, most, Done, alters, lines_of, widest, size, texts_of}
use Rattle.csicodec_looks.proofs.Rows.{entered_long, standing_row}
use Rattle.csicodec_looks.specs.Row.{settled}
use Rattle.csicodec_looks.proofs.line.Line.enter.Goals as goal

pub returns-then-is_long : goal.returns-then-is_long
returns-then-is_long c =
    let step = c.args.step.now in
    let m = c.args.marking.now in
    let out = c.args.out.now.items in
    let old = c.args.self.now in
    let now = settled most c.args.to old in
    let some : alters step now ≡ true = sym c.alters.ensures ∙ c.if-alters.true in
    let long : nat_lt widest (size now) ≡ true = sym c.is_long.ensures ∙ c.if-is_long.true in
    let left : c.end_some.new.out.items ≡ out ++ texts_of m (lines_of now) =
    c.in_ok-end_some.ensures.text ∙ ap (λ (t : List Cell). out ++ texts_of m (cond (list_all is_blank (onto t [])) [] (onto t [] ∷ []))) (sym (standing_row most c.args.to old)) in
    subst (λ (d : Done). Does m d c.forward.new.self out c.end_some.new.out.items) (sym (entered_long most step now some long))
    (record { line = search rules; text = left })
