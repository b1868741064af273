use Rattle.std.proofs.Common.{◌≡◌, ◌∙◌, ◌<◌, ◌+◌, ◌∷◌, [], ℕ, ℤ, List, Option, None, ap, sym, refl, arith, drop, length, length-drop}
use Rattle.std.proofs.lemmas.List.{drop_all, drop_more}
use Rattle.csicodec_screen.specs.{Areas.by_all, Areas.or_zero, Private.Changes.look_changed, declared.look.Look.Look}
use Rattle.csicodec_screen.proofs.attributes.change_attributes.Goals as goal

some_numbers : (f : ℕ → Look → Look) (fields : List (Option ℤ)) (l : Look) → 0 < length fields → by_all f fields l ≡ by_all f (or_zero fields) l
some_numbers f [] l h = absurd (omega (arith, h))
some_numbers f (x ∷ fields) l h = refl

pub returns-then-count-le4 : goal.returns-then-count-le4
returns-then-count-le4 c =
    let none : drop 4 c.args.fields.now ≡ [] = drop_all 4 c.args.fields.now (omega (arith, c.len-count.ensures, c.if-count-le4.true)) in
    c.look_changed.ensures ∙ ap (λ (fields : List (Option ℤ)). by_all (look_changed c.args.turns) (or_zero fields) c.args.look) (sym none)

pub loop-i-preserved : goal.loop-i-preserved
loop-i-preserved c =
    let fields = c.args.fields.now in
    let i = c.loop-i.i in
    let f = look_changed c.args.turns in
    let h : i < length fields = omega (arith, c.loop-i-test.true, c.len-count.ensures) in
    ap (by_all f (drop (i + 1) fields)) (c.look_changed-new.ensures ∙ ap (λ (n : ℕ). f n c.loop-i.new) c.nth.ensures.is)
    ∙ ap (λ (z : List (Option ℤ)). by_all f z c.loop-i.new) (sym (drop_more fields i None h))
    ∙ c.loop-i.invariant

pub returns : goal.returns
returns c =
    let fields = c.args.fields.now in
    let f = look_changed c.args.turns in
    let none : drop c.loop-i.i fields ≡ [] = drop_all c.loop-i.i fields (omega (arith, c.loop-i-test.false, c.len-count.ensures)) in
    let some : 0 < length (drop 4 fields) = omega (arith, length-drop 4 fields, c.len-count.ensures, c.if-count-le4.false) in
    ap (λ (z : List (Option ℤ)). by_all f z c.loop-i.new) (sym none)
    ∙ c.loop-i.invariant
    ∙ some_numbers f (drop 4 fields) c.args.look some
