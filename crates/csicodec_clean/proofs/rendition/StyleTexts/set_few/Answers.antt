use Rattle.std.proofs.{Common.◌∙◌, Common.◌++◌, Common.◌∷◌, Common.List, Common.ℕ, Common.[], Common.ap, Common.sym, Common.drop, Common.append_assoc}
use Rattle.std.proofs.{Common.arith, lemmas.List.length-drop}
use Rattle.csicodec_base.specs.declared.sgr.Sgr.{Sgr}
use Rattle.csicodec_clean.specs.{Private.Notes.ArePlaced, Styled.settled_texts}
use Rattle.csicodec_clean.proofs.Rendered.{none_placed, placed_first, set_first}
use Rattle.csicodec_clean.proofs.rendition.StyleTexts.set_few.Goals as goal

pub set_front-requires-2-clause-placed : goal.set_front-requires-2-clause-placed
set_front-requires-2-clause-placed c =
    let text = c.args.text.now in
    let (styles, placed) = c.requires in
    let p = placed_first styles c.args.places.now text placed (omega (arith, c.if-places-ne4.false)) in
    let (are, has, (more, is)) = p.others in
    (p.later, (are, c.split_at.ensures.back ∙ has, (more, c.split_at-2.ensures.back ∙ ap (λ (n : ℕ). drop n text) c.set_front-len.ensures.len ∙ is)))

pub returns : goal.returns
returns c = λ styles base placed begins.
    let told = c.args.places.now in
    let text = c.args.text.now in
    let rest = c.split_at.result.1.now in
    let behind = c.split_at-2.result.1.now in
    let p = placed_first styles told text placed (omega (arith, c.if-places-ne4.false)) in
    let (are, has, (more, is)) = p.others in
    let others : ArePlaced p.later rest behind = (are, c.split_at.ensures.back ∙ has, (more, c.split_at-2.ensures.back ∙ ap (λ (n : ℕ). drop n text) c.set_front-len.ensures.len ∙ is)) in
    let q = placed_first p.later rest behind others (omega (arith, c.split_at.ensures.back_len, c.if-places-ne4.false)) in
    let none = none_placed q.later _ _ q.others (omega (arith, length-drop 2 rest, c.split_at.ensures.back_len, c.if-places-ne4.false)) in
    let all = p.all ∙ ap (λ (l : List Sgr). p.style ∷ l) (q.all ∙ ap (λ (l : List Sgr). q.style ∷ l) none) in
    let first = set_first styles base told text _ _ c.set_front-len.result p begins c.set_front-len.ensures.set c.set_front-len.ensures.len in
    set_first p.later (base ++ p.style ∷ []) rest behind _ _ c.set_front-2.result q first c.set_front-2.ensures.set c.set_front-2.ensures.len
    ∙ ap settled_texts (append_assoc base (p.style ∷ []) (q.style ∷ []) ∙ ap (λ (l : List Sgr). base ++ l) (sym all))

pub returns-then-places-eq2 : goal.returns-then-places-eq2
returns-then-places-eq2 c = λ styles base placed begins.
    let told = c.args.places.now in
    let text = c.args.text.now in
    let p = placed_first styles told text placed (omega (arith, c.if-places-eq2.true)) in
    let none = none_placed p.later _ _ p.others (omega (arith, length-drop 2 told, c.if-places-eq2.true)) in
    set_first styles base told text _ _ c.set_front.result p begins c.set_front.ensures.set c.set_front.ensures.len
    ∙ ap (λ (l : List Sgr). settled_texts (base ++ l)) (sym (p.all ∙ ap (λ (l : List Sgr). p.style ∷ l) none))
