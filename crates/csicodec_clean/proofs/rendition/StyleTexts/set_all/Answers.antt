use Rattle.std.proofs.Common.{◌∙◌, ◌++◌, ◌∷◌, List, ℕ, [], ap, sym, take, drop, slice_set, append_assoc, append-nil, arith}
use Rattle.csicodec_base.specs.declared.sgr.Sgr.{Sgr}
use Rattle.csicodec_clean.specs.Styled.{attribute, settled_texts}
use Rattle.csicodec_clean.proofs.Rendered.{attribute_few, none_placed, placed_first, texts_set}
use Rattle.csicodec_clean.proofs.rendition.StyleTexts.set_all.Goals as goal

pub set-requires-clause-place : goal.set-requires-clause-place
set-requires-clause-place c =
    let (styles, placed) = c.loop-rest.invariant.placed in
    let p = placed_first styles _ _ placed c.loop-rest-test.true in
    omega (arith, c.from.ensures, p.place, attribute_few p.style p.has_place.0)

pub set-requires-clause-len : goal.set-requires-clause-len
set-requires-clause-len c =
    let (styles, placed) = c.loop-rest.invariant.placed in
    let p = placed_first styles _ _ placed c.loop-rest-test.true in
    (omega (arith, c.from-len.ensures, p.few), omega (arith, c.from-len.ensures, p.within))

pub split_at-requires : goal.split_at-requires
split_at-requires c =
    let (styles, placed) = c.loop-rest.invariant.placed in
    let p = placed_first styles _ _ placed c.loop-rest-test.true in
    omega (arith, c.from-len.ensures, p.within)

pub loop-rest-preserved : goal.loop-rest-preserved
loop-rest-preserved c =
    let told = c.loop-rest.rest.now in
    let text = c.loop-rest.text.now in
    let (styles, placed) = c.loop-rest.invariant.placed in
    let q = placed_first styles told text placed c.loop-rest-test.true in
    let (are, has, (more, is)) = q.others in
    let rest = c.split_at-in-loop-rest.ensures.back in
    let behind = c.split_at.ensures.back ∙ ap (λ (n : ℕ). drop n text) c.from-len.ensures in
    record {
      placed = (q.later, (are, rest ∙ has, (more, behind ∙ is)));
      came = λ styles base given begins.
          let (done, later, all, placed, same) = c.loop-rest.invariant.came styles base given begins in
          let p = placed_first later told text placed c.loop-rest-test.true in
          let (are, has, (more, is)) = p.others in
          let now = settled_texts (base ++ done) in (
            done ++ p.style ∷ [],
            p.later,
            all ∙ ap (λ (l : List Sgr). done ++ l) p.all ∙ sym (append_assoc done (p.style ∷ []) p.later),
            (are, rest ∙ has, (more, behind ∙ is)),
            c.set.ensures ∙ ap (λ (x : List (List ℕ)). slice_set x c.from.result (take c.from-len.result text)) same
                ∙ ap (λ (n : ℕ). slice_set now n (take c.from-len.result text)) (c.from.ensures ∙ p.place)
                ∙ ap (λ (t : List ℕ). slice_set now (attribute p.style) t) (ap (λ (n : ℕ). take n text) c.from-len.ensures ∙ p.own)
                ∙ texts_set (base ++ done) p.style p.has_place.0 ∙ ap settled_texts (append_assoc base done (p.style ∷ [])),
          );
    }

pub returns : goal.returns
returns c = λ styles base given begins.
    let (done, later, all, placed, same) = c.loop-rest.invariant.came styles base given begins in
    let none = none_placed later _ _ placed (omega (arith, c.loop-rest-test.false)) in
    same ∙ ap (λ (l : List Sgr). settled_texts (base ++ l)) (sym (all ∙ ap (λ (l : List Sgr). done ++ l) none ∙ append-nil done))
