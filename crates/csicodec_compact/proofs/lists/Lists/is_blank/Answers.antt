use Rattle.std.proofs.{Common.rules, Common.true, Common.◌≡◌, Common.◌++◌, Common.◌∷◌, Common.[], Common.Some, Common.ap, Common.◌∙◌, lemmas.Bool.eq-eqb}
use Rattle.std.proofs.{lemmas.Bool.eqb-true, lemmas.Slice.Eq.strip_suffix_is}
use Rattle.csicodec_compact.proofs.JoinedLists.{blank_listed, of_both, open_listed}
use Rattle.csicodec_compact.proofs.lists.Lists.is_blank.Goals as goal

pub returns : goal.returns
returns c =
    let listed : c.in_ok-is_list.field-0 ≡ true = search rules in
    let (seq, plain) = c.in_ok-is_list.ensures listed in
    let front = c.in-Some.front.now in
    let made : c.deref.result.now ≡ front ++ 109 ∷ [] =
    c.deref.ensures.value ∙ c.in_ok-push.ensures.items ∙ ap (λ t. t ++ 109 ∷ []) (c.in_ok-extend_from_slice.ensures.items ∙ ap (λ t. t ++ front) c.new-other.ensures.items) in
    let end : c.as_slice.result.now ≡ 59 ∷ 48 ∷ 109 ∷ [] = search rules in
    let whole = rw end at (strip_suffix_is (λ a b. (eqb-true a b, eq-eqb a b)) c.args.text.now c.as_slice.result.now (Some c.in-Some.front) c.in-Some.ensures.cases) in
    let kept = c.is_unclosed.ensures.params in
    of_both c.is_unclosed.result _ _ _ (λ yes unclosed styled opens.
    let (styles, means) = styled opens in
    blank_listed c.args.text.now front c.deref.result.now whole made (open_listed c.deref.result.now _ styles seq plain (rw kept at (unclosed opens)) (rw kept at means)))
    c.is_unclosed.ensures.unclosed c.is_unclosed.ensures.styles
