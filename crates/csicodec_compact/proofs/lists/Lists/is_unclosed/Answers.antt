use Rattle.std.proofs.{Common.◌≡◌, Common.false, Common.sym, Common.subst, Common.◌∙◌, Common.[], Common.map, Common.ap, lemmas.Bool.not-true}
use Rattle.csicodec_compact.proofs.{JoinedLists.styles_by, Common.list_any, Common.Sgr, Common.action_of, Common.Actions, Common.is_other}
use Rattle.csicodec_compact.proofs.lists.Lists.is_unclosed.Goals as goal

pub returns-clause-styles : goal.returns-clause-styles
returns-clause-styles c = λ yes.
    let made = c.parse_into.new.sink.items in
    let (all, are, held) = c.in_ok-parse_into.ensures [] (ap (map action_of) c.clear.ensures.items) in
    let none : list_any is_other made ≡ false = rw c.deref-3.ensures.value at (sym c.any_other.ensures ∙ not-true c.any_other.result yes) in
    let (styles, same) = styles_by made none in
    (styles, subst (λ list. Actions list false 109 (map Sgr styles)) c.deref-2.ensures.value (subst (λ xs. Actions c.deref-2.result.now false 109 xs) (sym held ∙ same) are))
