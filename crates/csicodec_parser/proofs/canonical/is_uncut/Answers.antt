use Rattle.std.proofs.lemmas.List.{take_rest}
use Rattle.csicodec_parser.proofs.{Fronts.uncut-told, Common.◌≡◌, Common.false, Common.refl, Common.sym, Common.ap, Common.◌∙◌, Common.drop, Common.has_odd}
use Rattle.csicodec_parser.proofs.{Common.front}
use Rattle.csicodec_parser.proofs.canonical.is_uncut.Goals as goal

pub returns : goal.returns
returns c =
    let plain : has_odd c.args.group c.args.params.now ≡ false = sym (rw c.new-look.ensures at c.has_odd.ensures.odd) ∙ c.if-has_odd.false in
    let body = take_rest c.args.params.now c.start.result ∙ ap (λ n. drop n c.args.params.now) c.start.ensures in
    let answer = c.front.ensures.answer _ refl in
    uncut-told c.args.group c.args.params.now c.front.result c.is_none.result plain (answer ∙ ap (front c.args.group) body) c.is_none.ensures
