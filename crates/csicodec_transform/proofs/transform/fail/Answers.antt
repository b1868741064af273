use Rattle.std.proofs.Common.{◌≡◌, ◌++◌, [], refl, rules, sym, ap, ◌∙◌, append-nil}
use Rattle.csicodec_transform.proofs.Sent.{goes_none}
use Rattle.csicodec_transform.proofs.transform.fail.Goals as goal

pub returns-in_default-clause-front : goal.returns-in_default-clause-front
returns-in_default-clause-front g c = (c.args.transform.now, [], [], [], goes_none g.T.Transform.passes c.args.transform.now, refl, search rules)

pub returns-in_default-send-clause-front : goal.returns-in_default-send-clause-front
returns-in_default-send-clause-front g c =
    let (more, goes, out) = c.in-Ok.ensures.passes in
    let (sent, unsent, parts, some) = c.in_default-send.ensures.front in
    let split : more ≡ sent ++ unsent = sym (ap (λ t. t ++ more) c.clear.ensures.items) ∙ sym out ∙ sym c.as_slice.ensures.value ∙ parts in
    (c.pause.new.self, more, sent, unsent, goes, split, some)

pub returns-clause-front : goal.returns-clause-front
returns-clause-front g c =
    let (more, goes, out) = c.in-Ok.ensures.passes in
    let whole = c.as_slice.ensures.value ∙ out ∙ ap (λ t. t ++ more) c.clear.ensures.items in
    (c.pause.new.self, more, more, [], goes, sym (append-nil more), rw whole at c.in-Ok-send.ensures.ok)
