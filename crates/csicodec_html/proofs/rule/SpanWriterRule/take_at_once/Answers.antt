use Rattle.std.proofs.Common.{take, subst}
use Rattle.csicodec_html.proofs.{Common.Setting, Common.looks, Common.setting, Common.turns, Recalled.given}
use Rattle.csicodec_clean.specs.Links.{begun}
use Rattle.csicodec_html.proofs.rule.SpanWriterRule.take_at_once.Goals as goal

pub returns-clause-taken : goal.returns-clause-taken
returns-clause-taken c = λ some.
    let inside = c.self.inside in
    let come = begun inside.next.place inside.next.params.items inside.next.url.items in
    let first = setting inside.markup inside.looks inside.to.items come in
    let own = take c.in_ok-len.len c.args.bytes.now in
    let new = c.recall.new.look in
    let after = setting inside.markup (looks new inside.looks.saved) inside.to.items come in
    let (least, most, within, tags, is, longer) = c.in_ok-len.ensures.told some in
    let (one, gives) = given first own tags new is in
    (tags, one, subst (λ (s : Setting). turns.sequence s own tags after) c.self.view_is gives, longer)
