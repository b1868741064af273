use Rattle.std.proofs.Common.{◌∙◌, drop, map, ap, arith, subst, sym}
use Rattle.csicodec_html.proofs.Common.{action_of, are_lasting, looks, sets_any, Setting, setting, turn, piece_texts, turns}
use Rattle.csicodec_html.proofs.Recalled.{appended, given, read}
use Rattle.csicodec_clean.specs.Links.{begun}
use Rattle.csicodec_html.specs.Rule.{set_all}
use Rattle.csicodec_html.proofs.rule.SpanWriterRule.rewrite.Goals as goal

pub invariant_of-self-2 : goal.invariant_of-self-2
invariant_of-self-2 c = rw c.stand.ensures c.self.invariant

pub keep-requires-clause-turn : goal.keep-requires-clause-turn
keep-requires-clause-turn c =
    let actions = map action_of c.terminal_actions_into.new.actions.items in
    let inside = c.self.inside in
    let bytes = c.args.bytes.now in
    let old = inside.looks.look in
    let new = c.look_behind-new.result in
    let is = read inside.markup bytes c.args.params.now c.args.control old new c.sets_any-comes.result actions c.requires c.in_ok-terminal_actions_into.ensures
    (sym (c.are_lasting.ensures ∙ ap (λ l. are_lasting (map action_of l)) c.deref.ensures.value) ∙ c.if-are_lasting.true)
    (c.look_behind-new.ensures ∙ ap (λ l. set_all old (map action_of l)) c.deref-then-are_lasting.ensures.value)
    (c.sets_any-comes.ensures ∙ ap (λ l. sets_any (map action_of l)) c.deref-then-are_lasting-2.ensures.value) in
    appended inside.markup bytes old new _ _ c.args.out.now.items c.append_turn.new.out.items c.len-before.result
    is c.in_ok-append_turn.ensures (omega (arith, c.len-before.ensures))
    (c.split_at.ensures.back ∙ ap (drop c.len-before.result) c.deref-then-are_lasting-3.ensures.value)

pub returns-then-are_lasting : goal.returns-then-are_lasting
returns-then-are_lasting c =
    let actions = map action_of c.terminal_actions_into.new.actions.items in
    let inside = c.self.inside in
    let bytes = c.args.bytes.now in
    let come = begun inside.next.place inside.next.params.items inside.next.url.items in
    let first = setting inside.markup inside.looks inside.to.items come in
    let old = inside.looks.look in
    let new = c.look_behind-new.result in
    let after = setting inside.markup (looks new inside.looks.saved) inside.to.items come in
    let text = piece_texts (turn inside.markup c.sets_any-comes.result old new) in
    let is = read inside.markup bytes c.args.params.now c.args.control old new c.sets_any-comes.result actions c.requires c.in_ok-terminal_actions_into.ensures
    (sym (c.are_lasting.ensures ∙ ap (λ l. are_lasting (map action_of l)) c.deref.ensures.value) ∙ c.if-are_lasting.true)
    (c.look_behind-new.ensures ∙ ap (λ l. set_all old (map action_of l)) c.deref-then-are_lasting.ensures.value)
    (c.sets_any-comes.ensures ∙ ap (λ l. sets_any (map action_of l)) c.deref-then-are_lasting-2.ensures.value) in
    let gives = (given first bytes text new is).1 in
    (text, subst (λ (s : Setting). turns.sequence s bytes text after) c.self.view_is gives, c.in_ok-append_turn.ensures)
