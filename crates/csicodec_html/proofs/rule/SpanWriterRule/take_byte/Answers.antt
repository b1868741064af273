use Rattle.std.proofs.Common.{◌∙◌, [], ap, append-nil, sym, subst, if◌then◌else◌}
use Rattle.csicodec_html.proofs.Common.{on_ok_weaker, led, ends_at, Setting, setting, switch, pieces_bytes, turns}
use Rattle.csicodec_html.proofs.Paired.{byte_gives, gives_none}
use Rattle.csicodec_clean.specs.Links.{begun}
use Rattle.csicodec_html.proofs.rule.SpanWriterRule.take_byte.Goals as goal

pub returns-then-not-self : goal.returns-then-not-self
returns-then-not-self c =
    let links = ap (λ (s : Setting). s.markup.links) c.self.view_is in
    ([], gives_none c.args.self.now c.args.byte (sym links ∙ c.if-not-self.true), sym (append-nil c.args.out.now.items))

pub returns : goal.returns
returns c =
    let inside = c.self.inside in
    let m = inside.markup in
    let to = inside.to.items in
    let b = begun inside.next.place inside.next.params.items inside.next.url.items in
    let byte = c.args.byte in
    let text = pieces_bytes (if ends_at b.place byte then switch m inside.looks.look to (led b.address.url) else []) in
    let new = begun c.take.new.self.place c.take.new.self.params.items c.take.new.self.url.items in
    let leads = rw (c.deref.ensures.value, c.ends_link-over.ensures) at c.in_ok-follow.ensures.to in
    on_ok_weaker c.take.result
    (λ e. (
      text,
      subst (λ (s : Setting). turns.byte s byte text (setting m inside.looks c.follow.new.to.items new)) c.self.view_is (byte_gives m inside.looks to c.follow.new.to.items b new byte c.if-not-self.false leads e),
      rw (c.deref.ensures.value, c.ends_link-over.ensures) at c.in_ok-follow.ensures.text,
    ))
    c.take.ensures
