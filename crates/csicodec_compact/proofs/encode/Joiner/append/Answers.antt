use Rattle.std.proofs.Common.{map, ap, ◌++◌, ◌∙◌}
use Rattle.csicodec_compact.proofs.{JoinedLists.encodes-each, JoinedLists.encodes-shorter, JoinedLists.extended, Common.on_ok_weaker, Common.action_of}
use Rattle.csicodec_compact.proofs.encode.Joiner.append.Goals as goal

pub returns-then-branch : goal.returns-then-branch
returns-then-branch c =
    let served = c.in_ok-find.ensures c.if-branch.true in
    on_ok_weaker c.extend_from_slice.result
    (λ items. (
      c.find.new.self.spelling,
      encodes-shorter (map action_of c.args.run.now) c.deref.result.now c.find.new.self.spelling (c.deref.ensures.value ∙ c.in_ok-texts.ensures.texts) served.0 served.1,
      items ∙ ap (λ t. c.args.out.now.items ++ t) c.as_slice.ensures,
    ))
    (extended c.extend_from_slice.result _ _ _ c.extend_from_slice.ensures.items)

pub returns : goal.returns
returns c =
    on_ok_weaker c.extend_from_slice-else-branch.result
    (λ items. (
      c.deref-else-branch.result.now,
      encodes-each (map action_of c.args.run.now) c.deref-else-branch.result.now (c.deref-else-branch.ensures.value ∙ c.in_ok-texts.ensures.texts),
      items,
    ))
    (extended c.extend_from_slice-else-branch.result _ _ _ c.extend_from_slice-else-branch.ensures.items)
