use Rattle.csicodec_tool.proofs.Common.{◌++◌, ◌∙◌, [], ◌∷◌, refl, sym, append_assoc, append-nil, on_ok_weaker, adds_all, adds_none, adds_on, PassesLog}
use Rattle.csicodec_tool.proofs.Logged.{part_on}
use Rattle.csicodec_tool.proofs.log.LogTransform.take.Goals as goal

pub returns-then-not-self-clause-passes : goal.returns-then-not-self-clause-passes
returns-then-not-self-clause-passes c =
    on_ok_weaker c.take_part.result
    (λ (more, goes, out). (more, part_on c.args.self.now c.take_part.new.self c.args.bytes.now more (λ t. cc (t, c.if-not-self.true)) goes, out))
    c.take_part.ensures

pub loop-line-init : goal.loop-line-init
loop-line-init c = (c.if-not-self.false, adds_none PassesLog c.args.self.now c.args.bytes.now c.args.out.now.items)

pub loop-line-preserved : goal.loop-line-preserved
loop-line-preserved c =
    let line = c.in-Some.line.now in
    let parts = c.in-Some.ensures.whole ∙ sym (append_assoc line (10 ∷ []) c.in-Some.behind.now) in (
      c.in_ok-take_line.ensures.each,
      adds_on PassesLog c.args.self.now c.loop-line.self c.take_line.new.self _ _ _ _ _ _ c.loop-line.invariant.1 (line ++ 10 ∷ [], parts, c.in_ok-take_line.ensures.goes),
    )

pub returns-clause-passes : goal.returns-clause-passes
returns-clause-passes c =
    let l = c.loop-line in
    let new = c.take_part-2.new.self in
    let rest = l.rest.now in
    on_ok_weaker c.take_part-2.result
    (λ (later, on, longer). adds_all PassesLog c.args.self.now new _ [] _ _ (adds_on PassesLog c.args.self.now l.self new _ _ _ _ _ _ l.invariant.1
    (rest, sym (append-nil rest), (later, part_on l.self new rest later (λ _. c.in_default.ensures.none) on, longer))) refl)
    c.take_part-2.ensures
