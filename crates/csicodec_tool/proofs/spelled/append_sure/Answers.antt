use Rattle.std.proofs.Common.{◌++◌, [], refl, sym, ap, ◌∙◌, append_assoc, append-nil, take, drop, take-append-drop}
use Rattle.csicodec_tool.proofs.Spelling.{spells_char, spells_none, spells_on}
use Rattle.csicodec_tool.specs.Spelled.{spelled}
use Rattle.csicodec_tool.proofs.spelled.append_sure.Goals as goal

pub loop-char-init : goal.loop-char-init
loop-char-init c = (([], spells_none c.args.text.now, sym (append-nil c.args.out.now.items)), ([], refl))

pub loop-char-preserved : goal.loop-char-preserved
loop-char-preserved c =
    let text = c.args.text.now in
    let rest = c.loop-char.rest.now in
    let size = c.in-Some.size in
    let char = c.in-Some.char in
    let ((more, spells, out), (front, split)) = c.loop-char.invariant in (
      (
        more ++ spelled char,
        rw c.split_at.ensures.back (spells_on text rest (drop size rest) more (spelled char) spells (spells_char rest (drop size rest) char c.in-Some.ensures.some.0)),
        c.in_ok-append_char.ensures ∙ ap (λ t. t ++ spelled char) out ∙ append_assoc c.args.out.now.items more (spelled char),
      ),
      (
        front ++ take size rest,
        rw c.split_at.ensures.back (split ∙ ap (λ t. front ++ t) (sym (take-append-drop size rest)) ∙ sym (append_assoc front (take size rest) (drop size rest))),
      ),
    )
