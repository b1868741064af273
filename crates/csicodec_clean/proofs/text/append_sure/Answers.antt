use Rattle.std.proofs.Common.{◌++◌, ◌∷◌, [], take, drop, sym, ap, ◌∙◌, append_assoc, take-append-drop}
use Rattle.csicodec_clean.proofs.{Common.chars_as, Common.ReadsTo, Plain.shown_on, Told.reads_on, Told.tells_more, Told.tells_read}
use Rattle.csicodec_clean.proofs.text.append_sure.Goals as goal

pub loop-char-init : goal.loop-char-init
loop-char-init g c = tells_read g.T.Rule.gives.writing c.args.bytes.now _ _ _ c.in_ok-told.ensures

pub loop-char-preserved : goal.loop-char-preserved
loop-char-preserved g c =
    let w = g.T.Rule.gives.writing in
    let (chars, reads, out) = c.loop-char.invariant in
    let bytes = c.args.bytes.now in
    let rest = c.loop-char.rest.now in
    let behind = drop c.in-Some.size rest in
    let one = c.in-Some.char ∷ [] in
    let first : ReadsTo rest one behind = (c.in-Some.ensures.some.0, take c.in-Some.size rest, sym (take-append-drop c.in-Some.size rest)) in
    let here = reads_on bytes rest behind chars one reads first in
    let shown = c.in_ok-append_char.ensures ∙ ap (λ t. t ++ chars_as w one) out ∙ append_assoc c.args.out.now.items (chars_as w chars) (chars_as w one) in
    tells_more w bytes behind c.split_at.result.1.now _ (chars ++ one) c.args.out.now.items _ _ here c.split_at.ensures.back
    (shown ∙ ap (λ t. c.args.out.now.items ++ t) (sym (shown_on w chars one))) c.in_ok-rest.ensures
