use Rattle.csicodec_overwrite.proofs.Common.{◌++◌, ◌∷◌, [], take, drop, sym, ap, subst, ◌∙◌, append_assoc, take-append-drop, IsRead, of_char}
use Rattle.csicodec_overwrite.proofs.Read.{one_on}
use Rattle.csicodec_clean.proofs.Plain.{cut_short, read_on}
use Rattle.csicodec_overwrite.proofs.text.append_sure.Goals as goal

pub loop-char-preserved : goal.loop-char-preserved
loop-char-preserved c =
    let (front, split) = c.loop-char.invariant.parts in
    let (chars, read, out) = c.loop-char.invariant.chars in
    let bytes = c.args.bytes.now in
    let rest = c.loop-char.rest.now in
    let size = c.in-Some.size in
    let one = c.in-Some.char ∷ [] in
    let old = c.args.steps.now.items in
    let behind = c.split_at.ensures.back in
    let here = read_on bytes rest (drop size rest) chars one read c.in-Some.ensures.some.0 in
    record {
      parts = (
        front ++ take size rest,
        split ∙ ap (λ t. front ++ t) (sym (take-append-drop size rest)) ∙ sym (append_assoc front (take size rest) (drop size rest)) ∙ ap (λ t. (front ++ take size rest) ++ t) (sym behind),
      );
      chars = (
        chars ++ one,
        subst (λ t. IsRead bytes (chars ++ one) t) (sym behind) here,
        one_on of_char c.in-Some.char chars old c.loop-char.steps.items c.push.new.self.items out
            (rw (c.char_step.ensures) c.in_ok-push.ensures.items),
      );
    }

pub returns-clause-short : goal.returns-clause-short
returns-clause-short c = cut_short _ c.in_default.ensures.none
