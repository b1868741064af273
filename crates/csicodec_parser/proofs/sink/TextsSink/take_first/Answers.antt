use Rattle.std.proofs.{Common.pos, lemmas.Result.IfOk-weaker}
use mir.{Val.SFits, Syntax.w64}
use Rattle.csicodec_parser.proofs.Common.{◌≡◌, ◌∷◌, ◌++◌, ◌∙◌, Some, ap, sym, rules, to_z-of_z, Integer, Sgr, text, styled}
use Rattle.csicodec_parser.proofs.{Fronts.front_piece, Fronts.piece_of_front, Cuts.texts_last, Cuts.terminal_first, Cuts.dec_first, Cuts.first_taken}
use Rattle.csicodec_parser.proofs.sink.TextsSink.take_first.Goals as goal

pub returns-in-Styles-Integer-clause-some : goal.returns-in-Styles-Integer-clause-some
returns-in-Styles-Integer-clause-some c =
    let fits : SFits w64 c.in-Styles-Integer.number = search rules in
    IfOk-weaker c.append_code.result _ _
    (λ known h yes.
    let (s, fronts, appended) = rw (to_z-of_z w64 c.in-Styles-Integer.number fits) at h yes in (
      Sgr s,
      λ others.
          front_piece c.args.group (c.args.first ∷ others) 1 (Sgr s)
          (rw (c.in-Styles-Integer.is-0, c.in-Styles-Integer.is-1) (ap styled (piece_of_front (Integer c.in-Styles-Integer.number ∷ others) (Some (s, 1)) (fronts others)))),
      λ before held. appended ∙ ap (λ l. l ++ text (Sgr s)) held ∙ sym (texts_last before (Sgr s)),
    ))
    c.append_code.ensures.known

pub returns-in-Modes-Integer-clause-some : goal.returns-in-Modes-Integer-clause-some
returns-in-Modes-Integer-clause-some c =
    let fits : SFits w64 c.in-Modes-Integer.number = search rules in
    IfOk-weaker c.append_mode.result _ _
    (λ known h yes.
    let (n, is, small, appended) = h yes in
    let first = terminal_first c.in-Modes-Integer.switch n c.final_byte.result small c.final_byte.ensures.is in
    let at : c.args.first ≡ Integer (pos n) = c.in-Modes-Integer.is-1 ∙ ap (λ z. Integer z) (sym (to_z-of_z w64 c.in-Modes-Integer.number fits) ∙ is) in
    (first.action, λ others. front_piece c.args.group (c.args.first ∷ others) 1 first.action (rw (c.in-Modes-Integer.is-0, at) (first.fronts others)), first_taken _ _ _ _ _ first appended))
    c.append_mode.ensures.known

pub returns-in-DecModes-Integer-clause-some : goal.returns-in-DecModes-Integer-clause-some
returns-in-DecModes-Integer-clause-some c =
    let fits : SFits w64 c.in-DecModes-Integer.number = search rules in
    IfOk-weaker c.append_mode-in-DecModes-Integer.result _ _
    (λ known h yes.
    let (n, is, small, appended) = h yes in
    let first = dec_first c.in-DecModes-Integer.change n c.final_byte-in-DecModes-Integer.result small c.final_byte-in-DecModes-Integer.ensures.is in
    let at : c.args.first ≡ Integer (pos n) = c.in-DecModes-Integer.is-1 ∙ ap (λ z. Integer z) (sym (to_z-of_z w64 c.in-DecModes-Integer.number fits) ∙ is) in
    (first.action, λ others. front_piece c.args.group (c.args.first ∷ others) 1 first.action (rw (c.in-DecModes-Integer.is-0, at) (first.fronts others)), first_taken _ _ _ _ _ first appended))
    c.append_mode-in-DecModes-Integer.ensures.known
