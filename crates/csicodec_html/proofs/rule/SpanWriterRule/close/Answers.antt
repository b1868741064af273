use Rattle.std.proofs.Common.{◌≡◌, ◌++◌, append_assoc, refl}
use Rattle.csicodec_html.proofs.Common.{flat_map-append, on_ok_weaker, closing, shuts, piece_texts}
use Rattle.csicodec_html.proofs.rule.SpanWriterRule.close.Goals as goal

pub returns : goal.returns
returns c = on_ok_weaker c.append_shut.result
    (λ (e : c.append_shut.new.out.items ≡ c.append_end.new.out.items ++ piece_texts (shuts c.deref.result.now)).
    (piece_texts (closing c.args.self.now), refl, rw (← c.self.view_is, e, c.deref.ensures.value, c.in_ok-append_end.ensures) (simp (append_assoc, flat_map-append))))
    c.append_shut.ensures
