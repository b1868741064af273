use Rattle.std.proofs.{Common.◌++◌, Common.◌∙◌, Common.refl, Common.ap, Common.append_assoc, lemmas.Result.on_ok_weaker}
use Rattle.csicodec_spans.specs.{Machine.collected, Visits.Stream}
use Rattle.csicodec_transform.proofs.driven.DriverTransform.end.Goals as goal

pub returns : goal.returns
returns g c =
    let h = c.in_ok-pause.ensures in
    let held = collected c.args.self.now.state in
    on_ok_weaker c.append_collected.result
    (λ is. (
      h.text ++ held,
      (h.text, c.pause.new.self.visitor, h.does_so, refl),
      is ∙ ap (λ (s : Stream g.row.V.Denot). c.pause.new.out.items ++ collected s.state) h.to ∙ ap (λ t. t ++ held) h.out ∙ append_assoc c.args.out.now.items h.text held,
    ))
    c.append_collected.ensures
