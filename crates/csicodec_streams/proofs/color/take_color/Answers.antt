use Rattle.std.proofs.Common.{◌∷◌, refl}
use Rattle.csicodec_base.specs.SgrText.{sgr_text}
use Rattle.csicodec_streams.proofs.Colors.{color_normal}
use Rattle.csicodec_streams.proofs.color.take_color.Goals as goal

pub returns-in-Ok-clause-normal : goal.returns-in-Ok-clause-normal
returns-in-Ok-clause-normal c = λ some. (
  27 ∷ 91 ∷ sgr_text c.in-Some.sgr,
  color_normal c.args.bytes.now c.in-Some.rest.now _ c.in-Some.sgr _ c.in-Some.ensures.read refl refl,
  c.in-Ok.ensures.ok,
)
