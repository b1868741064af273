use Rattle.std.proofs.Common.{◌∙◌, ap, length, refl}
use Rattle.std.specs.Prelude.{map}
use Rattle.csicodec_screen.specs.Rows.{segment}
use Rattle.csicodec_screen.proofs.Parts.{mid_part}
use Rattle.csicodec_screen.proofs.rows.copy_area_parts.Goals as goal

pub returns : goal.returns
returns c =
    c.in_ok-parts.ensures
    ∙ ap (map (segment c.args.area.first c.args.area.last))
    (mid_part c.args.rows.now c.args.area.top c.args.area.bottom (length c.args.rows.now) c.part-start.result.0 c.part-start.result.1 refl c.part-start.ensures.start c.part-start.ensures.end)
