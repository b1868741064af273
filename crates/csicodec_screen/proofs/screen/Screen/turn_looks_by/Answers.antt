use Rattle.std.proofs.Common.{◌∙◌, true, ap}
use Rattle.csicodec_screen.specs.{Areas.looked, Private.Changes.look_behind, declared.rows.Area.Area}
use Rattle.csicodec_screen.proofs.screen.Screen.turn_looks_by.Goals as goal

pub returns : goal.returns
returns c = c.change_attributes.ensures ∙ ap (λ (a : Area). looked (look_behind true c.args.fields.now) a c.args.self.now) c.area_at-area.ensures
