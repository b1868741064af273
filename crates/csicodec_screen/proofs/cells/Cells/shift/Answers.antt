use Rattle.std.proofs.Common.{◌∙◌}
use Rattle.csicodec_screen.specs.declared.cell.Cell.TheVariants.{Empty}
use Rattle.csicodec_screen.proofs.cells.Cells.shift.Goals as goal

pub returns : goal.returns
returns c = rw (← c.self.view_is) (c.fill.ensures ∙ c.shift-start.ensures (Empty c.args.background))
