use Rattle.std.proofs.{Common.◌∙◌, Common.length, Common.refl, lemmas.Slice.pushed}
use Rattle.csicodec_screen.proofs.Parts.{mid_part}
use Rattle.csicodec_screen.proofs.cells.copy_part.Goals as goal

pub returns : goal.returns
returns c =
    pushed _ c.new-copy.ensures.items c.in_ok-extend_from_slice.was c.extend_from_slice.ensures.items
    ∙ mid_part c.args.cells.now c.args.from c.args.to (length c.args.cells.now) c.part-start.result.0 c.part-start.result.1 refl c.part-start.ensures.start c.part-start.ensures.end
