use Rattle.std.proofs.Common.{◌∙◌, refl, sym, arith}
use Rattle.csicodec_sequences.proofs.Table.{none_left, row_read}
use Rattle.csicodec_sequences.proofs.known.first_known.Goals as goal

pub returns-in-Some : goal.returns-in-Some
returns-in-Some c =
    sym (c.loop-index.invariant.first ∙ row_read c.args.forms.now c.args.slots.now c.loop-index.index _ _ c.args.params.now c.args.control _ (omega arith) (omega (arith, c.requires)) c.in-Some.ensures)

pub loop-index-preserved : goal.loop-index-preserved
loop-index-preserved c = record {
  end = refl;
  first = c.loop-index.invariant.first
      ∙ row_read c.args.forms.now c.args.slots.now c.loop-index.index _ _ c.args.params.now c.args.control _ (omega arith) (omega (arith, c.requires)) c.in_default.ensures;
}

pub returns : goal.returns
returns c =
    none_left c.args.forms.now _ c.loop-index.index c.args.params.now c.args.control (omega arith) ∙ sym c.loop-index.invariant.first
