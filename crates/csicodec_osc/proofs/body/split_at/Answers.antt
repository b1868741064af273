use Rattle.std.proofs.lemmas.List.{take_rest}
use Rattle.csicodec_osc.proofs.Reading.{cut_at, none_cut}
use Rattle.csicodec_osc.proofs.body.split_at.Goals as goal

pub returns-in_err-place : goal.returns-in_err-place
returns-in_err-place c = rw c.from_residual.ensures (none_cut c.args.at c.args.bytes.now c.in_err-place.ensures)

pub returns : goal.returns
returns c = rw take_rest (cut_at c.args.at c.args.bytes.now c.in_ok-place.place c.in_ok-place.ensures)
