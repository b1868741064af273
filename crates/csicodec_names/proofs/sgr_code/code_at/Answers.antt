use Rattle.csicodec_names.proofs.Places.{is_row, row_is}
use Rattle.csicodec_names.proofs.sgr_code.code_at.Goals as goal

pub returns : goal.returns
returns c = λ code. (is_row c.args.place code, row_is c.args.place code)
