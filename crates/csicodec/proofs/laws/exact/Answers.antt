use Rattle.csicodec_parser.specs.ActionOf.{action_of}
use Rattle.csicodec_streams.proofs.Exactly.{exact_lem, no-attribute}
use Rattle.csicodec.proofs.laws.exact.Goals as goal

pub returns-in-Sgr : goal.returns-in-Sgr
returns-in-Sgr c = exact_lem (action_of c.args.action.now) c.args.parameters_truncated (rw c.in-Sgr.is c.sgr_in_range.ensures)

pub returns-in_default : goal.returns-in_default
returns-in_default c = exact_lem (action_of c.args.action.now) c.args.parameters_truncated (no-attribute c.args.action.now c.in_default.not-Sgr)
