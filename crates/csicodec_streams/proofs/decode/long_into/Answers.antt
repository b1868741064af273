use Rattle.csicodec_parser.proofs.Cuts.{on_ok}
use Rattle.csicodec_streams.proofs.decode.long_into.Goals as goal

pub returns : goal.returns
returns g c = on_ok c.list_into.result (λ taken. taken) (rw c.new-tokens.ensures at c.list_into.ensures.taken)
