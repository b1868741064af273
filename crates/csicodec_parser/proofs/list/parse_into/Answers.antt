use Rattle.csicodec_parser.proofs.Cuts.{on_ok}
use Rattle.csicodec_parser.proofs.list.parse_into.Goals as goal

pub returns : goal.returns
returns g c =
    on_ok c.list_into.result (λ taken before h. let (all, are, put) = taken in (all, are, put before h)) (rw c.new-tokens.ensures at c.list_into.ensures.taken)
