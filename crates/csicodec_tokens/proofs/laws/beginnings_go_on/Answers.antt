use Rattle.csicodec_tokens.proofs.Beginnings.{goes_on, begins}
use Rattle.csicodec_tokens.proofs.laws.beginnings_go_on.Goals as goal

pub returns : goal.returns
returns c = λ bytes. (
  λ b. let g = goes_on bytes b in (g.byte, g.more, g.list, g.final, g.seq),
  λ g. begins bytes (record { byte = g.0; more = g.1; list = g.2; final = g.3; seq = g.4 }),
)
