use Rattle.std.proofs.Common.{arith}
use Rattle.csicodec_tokens.proofs.Walks.{digit_step, other_step, stop_step}
use Rattle.csicodec_tokens.proofs.body.with_byte.Goals as goal

pub returns-in-48-to-57 : goal.returns-in-48-to-57
returns-in-48-to-57 c = digit_step c.with_digit.result c.args.number c.args.byte (omega arith, omega arith) c.with_digit.ensures

pub returns-in-32-to-47 : goal.returns-in-32-to-47
returns-in-32-to-47 c = other_step c.args.byte c.args.number (omega arith, omega arith) (λ d. omega (arith, d.0))

pub returns-in-58-to-63 : goal.returns-in-58-to-63
returns-in-58-to-63 c = other_step c.args.byte c.args.number (omega arith, omega arith) (λ d. omega (arith, d.1))

pub returns-in-64-to-255 : goal.returns-in-64-to-255
returns-in-64-to-255 c = stop_step c.args.byte c.args.number (λ p. omega (arith, p.1))
