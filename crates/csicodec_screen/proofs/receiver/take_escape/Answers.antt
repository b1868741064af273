use Rattle.std.proofs.Common.{arith}
use Rattle.csicodec_screen.proofs.Fed.{says_three, says_two}
use Rattle.csicodec_screen.proofs.receiver.take_escape.Goals as goal

pub returns-in-len2 : goal.returns-in-len2
returns-in-len2 c =
    says_two c.esc_dispatch.result c.args.bytes.now c.args.screen.now c.esc_dispatch.new.self (omega (arith, c.in-len2.len_at_least, c.in-len2.len_below)) c.esc_dispatch.ensures

pub returns-in-len3 : goal.returns-in-len3
returns-in-len3 c =
    says_three c.esc_dispatch-in-len3.result c.args.bytes.now c.args.screen.now c.esc_dispatch-in-len3.new.self (omega (arith, c.in-len3.len_at_least, c.in-len3.len_below)) c.esc_dispatch-in-len3.ensures
