use Rattle.std.proofs.{Common.arith, lemmas.Bool.Decides.nat_tests}
use Rattle.csicodec_events.proofs.Stops.{held_at_end}
use Rattle.csicodec_events.proofs.text.held_len.Goals as goal

pub returns-then-is_empty-clause-holds : goal.returns-then-is_empty-clause-holds
returns-then-is_empty-clause-holds c = held_at_end c.args.span.now c.args.behind.now c.unfinished_len.result (grind (arith, nat_tests)) c.unfinished_len.ensures.some c.unfinished_len.ensures.none
