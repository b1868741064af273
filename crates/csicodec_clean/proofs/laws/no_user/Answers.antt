use Rattle.csicodec_clean.proofs.Linked.{led_twice}
use Rattle.csicodec_clean.proofs.laws.no_user.Goals as goal

pub returns-clause-led : goal.returns-clause-led
returns-clause-led c = led_twice
