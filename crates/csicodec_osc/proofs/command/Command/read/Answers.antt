use Rattle.std.proofs.Common.{◌≡◌, Some}
use Rattle.std.specs.Prelude.{option_map}
use Rattle.csicodec_osc.specs.{Commands.number, Private.Reading.behind}
use Rattle.csicodec_osc.proofs.command.Command.read.Goals as goal

pub returns : goal.returns
returns c =
    let begins : Some (option_map (λ t. t.now) c.in_ok-tail.tail) ≡ behind (number c.args.self) c.args.content.now = rw (c.in_ok-tail.was, c.number.ensures) at c.behind.ensures in
    rw (← begins) c.with.ensures
