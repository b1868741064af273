use Rattle.std.proofs.Common.{arith}
use Rattle.csicodec_events.proofs.Stops.{read_told}
use Rattle.csicodec_events.proofs.event.Events.at_once.Goals as goal

pub returns-in-Some-clause-some : goal.returns-in-Some-clause-some
returns-in-Some-clause-some c =
    let e = c.args.self.now in
    let bytes = c.args.front.now.bytes in
    let r = rw c.in-Some.is at c.in_ok-control.ensures.read in
    let size = r.1.1 in
    rw c.found.ensures.event (read_told e bytes r.0 c.read.new.params.items c.in-Some.control c.in-Some.len c.found.new.self c.requires.looked c.requires.begins r.1.0
    (omega (arith, size)) c.found.ensures.onward)
