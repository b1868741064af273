use Rattle.std.proofs.Common.{arith}
use Rattle.csicodec_parser.specs.ActionOf.{action_of}
use Rattle.csicodec_structs.proofs.Running.{short_normal}
use Rattle.csicodec_structs.proofs.normalise.short_form.Goals as goal

pub returns : goal.returns
returns c =
    short_normal c.args.bytes.now c.in-Ok.read.rest.now c.in_ok-text.text _ c.in-Ok.read.control (action_of c.in_ok-action.action)
    c.in-Ok.ensures.found (omega arith) c.in_ok-action.ensures c.in_ok-text.ensures
