use Rattle.csicodec_structs.proofs.Laid.{lays_more}
use Rattle.csicodec_structs.proofs.lay.lay_struct.Goals as goal

pub returns : goal.returns
returns c = λ old new a made tokens oa op before lays.
    lays_more oa c.args.actions.now c.put.new.room op old new c.args.count c.in_ok-next.next c.args.end c.args.given before a lays made c.put.ensures tokens c.in_ok-next.ensures.1
