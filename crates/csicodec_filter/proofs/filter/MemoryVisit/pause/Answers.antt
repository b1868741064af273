use Rattle.std.proofs.Common.{[], refl, sym, append-nil}
use Rattle.csicodec_filter.proofs.filter.MemoryVisit.pause.Goals as goal

pub returns : goal.returns
returns g c = ([], record { written = refl; same = λ bytes own h. h }, sym (append-nil c.args._out.now.items))
