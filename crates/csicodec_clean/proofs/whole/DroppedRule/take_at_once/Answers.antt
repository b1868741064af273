use Rattle.std.proofs.Common.{[], ◌-◌, ap, append-nil, length, refl, sym}
use Rattle.csicodec_clean.proofs.Chunks.{sequence_read}
use Rattle.csicodec_clean.proofs.whole.DroppedRule.take_at_once.Goals as goal

pub returns-in-Ok-clause-taken : goal.returns-in-Ok-clause-taken
returns-in-Ok-clause-taken c = λ some.
    let behind = c.in-Ok.behind.now in
    let found = rw c.near-front.ensures at c.in-Ok.ensures.found in
    let size = ap (λ l. length l - length behind) c.near-front.ensures in
    ([], (sequence_read c.args.limit _ c.args.bytes.now behind found size).1, refl, sym (append-nil c.args._out.now.items))
