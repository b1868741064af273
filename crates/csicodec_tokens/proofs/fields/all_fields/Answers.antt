use Rattle.std.proofs.{Common.[], Common.refl, lemmas.List.append-nil}
use Rattle.csicodec_tokens.proofs.fields.all_fields.Goals as goal

pub returns-clause-ok : goal.returns-clause-ok
returns-clause-ok c =
    let i = c.loop-field.invariant in
    (i.kept, rw append-nil at (i.completes [] (rw c.in_default.ensures refl)))
