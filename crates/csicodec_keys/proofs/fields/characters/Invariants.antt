use Rattle.std.proofs.Common.{◌≡◌, length}
use Rattle.csicodec_keys.specs.Fields.{characters}
use Rattle.csicodec_keys.proofs.fields.characters.Given as goal

abbrev pub invariant-loop-rest : goal.invariant-loop-rest
invariant-loop-rest l = characters l.fn.text.items l.tokens ≡ characters l.all.items l.rest

abbrev pub decreases-loop-rest : goal.decreases-loop-rest
decreases-loop-rest l = length l.rest
