use Rattle.std.proofs.Common.{◌≡◌, length}
use Rattle.csicodec_keys.specs.Fields.{from_separator}
use Rattle.csicodec_keys.proofs.fields.from_separator.Given as goal

abbrev pub invariant-loop-rest : goal.invariant-loop-rest
invariant-loop-rest l = from_separator l.tokens ≡ from_separator l.rest

abbrev pub decreases-loop-rest : goal.decreases-loop-rest
decreases-loop-rest l = length l.rest
