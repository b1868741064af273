use Rattle.std.proofs.Common.{◌≡◌, take}
use Rattle.csicodec_structs.specs.Private.Steps.{AreTexts}
use Rattle.csicodec_structs.proofs.encode.texts_of.Given as goal

-- the texts of the actions up to here
abbrev pub invariant-loop-given : goal.invariant-loop-given
invariant-loop-given l = AreTexts (take l.given-index l.structs) l.params l.all × (l.at ≡ l.given-index)
