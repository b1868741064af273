use Rattle.std.proofs.Common.{refl}
use Rattle.csicodec_clean.proofs.{Common.longest, Common.first_kept, Plain.strips, Styled.styles}
use Rattle.csicodec_clean.proofs.laws.rules.Goals as goal

pub returns-clause-dropped : goal.returns-clause-dropped
returns-clause-dropped c = strips longest

pub returns-clause-kept : goal.returns-clause-kept
returns-clause-kept c = λ d bytes text. styles d (first_kept d) bytes text refl
