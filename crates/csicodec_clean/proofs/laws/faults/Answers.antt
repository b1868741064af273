use Rattle.csicodec_clean.proofs.{Common.longest, Told.not_left, Told.not_plain}
use Rattle.csicodec_clean.proofs.laws.faults.Goals as goal

pub returns-clause-plain : goal.returns-clause-plain
returns-clause-plain c = not_plain

pub returns-clause-stripped : goal.returns-clause-stripped
returns-clause-stripped c = not_left longest
