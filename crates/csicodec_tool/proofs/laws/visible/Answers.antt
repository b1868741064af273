use Rattle.csicodec_tool.proofs.Spelling.{logged_seen, overwritten_seen, stripped_seen}
use Rattle.csicodec_tool.proofs.laws.visible.Goals as goal

pub returns-clause-stripped : goal.returns-clause-stripped
returns-clause-stripped g c = stripped_seen c

pub returns-clause-overwritten : goal.returns-clause-overwritten
returns-clause-overwritten g c = overwritten_seen c

pub returns-clause-logged : goal.returns-clause-logged
returns-clause-logged g c = logged_seen c
