use Rattle.csicodec_c.proofs.Calls.{cleaned_calls, stripped_calls}
use Rattle.csicodec_c.proofs.laws.any_steps.Goals as goal

pub returns-clause-strip : goal.returns-clause-strip
returns-clause-strip c = stripped_calls

pub returns-clause-clean : goal.returns-clause-clean
returns-clause-clean c = cleaned_calls
