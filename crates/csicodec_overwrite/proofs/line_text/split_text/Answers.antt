use Rattle.csicodec_overwrite.proofs.LineTexts.{ascii_run}
use Rattle.csicodec_overwrite.proofs.line_text.split_text.Goals as goal

pub returns-in-Some-2-clause-text : goal.returns-in-Some-2-clause-text
returns-in-Some-2-clause-text c = ascii_run c.args.bytes.now c.split_front.result.0.now c.split_front.ensures.front
