use Rattle.csicodec_clean.proofs.{Again.one_styled, Told.one_text as one_stripped}
use Rattle.csicodec_lines.proofs.{Texts.one_text, Common.Strips, Common.longest, Common.StylesIn}
use Rattle.csicodec_lines.proofs.laws.one_text.Goals as goal

pub returns-clause-stripped : goal.returns-clause-stripped
returns-clause-stripped c = one_text (Strips longest) (one_stripped longest)

pub returns-clause-cleaned : goal.returns-clause-cleaned
returns-clause-cleaned c = λ d. one_text (StylesIn d) (one_styled d)
