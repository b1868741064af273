use Rattle.csicodec_overwrite.proofs.line_text.begins_with_mark.Goals as goal

pub returns-in-Some : goal.returns-in-Some
returns-in-Some c = λ some. rw (← c.decode-found.ensures.char, c.in-Some.is) (c.is_mark.ensures some)
