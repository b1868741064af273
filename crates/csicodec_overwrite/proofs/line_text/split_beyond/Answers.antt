use Rattle.csicodec_overwrite.proofs.LineTexts.{led_behind}
use Rattle.csicodec_overwrite.proofs.line_text.split_beyond.Goals as goal

pub returns-clause-text : goal.returns-clause-text
returns-clause-text c =
    let led = c.begins_with_mark.ensures c.if-begins_with_mark.false in
    rw c.split_at-2.ensures.front (led_behind c.args.bytes.now c.behind_text-rest.result.now c.behind_text-rest.ensures led)
