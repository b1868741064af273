use Rattle.csicodec_clean.proofs.Told.{further}
use Rattle.csicodec_overwrite.proofs.LineTexts.{ascii_behind}
use Rattle.csicodec_overwrite.specs.Private.Front.{line_char}
use Rattle.csicodec_overwrite.proofs.line_text.behind_text.Goals as goal

pub loop-rest-init : goal.loop-rest-init
loop-rest-init c = record { passed = rw c.behind-rest.ensures (ascii_behind c.args.bytes.now) }

pub loop-rest-preserved : goal.loop-rest-preserved
loop-rest-preserved c =
    let bytes = c.args.bytes.now in
    let rest = c.loop-rest.rest.now in
    let mid = c.behind_beyond-further.result.now in
    let passed = further line_char bytes rest mid c.loop-rest.invariant.passed c.behind_beyond-further.ensures in
    rw c.behind-rest-in-loop-rest.ensures (record { passed = further line_char bytes mid _ passed (ascii_behind mid) })
