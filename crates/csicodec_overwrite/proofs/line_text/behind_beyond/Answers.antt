use Rattle.csicodec_clean.proofs.Told.{behind_front, further}
use Rattle.csicodec_overwrite.proofs.LineTexts.{none_behind}
use Rattle.csicodec_overwrite.specs.Private.Front.{line_char}
use Rattle.csicodec_overwrite.proofs.line_text.behind_beyond.Goals as goal

pub loop-rest-init : goal.loop-rest-init
loop-rest-init c = record { passed = none_behind c.args.bytes.now }

pub loop-rest-preserved : goal.loop-rest-preserved
loop-rest-preserved c =
    let rest = c.loop-rest.rest.now in
    rw c.split_at.ensures.back (record { passed = further line_char c.args.bytes.now rest _ c.loop-rest.invariant.passed (behind_front line_char rest _ c.beyond_len-len.ensures.text) })
