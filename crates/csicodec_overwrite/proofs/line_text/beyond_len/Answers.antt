use Rattle.std.proofs.Common.{◌≡◌, ◌∙◌, Some, arith, sym}
use Rattle.bstr.specs.Utf8.{decoded}
use Rattle.csicodec_clean.proofs.Told.{char_within}
use Rattle.csicodec_overwrite.proofs.LineTexts.{beyond_text}
use Rattle.csicodec_overwrite.proofs.line_text.beyond_len.Goals as goal

pub returns-in-Some-default-clause-within : goal.returns-in-Some-default-clause-within
returns-in-Some-default-clause-within c =
    let char : Some c.in-Some-default.char ≡ (decoded c.args.bytes.now).char = sym c.in-Some-default.is-0 ∙ c.decode.ensures.char in
    (char_within c.args.bytes.now c.in-Some-default.char c.decode.result.1 char c.decode.ensures.size).1

pub returns-in-Some-default-clause-text : goal.returns-in-Some-default-clause-text
returns-in-Some-default-clause-text c =
    let char : Some c.in-Some-default.char ≡ (decoded c.args.bytes.now).char = sym c.in-Some-default.is-0 ∙ c.decode.ensures.char in
    beyond_text c.args.bytes.now c.in-Some-default.char c.decode.result.1 char c.decode.ensures.size (omega (arith, c.if-char-ge160.true))
