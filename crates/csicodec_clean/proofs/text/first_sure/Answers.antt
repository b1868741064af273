use Rattle.std.proofs.Common.{◌<◌, length, sym, ◌∙◌, rules}
use Rattle.csicodec_clean.proofs.Plain.{read_char}
use Rattle.csicodec_clean.proofs.text.first_sure.Goals as goal

pub returns-in-Some-clause-some : goal.returns-in-Some-clause-some
returns-in-Some-clause-some c =
    let some : 0 < length c.args.bytes.now = search rules in
    read_char c.args.bytes.now c.in-Some.char c.decode-found.result.1 some (sym c.in-Some.is ∙ c.decode-found.ensures.char) c.decode-found.ensures.size
