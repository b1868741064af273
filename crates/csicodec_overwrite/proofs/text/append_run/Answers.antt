use Rattle.csicodec_overwrite.proofs.{Common.◌≡◌, Common.◌<◌, Common.length, Common.rules, Read.run_all, Read.run_cut}
use Rattle.csicodec_clean.proofs.Plain.{cut_char}
use Rattle.csicodec_overwrite.proofs.text.append_run.Goals as goal

pub returns-in_ok-push : goal.returns-in_ok-push
returns-in_ok-push c =
    let (chars, read, out) = c.in_ok-rest.ensures.chars in
    let rest = c.in_ok-rest.rest.now in
    let some : 0 < length rest = search rules in
    run_cut c.args.bytes.now chars rest c.args.steps.now.items _ _ read (cut_char rest some c.in_ok-rest.ensures.cut) out
    (rw c.char_step.ensures c.in_ok-push.ensures.items)

pub returns-else-not-is_empty : goal.returns-else-not-is_empty
returns-else-not-is_empty c =
    let (chars, read, out) = c.in_ok-rest.ensures.chars in
    let rest = c.in_ok-rest.rest.now in
    let none : length rest ≡ 0 = search rules in
    run_all c.args.bytes.now chars rest c.args.steps.now.items _ read none out
