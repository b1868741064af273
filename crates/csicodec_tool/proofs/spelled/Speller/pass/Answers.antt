use Rattle.std.proofs.Common.{◌≡◌, arith}
use Rattle.csicodec_clean.proofs.Common.{common_steps, rest_is}
use Rattle.csicodec_tool.proofs.spelled.Speller.pass.Goals as goal

pub returns-clause-spelled : goal.returns-clause-spelled
returns-clause-spelled g c =
    let (more, spells, out) = c.in_ok-rest.ensures.spelled in
    let (front, split) = c.in_ok-rest.ensures.behind in
    let rest = c.in_ok-rest.rest.now in
    let behind = rest_is c.deref.result.now front rest split in
    let kept : c.keep_from.new.bytes.items ≡ rest = grind (arith, common_steps, c.keep_from.ensures, c.deref.ensures.value, c.len.ensures, behind) in
    (more, rw (kept, ← c.deref.ensures.value) spells, out)
