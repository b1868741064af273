use Rattle.std.proofs.Common.{◌≡◌, ◌<◌, length, append_assoc, append-nil, rules}
use Rattle.csicodec_tool.proofs.Spelling.{spelled_cut, spelled_none, spells_all}
use Rattle.csicodec_tool.proofs.spelled.append_spelled.Goals as goal

pub returns-in_ok-append_char : goal.returns-in_ok-append_char
returns-in_ok-append_char c =
    let (more, spells, out) = c.in_ok-rest.ensures.spelled in
    let rest = c.in_ok-rest.rest.now in
    let some : 0 < length rest = search rules in
    rw (c.in_ok-append_char.ensures, out, spells_all c.args.text.now more rest spells, spelled_cut rest some c.in_ok-rest.ensures.cut) (simp append_assoc)

pub returns-else-not-is_empty : goal.returns-else-not-is_empty
returns-else-not-is_empty c =
    let (more, spells, out) = c.in_ok-rest.ensures.spelled in
    let rest = c.in_ok-rest.rest.now in
    let none : length rest ≡ 0 = search rules in
    rw (out, spells_all c.args.text.now more rest spells, spelled_none rest none, append-nil more)
