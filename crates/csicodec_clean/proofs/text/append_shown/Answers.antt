use Rattle.std.proofs.Common.{◌≡◌, ◌<◌, length, ap, append_assoc, append-nil, rules}
use Rattle.csicodec_clean.proofs.{Common.chars_as, Plain.cut_char, Plain.shown_empty, Plain.shown_read}
use Rattle.csicodec_clean.proofs.text.append_shown.Goals as goal

pub returns-in_ok-append_char : goal.returns-in_ok-append_char
returns-in_ok-append_char g c =
    let w = g.T.Rule.gives.writing in
    let (chars, (read, front, parts), out) = c.in_ok-rest.ensures.chars in
    let rest = c.in_ok-rest.rest.now in
    let some : 0 < length rest = search rules in
    let last = ap (chars_as w) (cut_char rest some c.in_ok-rest.ensures.cut) in
    rw (c.in_ok-append_char.ensures, out, shown_read w c.args.bytes.now chars rest read, last) (simp append_assoc)

pub returns-else-not-is_empty : goal.returns-else-not-is_empty
returns-else-not-is_empty g c =
    let w = g.T.Rule.gives.writing in
    let (chars, (read, front, parts), out) = c.in_ok-rest.ensures.chars in
    let rest = c.in_ok-rest.rest.now in
    let none : length rest ≡ 0 = search rules in
    rw (out, shown_read w c.args.bytes.now chars rest read, shown_empty w rest none, append-nil (chars_as w chars))
