use Rattle.csicodec_listing.proofs.Common.{◌≡◌, ◌∷◌, length, refl, ap, ◌∙◌, arith, IfSome_then, Token, members, parse_map, value, value-begin_object, no_members, object, converted, of_json}
use Rattle.csicodec_listing.proofs.Member.{converted-object, says_object}
use Rattle.csicodec_listing.proofs.glance.text_of.Goals as goal

pub returns-in-Some-BeginObject : goal.returns-in-Some-BeginObject
returns-in-Some-BeginObject c =
    let rest = c.next.new.self in
    let is : c.args.reader.now ≡ Token.begin_object ∷ rest = grind arith in
    let opened = ap (converted of_json) (ap (value 127) is ∙ value-begin_object 127 rest (omega arith)) ∙ converted-object (members (value 126) (length rest) rest) in
    IfSome_then c.text_at_end.result c.text_at_end.ensures (λ s follow.
    let (found, are, says) = follow (length rest) no_members (omega arith) (refl, refl, refl) in
    (object found, opened ∙ ap (parse_map object) are, says_object s.now found says))
