use Rattle.csicodec_listing.proofs.Common.{◌≡◌, ℕ, List, Bool, true, false, None, Result, Ok, Err, IfErr, IfOk, cond, refl, sym, subst, IsUtf8-from_is_utf8, IsUtf8, is_utf8, read, Fault, NoObject, IsTold, of_read}
use Rattle.csicodec_listing.proofs.Member.{line_is}
use Rattle.csicodec_listing.proofs.object.bytes_of_line.Goals as goal

-- what is no UTF-8 is no object
no_text : (line : List ℕ) (b : Bool) → is_utf8 line ≡ b → (IsUtf8 line → ⊥) → of_read (cond b (read line) None) ≡ Err NoObject
no_text line true e other = absurd (other (IsUtf8-from_is_utf8 line e))
no_text line false e other = refl

pub returns-in_default-clause-told : goal.returns-in_default-clause-told
returns-in_default-clause-told c = no_text c.args.line.now _ refl c.in_default.ensures.cases.0

pub returns-in-Ok-from_str-clause-bytes : goal.returns-in-Ok-from_str-clause-bytes
returns-in-Ok-from_str-clause-bytes c =
    let e = line_is c.args.line.now c.in-Ok.text.now _ c.in-Ok.ensures.cases.1 c.in-Ok.ensures.cases.0 c.in-Ok-from_str.ensures.ok in
    subst (λ (answer : Result (List ℕ) Fault). IfOk c.bytes_of.result (λ v. answer ≡ Ok v.items)) (sym e) c.bytes_of.ensures.bytes

pub returns-in-Ok-from_str-clause-told : goal.returns-in-Ok-from_str-clause-told
returns-in-Ok-from_str-clause-told c =
    let e = line_is c.args.line.now c.in-Ok.text.now _ c.in-Ok.ensures.cases.1 c.in-Ok.ensures.cases.0 c.in-Ok-from_str.ensures.ok in
    subst (λ (answer : Result (List ℕ) Fault). IfErr c.bytes_of.result (λ f. IsTold f answer)) (sym e) c.bytes_of.ensures.told
