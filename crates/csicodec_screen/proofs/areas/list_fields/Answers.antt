use Rattle.std.proofs.Common.{◌≡◌, ℤ, List, Option, None, Some, refl}
use Rattle.csicodec_tokens.specs.Fields.{fields_of}
use Rattle.csicodec_screen.proofs.areas.list_fields.Goals as goal

no_fields : (o : Option (List (Option ℤ))) → ((f : List (Option ℤ)) → o ≡ Some f → ⊥) → None ≡ o
no_fields None h = refl
no_fields (Some f) h = absurd (h f refl)

pub returns-in-Err-NotSpelled : goal.returns-in-Err-NotSpelled
returns-in-Err-NotSpelled c =
    let list = c.args.list.now in
    let refused = rw c.in-Err-NotSpelled.field-0-is at c.in-Err-NotSpelled.ensures.refused in
    no_fields (fields_of list) (λ f e. refused f ((c.fields_in_turn.ensures list f).1 e))
