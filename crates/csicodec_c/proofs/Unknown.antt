-- The struct of an unknown action, and its tokens.
use Rattle.std.proofs.Common.{◌≡◌, ◌<◌, ◌≤◌, ◌-◌, ◌++◌, ◌+◌, ℕ, List, Option, None, Some, length, refl, sym, ap, ◌∙◌, arith}
use Rattle.std.proofs.lemmas.List.{drop-replicate}
use Rattle.std.specs.Prelude.{false, replicate}
use Rattle.csicodec_tokens.specs.declared.param.CsiParam.{CsiParam}
use Rattle.csicodec_actions.specs.Actions.{Unspecified}
use Rattle.csicodec_sequences.specs.{declared.row.SequenceForm.SequenceForm, Known.reading}
use Rattle.csicodec_sequences.proofs.Table.{longest}
use Rattle.csicodec_structs.specs.{declared.structs.Param.Param, declared.structs.Struct.Struct, Encode.Stands, Room.Fills}
use Rattle.csicodec_structs.proofs.OneAction.{same-action}

-- values in room of 12 zeros
pub padded : (values new : List ℕ) → length values ≤ 12 → Fills (replicate 12 0) new values → new ≡ values ++ replicate (12 - length values) 0
padded values new few fills = fills.0 few ∙ ap (λ (l : List ℕ). values ++ l) (drop-replicate (length values) 12 0)

-- it is of one list, before one final character
pub one-reading : (given : Struct) (params : List Param) (xs ys : List CsiParam) (final other : ℕ) → Stands given params (Unspecified xs false final) → Stands given params (Unspecified ys false other)
    → reading xs final ≡ reading ys other
one-reading given params xs ys final other s t =
    let one : Unspecified xs false final ≡ Unspecified ys false other = same-action given.place _ _ s.0.0 s.1 t.0.0 t.1 (s.0.1 ∙ sym t.0.1) (s.0.2 ∙ sym t.0.2) in cc

-- no row reads a list that is too long
pub too-long : (list : List CsiParam) (final : ℕ) → 26 < length list → reading list final ≡ None
too-long list final long = go (reading list final) refl
  where
    go : (o : Option (SequenceForm × List ℕ)) → reading list final ≡ o → o ≡ None
    go None e = refl
    go (Some known) e = (let few = longest list final known e in absurd (omega (arith, long, few)))
