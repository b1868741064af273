-- A value is read back from its own text exactly where it is canonical.
use Rattle.std.specs.Prelude.{◌≡◌, ◌↔◌, List, [], ◌∷◌, Bool}
use Rattle.csicodec_actions.specs.{Actions.Action, Table.text}
use Rattle.csicodec_parser.specs.Canonical.{Canonical}
use Rattle.csicodec_streams.specs.Decoding.{Decodes}

-- the text of the value is read as this one value, and as nothing else
pub record ReadsAlone (a : Action) (flag : Bool) : Type 0 where
  pub back : Decodes (text a) flag (a ∷ [])
  pub only : (others : List Action) → Decodes (text a) flag others → others ≡ a ∷ []

unfoldable pub Exact : Action → Bool → Type 0
Exact a flag = ReadsAlone a flag ↔ Canonical a flag
