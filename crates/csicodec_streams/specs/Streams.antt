-- Streams that are written again, and streams that are joined.
use Rattle.std.specs.Prelude.{ℕ, ◌≡◌, List, ◌++◌, Bool, false}
use Rattle.csicodec_actions.specs.{Actions.Action, Table.texts}
use Rattle.csicodec_streams.specs.Decoding.{Decodes}

-- the bytes are read, and what they are read as is written as these bytes
pub record IsNormal (bytes : List ℕ) (flag : Bool) : Type 0 where
  pub actions : List Action
  pub read : Decodes bytes flag actions
  pub written : texts actions ≡ bytes

-- what is written of the actions of the bytes is read, and written as the same
abbrev pub NormaliseTwice : List ℕ → Type 0
NormaliseTwice bytes =
    (actions : List Action) → Decodes bytes false actions → IsNormal (texts actions) false

-- the actions of two streams, one after the other, are those of the first and then of the second, and so are their texts
pub record AreJoined (front back : List ℕ) (flag : Bool) (first second : List Action) : Type 0 where
  pub read : Decodes (front ++ back) flag (first ++ second)
  pub written : texts (first ++ second) ≡ texts first ++ texts second

abbrev pub Join : List ℕ → List ℕ → Bool → Type 0
Join front back flag = (first second : List Action) → Decodes front flag first
    → Decodes back flag second → AreJoined front back flag first second
