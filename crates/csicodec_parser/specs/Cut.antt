-- A list cut into blocks, said from the blocks to the list.
use Rattle.csicodec_parser.specs.{Common.ℕ, Common.suc, Common.zero, Common.List, Common.[], Common.length, Common.drop, Common.CsiParam, Common.P}
use Rattle.csicodec_parser.specs.{Common.Group, Common.Action, Groups.group, Groups.start, Groups.Piece}
use Rattle.std.specs.Prelude.{◌≡◌, ◌⊎◌, ◌∷◌, ◌++◌}

-- `;`
abbrev pub semicolon : CsiParam
semicolon = P 59

-- the list doesn't begin with `;`
abbrev pub NoSemicolon : List CsiParam → Type 0
NoSemicolon list = (more : List CsiParam) → list ≡ semicolon ∷ more → ⊥

-- a block is the tokens of the piece at the front, with the `;` directly after them, if one follows
pub record IsBlock (g : Group) (block more : List CsiParam) (action : Action) : Type 0 where
  pub tokens : List CsiParam
  pub piece : Piece g (block ++ more) (length tokens) action
  pub whole : (block ≡ tokens ++ semicolon ∷ []) ⊎ ((block ≡ tokens) × NoSemicolon more)

-- the body is one block for each action, and then the rest
abbrev pub Cut : Group → List CsiParam → List Action → List CsiParam → Type 0
Cut g body [] rest = body ≡ rest
Cut g body (action ∷ actions) rest =
    (block : List CsiParam) × (more : List CsiParam) × (body ≡ block ++ more)
    × IsBlock g block more action × Cut g more actions rest

-- no piece stands at the front, so that a cut can't be continued here
abbrev pub IsStuck : Group → List CsiParam → Type 0
IsStuck g rest = (k : ℕ) (action : Action) → Piece g rest k action → ⊥

-- what is cut of a list of this group
abbrev pub body : Group → List CsiParam → List CsiParam
body g list = drop (start g) list

-- what is unread after this many actions: the whole list before the first, and then the rest of a cut that has just these
abbrev pub IsRestAfter : List CsiParam → ℕ → ℕ → List CsiParam → Type 0
IsRestAfter list final zero rest = rest ≡ list
IsRestAfter list final (suc given) rest =
    (actions : List Action) × Cut (group list final) (body (group list final) list) actions rest
    × (length actions ≡ suc given)
