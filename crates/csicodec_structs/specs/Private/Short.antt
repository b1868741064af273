-- What is read of a short sequence, behind ESC and '['.
use Rattle.std.specs.Prelude.{ℕ, ℤ, ◌≡◌, ◌⊎◌, ◌+◌, pos, false, List, [], ◌∷◌, Some, length, map}
use Rattle.csicodec_tokens.specs.{declared.param.CsiParam.CsiParam, declared.param.CsiParam.TheVariants.Integer, declared.param.CsiParam.TheVariants.P}
use Rattle.csicodec_tokens.specs.{Sequence.Reads, Private.Reading.IsFirstToken}
use Rattle.csicodec_names.specs.declared.color.ColorSpec.{ColorSpec}
use Rattle.csicodec_base.specs.{FrontBy.color_by, FrontBy.piece, Shapes.color_shapes, declared.sgr.Sgr.Sgr}
use Rattle.csicodec_actions.specs.{Actions.Action, Actions.Sgr as Styled, declared.mode.Change.Change}
use Rattle.csicodec_parser.specs.{Groups.has_odd, Segments.Actions, declared.group.Group.TheVariants.Styles}
use Rattle.csicodec_streams.specs.Compose.{EndsInSemicolon, IsStyleList}
use Rattle.csicodec_structs.specs.{Next.Lays, Rows.params_of, Rows.sgr_struct, Rows.struct_of, Structs.color_row, Structs.row, declared.structs.Param.Param}
use Rattle.csicodec_structs.specs.{declared.structs.Struct.Struct, declared.by_number.StyleRow.StyleRow, declared.attributes.AttributeParts.AttributeParts}

-- ---- tokens in turn

-- the text begins with these tokens in turn
abbrev pub ReadsOn : List ℕ → List CsiParam → List ℕ → Type 0
ReadsOn text [] behind = text ≡ behind
ReadsOn text (t ∷ tokens) behind = (mid : List ℕ) × IsFirstToken text t mid × ReadsOn mid tokens behind

-- a mark between the parts of a colour
abbrev pub IsMark : ℕ → Type 0
IsMark mark = (mark ≡ 58) ⊎ (mark ≡ 59)

-- ---- numbers

-- the list is this number; or nothing, which reads as 0
abbrev pub IsOne : ℕ → List CsiParam → Type 0
IsOne n list = (list ≡ Integer (pos n) ∷ []) ⊎ ((n ≡ 0) × (list ≡ []))

-- it is these two, or the first of them, where the second is 0
abbrev pub IsTwo : ℕ → ℕ → List CsiParam → Type 0
IsTwo a b list = (list ≡ Integer (pos a) ∷ P 59 ∷ Integer (pos b) ∷ []) ⊎ ((b ≡ 0) × IsOne a list)

-- ---- attributes

-- nothing is set
abbrev pub nothing : StyleRow
nothing = record { 0 = 0; 1 = 0; 2 = 0 }

-- an attribute with no true colour
abbrev pub plain : ℕ → ℕ → ℕ → AttributeParts
plain kind first second = record { kind = kind; first = first; second = second; red = 0; green = 0; blue = 0; alpha = 0 }

-- the struct of an attribute
abbrev pub style_struct : AttributeParts → Struct
style_struct s = record (row s.kind (pos s.first) (pos s.second)) { red = s.red; green = s.green; blue = s.blue; alpha = s.alpha }

-- the number alone is read as this attribute
abbrev pub SetsAlone : ℕ → AttributeParts → Type 0
SetsAlone number style = (s : Sgr) × (piece (Integer (pos number) ∷ []) ≡ Some (s, 1)) × (style_struct style ≡ sgr_struct s)

-- the tokens of a colour behind its code, as an attribute of this kind
pub record IsPainted (kind : ℕ) (text : List ℕ) (style : AttributeParts) (behind : List ℕ) : Type 0 where
  pub color : ColorSpec
  pub tokens : List CsiParam
  pub reads : ReadsOn text tokens behind
  pub gives : color_by 1 color_shapes tokens ≡ Some (color, length tokens + 1)
  pub even : has_odd Styles tokens ≡ false
  pub unended : (code : ℤ) → ¬ EndsInSemicolon (Integer code ∷ tokens)
  pub same : style_struct style ≡ color_row kind color

-- the list that the text begins with is that of these attributes before `m`, as their structs have them, and may go on behind a `;`
pub record AreStyles (text : List ℕ) (styles : List AttributeParts) (rest : List ℕ) : Type 0 where
  pub list : List CsiParam
  pub all : List Sgr
  pub reads : ReadsOn text list rest
  pub plain : IsStyleList list
  pub unended : ¬ EndsInSemicolon list
  pub are : Actions list false 109 (map Styled all)
  pub same : map style_struct styles ≡ map sgr_struct all

-- so of none, or with a `;` behind them
abbrev pub HasStyles : List ℕ → List AttributeParts → List ℕ → Type 0
HasStyles body styles rest = ((styles ≡ []) × (rest ≡ body)) ⊎ AreStyles body styles (59 ∷ rest)

-- ---- what is laid

-- the final byte of what is done to private modes: DECSET, DECRST, and xterm's XTSAVE and XTRESTORE
abbrev pub change_final : Change → ℕ
change_final Change.Set = 104
change_final Change.Reset = 108
change_final Change.Save = 115
change_final Change.Restore = 114

-- in front stands this number, or nothing, which reads as 0
abbrev pub HasOne : List ℕ → ℕ → List ℕ → Type 0
HasOne body n rest = (list : List CsiParam) × IsOne n list × ReadsOn body list rest

-- the list is read as one action, which has this struct, and no tokens
abbrev pub IsRow : List CsiParam → ℕ → Struct → Type 0
IsRow list final given = (action : Action) × Actions list false final (action ∷ []) × (given ≡ struct_of 0 action) × (params_of action ≡ [])

-- the actions of the sequence in front are put, which have no tokens
pub record HasLaid (body : List ℕ) (actions_old actions_new : List Struct) (count : ℕ) (after : List ℕ) : Type 0 where
  pub list : List CsiParam
  pub final : ℕ
  pub reads : Reads (27 ∷ 91 ∷ body) list final after
  pub all : List Action
  pub are : Actions list false final all
  pub lays : (params : List Param) → Lays actions_old actions_new params params (record { actions = count; params = 0 }) all
