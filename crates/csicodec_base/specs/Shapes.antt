-- The spellings of attributes before `m` (SGR), as a table: each row is a shape of tokens, and what it gives.
-- In the examples `#` is any number and `_` is any one token.
use Rattle.std.specs.Prelude.{ℕ, ◌==◌, List, [], ◌∷◌, ◌++◌, map, Bool, true, false, ◌&&◌, if◌then◌else◌, Option, Some, None, option_and_then, nat_lt, pos}
use Rattle.std.specs.List.{flat_map}
use Rattle.csicodec_tokens.specs.{declared.param.CsiParam.CsiParam, declared.param.CsiParam.TheVariants.Integer, declared.param.CsiParam.TheVariants.P}
use Rattle.csicodec_names.specs.{declared.codes.SgrCode.SgrCode, declared.color.ColorSpec.ColorSpec, Numbers.all_codes, Numbers.number_of}
use Rattle.csicodec_names.specs.{declared.color.Underline.Underline}
use Rattle.csicodec_base.specs.{declared.sgr.Sgr.Sgr, Attributes.action_of}

-- the separators of ECMA-48: 03/10 within a parameter, 03/11 between parameters
abbrev pub colon : ℕ
colon = 58

abbrev pub semicolon : ℕ
semicolon = 59

-- what one token of a shape may be: this number, this byte, any number (`#`), any token (`_`)
pub data Slot : Type 0 where
  Number : ℕ → Slot
  Byte : ℕ → Slot
  AnyNumber : Slot
  Any : Slot

-- the token is one that the slot allows
abbrev pub fits_slot : Slot → CsiParam → Bool
fits_slot (Number n) (Integer (pos m)) = m == n
fits_slot (Byte b) (P c) = c == b
fits_slot AnyNumber (Integer z) = true
fits_slot Any t = true
fits_slot _ _ = false

-- the list begins with the shape: its first tokens fit the slots, one for one
abbrev pub begins_with : List Slot → List CsiParam → Bool
begins_with [] rest = true
begins_with (s ∷ ss) [] = false
begins_with (s ∷ ss) (t ∷ ts) = fits_slot s t && begins_with ss ts

-- the tokens that stand where the shape has `_`: the 9 of `38:5:9`
abbrev pub taken : List Slot → List CsiParam → List CsiParam
taken [] rest = []
taken (s ∷ ss) [] = []
taken (Any ∷ ss) (t ∷ ts) = t ∷ taken ss ts
taken (s ∷ ss) (t ∷ ts) = taken ss ts

-- what a colour is for: the character, the ground behind it, the line below it
pub data Plane : Type 0 where
  Front : Plane
  Back : Plane
  Line : Plane

-- the attribute that gives the plane a colour
abbrev pub painted : Plane → ColorSpec → Sgr
painted Front c = Sgr.Foreground c
painted Back c = Sgr.Background c
painted Line c = Sgr.UnderlineColor c

-- what a row gives: always one attribute, or the colour that its `_` spell
pub data Gives : Type 0 where
  Always : Sgr → Gives
  Color : Plane → Gives

pub record Row : Type 0 where
  pub shape : List Slot
  pub gives : Gives

-- a part of a colour is a number from 0 to 255
abbrev pub byte_of : CsiParam → Option ℕ
byte_of (Integer (pos n)) = if nat_lt n 256 then Some n else None
byte_of _ = None

-- the parts of a colour; none if one token is no part
abbrev pub bytes_of : List CsiParam → Option (List ℕ)
bytes_of [] = Some []
bytes_of (t ∷ ts) =
    option_and_then (λ b. option_and_then (λ bs. Some (b ∷ bs)) (bytes_of ts)) (byte_of t)

-- one part is a place in the palette; three are red, green and blue, opaque; four have their alpha
abbrev pub color_of : List ℕ → Option ColorSpec
color_of (i ∷ []) = Some (ColorSpec.PaletteIndex i)
color_of (r ∷ g ∷ b ∷ []) = Some (ColorSpec.TrueColor (record { 0 = r; 1 = g; 2 = b; 3 = 255 }))
color_of (r ∷ g ∷ b ∷ a ∷ []) = Some (ColorSpec.TrueColor (record { 0 = r; 1 = g; 2 = b; 3 = a }))
color_of _ = None

-- the colour that the tokens spell
abbrev pub color_of_tokens : List CsiParam → Option ColorSpec
color_of_tokens ts = option_and_then color_of (bytes_of ts)

-- what the row gives for the tokens that were taken
abbrev pub given : Gives → List CsiParam → Option Sgr
given (Always s) ts = Some s
given (Color plane) ts = option_and_then (λ c. Some (painted plane c)) (color_of_tokens ts)

-- three parts with the mark between them: `_:_:_`
abbrev pub three_shape : ℕ → List Slot
three_shape mark = Any ∷ Byte mark ∷ Any ∷ Byte mark ∷ Any ∷ []

-- four parts with colons between them: `_:_:_:_`
abbrev pub four_shape : List Slot
four_shape = Any ∷ Byte colon ∷ three_shape colon

-- ahead of the parts stands the number of a colour space, `#:_:_:_`; it may be empty, `:_:_:_`, or missing, `_:_:_`
abbrev pub with_space : List Slot → List (List Slot)
with_space shape = (AnyNumber ∷ Byte colon ∷ shape) ∷ (Byte colon ∷ shape) ∷ shape ∷ []

-- red, green, blue and alpha, behind `38:6:`
abbrev pub rgba_shapes : List (List Slot)
rgba_shapes = with_space four_shape

-- red, green and blue, behind `38:2:`
abbrev pub rgb_shapes : List (List Slot)
rgb_shapes = with_space (three_shape colon)

-- red, green and blue, behind `38;2;`
abbrev pub semicolon_shapes : List (List Slot)
semicolon_shapes = three_shape semicolon ∷ []

-- a place in the palette, behind `38:5:` and `38;5;`
abbrev pub palette_shapes : List (List Slot)
palette_shapes = (Any ∷ []) ∷ []

-- each shape with the kind of colour ahead of it: `:2:` and `:5:`
abbrev pub behind : ℕ → ℕ → List (List Slot) → List (List Slot)
behind mark kind shapes = map (λ (s : List Slot). Byte mark ∷ Number kind ∷ Byte mark ∷ s) shapes

-- the shapes of a colour, behind its code. With the code of the foreground they are, by their number of tokens:
-- 13 `38:6:#:_:_:_:_`, 12 `38:6::_:_:_:_`, 11 `38:6:_:_:_:_` and `38:2:#:_:_:_`, 10 `38:2::_:_:_`, 9 `38:2:_:_:_` and
-- `38;2;_;_;_`, 5 `38:5:_` and `38;5;_`. Those with colons are of ISO/IEC 8613-6, but for kind 6, which is of WezTerm;
-- those with semicolons are of xterm and konsole
abbrev pub color_shapes : List (List Slot)
color_shapes =
    behind colon 6 rgba_shapes
    ++ (behind colon 2 rgb_shapes
    ++ (behind semicolon 2 semicolon_shapes
    ++ (behind colon 5 palette_shapes
    ++ behind semicolon 5 palette_shapes)))

abbrev pub color_rows : Plane → List Row
color_rows plane = map (λ (s : List Slot). record { shape = s; gives = Color plane }) color_shapes

-- a kind of underline, behind its code: `:3`
abbrev pub line : ℕ → Sgr → Row
line kind s = record { shape = Byte colon ∷ Number kind ∷ []; gives = Always s }

-- the underlines, behind the code 4: `4:0` to `4:5`, and `4` alone
abbrev pub underline_rows : List Row
underline_rows =
    line 0 (Sgr.Underline Underline.None)
    ∷ line 1 (Sgr.Underline Underline.Single)
    ∷ line 2 (Sgr.Underline Underline.Double)
    ∷ line 3 (Sgr.Underline Underline.Curly)
    ∷ line 4 (Sgr.Underline Underline.Dotted)
    ∷ line 5 (Sgr.Underline Underline.Dashed)
    ∷ record { shape = []; gives = Always (Sgr.Underline Underline.Single) }
    ∷ []

-- the rows with their code ahead
abbrev pub coded : ℕ → List Row → List Row
coded n rows = map (λ (r : Row). record { shape = Number n ∷ r.shape; gives = r.gives }) rows

-- a code that sets one attribute is a row of one token
abbrev pub row_of : ℕ → Option Sgr → List Row
row_of n None = []
row_of n (Some s) = record { shape = Number n ∷ []; gives = Always s } ∷ []

-- the whole table: the colours, the underlines, the codes of one token, and a `;` with nothing before it, which resets
abbrev pub sgr_rows : List Row
sgr_rows =
    coded 38 (color_rows Front)
    ++ (coded 48 (color_rows Back)
    ++ (coded 58 (color_rows Line)
    ++ (coded 4 underline_rows
    ++ (flat_map (λ (c : SgrCode). row_of (number_of c) (action_of c)) all_codes
    ++ record { shape = Byte semicolon ∷ []; gives = Always Sgr.Reset } ∷ []))))
