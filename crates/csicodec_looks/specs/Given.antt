-- A palette as it is given: colours as texts.
use Rattle.std.specs.Prelude.{ℕ, ◌+◌, ◌-◌, ◌*◌, ◌==◌, ◌&&◌, ◌||◌, nat_lt, Bool, List, [], ◌∷◌, slice_get, take, length, if◌then◌else◌, Option, Some, None}
use Rattle.csicodec_names.specs.declared.color.SrgbaTuple.{SrgbaTuple}
use Rattle.csicodec_looks.specs.{Xterm.rgb, declared.palette.Palette.Palette}

abbrev pub is_between : ℕ → ℕ → ℕ → Bool
is_between first last c = nat_lt c (last + 1) && nat_lt first (c + 1)

-- the value of a digit of base sixteen, of either case
abbrev pub digit_of : ℕ → Option ℕ
digit_of c = if is_between 48 57 c then Some (c - 48)
    else if is_between 97 102 c then Some (c - 87)
    else if is_between 65 70 c then Some (c - 55) else None

abbrev pub part_of : Option ℕ → Option ℕ → Option ℕ
part_of (Some high) (Some low) = Some (high * 16 + low)
part_of high low = None

abbrev pub of_parts : Option ℕ → Option ℕ → Option ℕ → Option SrgbaTuple
of_parts (Some red) (Some green) (Some blue) = Some (rgb red green blue)
of_parts red green blue = None

-- six digits
abbrev pub digits_color : List ℕ → Option SrgbaTuple
digits_color (a ∷ b ∷ c ∷ d ∷ e ∷ f ∷ []) =
    of_parts (part_of (digit_of a) (digit_of b)) (part_of (digit_of c) (digit_of d))
    (part_of (digit_of e) (digit_of f))
digits_color text = None

-- the colour that is given by `#rrggbb`; no other text gives one
abbrev pub given_color : List ℕ → Option SrgbaTuple
given_color [] = None
given_color (c ∷ digits) = if c == 35 then digits_color digits else None

-- 16 colours are a palette, and so are 18, of which the last two are the page's own: of text, and of what is behind it
abbrev pub given_palette : List SrgbaTuple → Option Palette
given_palette cs =
    if length cs == 16 || length cs == 18 then Some (record {
      first = Some (take 16 cs);
      foreground = slice_get cs 16;
      background = slice_get cs 17;
    })
    else None
