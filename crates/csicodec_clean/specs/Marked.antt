-- What may be written to a terminal, told of the bytes alone, from the first to the last: no other definition of the codec is needed to read it.
use Rattle.std.specs.Prelude.{ℕ, ◌≡◌, ◌==◌, Bool, true, false, not, ◌&&◌, ◌||◌, ◌-◌, nat_le, if◌then◌else◌, List, [], ◌∷◌}

-- Where the bytes stand: in text; in a character of several bytes, of which so many come behind the next one, and that is from the first of two bytes to
-- the second; behind ESC; in the numbers of a style (SGR), all of which are 0 so far, or not; in a link, behind its `]`, its `8`, in its parameters, in
-- its address, which has bytes so far, or none, and behind the ESC that ends it; and behind a byte that may not stand where it does.
pub data Stand : Type 0 where
  Text : Stand
  Rest : ℕ → ℕ → ℕ → Stand
  Escape : Stand
  Numbers : Bool → Stand
  Opened : Stand
  Eight : Stand
  Params : Stand
  Url : Bool → Stand
  Ending : Bool → Stand
  Nowhere : Stand

abbrev pub is_from : ℕ → ℕ → ℕ → Bool
is_from first last b = nat_le first b && nat_le b last

-- a newline, a tab, or a character of ASCII that is no control
abbrev pub is_text_byte : ℕ → Bool
is_text_byte b = b == 10 || (b == 9 || is_from 32 126 b)

-- a digit, `:` or `;`
abbrev pub is_number_byte : ℕ → Bool
is_number_byte b = is_from 48 59 b

-- a visible character of ASCII
abbrev pub is_visible_byte : ℕ → Bool
is_visible_byte b = is_from 33 126 b

-- Behind a byte that begins a character of several: UTF-8 has none of these in a longer form, no surrogates, and nothing above U+10FFFF. Those below
-- U+00A0 are controls of C1, and none of them may stand there.
abbrev pub begun : ℕ → Stand
begun b =
    if b == 194 then Rest 0 160 191 else if is_from 195 223 b then Rest 0 128 191 else
    if b == 224 then Rest 1 160 191 else if b == 237 then Rest 1 128 159 else
    if is_from 225 239 b then Rest 1 128 191 else if b == 240 then Rest 2 144 191 else
    if is_from 241 243 b then Rest 2 128 191 else if b == 244 then Rest 2 128 143 else Nowhere

-- behind a byte more, where links pass or not
abbrev pub stand_behind : Bool → Stand → ℕ → Stand
stand_behind links Text b =
    if b == 27 then Escape else if is_text_byte b then Text else begun b
stand_behind links (Rest more first last) b =
    if is_from first last b then (if more == 0 then Text else Rest (more - 1) 128 191)
    else Nowhere
stand_behind links Escape b =
    if b == 91 then Numbers true else if links && b == 93 then Opened else Nowhere
stand_behind links (Numbers zeros) b =
    if b == 109 then Text else
    if is_number_byte b then Numbers (zeros && b == 48) else Nowhere
stand_behind links Opened b = if b == 56 then Eight else Nowhere
stand_behind links Eight b = if b == 59 then Params else Nowhere
stand_behind links Params b =
    if b == 59 then Url false else if is_visible_byte b then Params else Nowhere
stand_behind links (Url some) b =
    if b == 27 then Ending some else if is_visible_byte b then Url true else Nowhere
stand_behind links (Ending some) b = if b == 92 then Text else Nowhere
stand_behind links Nowhere b = Nowhere

-- whether a style is open behind a byte: the `m` of one says it
abbrev pub styled_behind : Bool → Stand → ℕ → Bool
styled_behind styled (Numbers zeros) b = if b == 109 then not zeros else styled
styled_behind styled s b = styled

-- and whether a link is: its end says it
abbrev pub linked_behind : Bool → Stand → ℕ → Bool
linked_behind linked (Ending some) b = some
linked_behind linked s b = linked

abbrev pub is_outside : Stand → Bool
is_outside Text = true
is_outside s = false

-- each byte may stand where it does, and at the end nothing is open
abbrev pub is_marked : Bool → Stand → Bool → Bool → List ℕ → Bool
is_marked links s styled linked [] = is_outside s && not (styled || linked)
is_marked links s styled linked (b ∷ bytes) =
    is_marked links (stand_behind links s b) (styled_behind styled s b)
    (linked_behind linked s b) bytes

-- Text, with styles and, where they pass, links: ESC stands only in front of `[`, digits, `:` and `;`, and `m`, or of `]8;`, parameters, `;`, an address
-- and ESC `\`; the last style has zeros alone, and the last link no address; and no other control is there but newlines and tabs, none of C1 either. The
-- bytes are UTF-8, so no byte from 128 to 159 is one of these by itself, and no other byte hides in a character that isn't whole.
abbrev pub IsMarked : Bool → List ℕ → Type 0
IsMarked links text = is_marked links Text false false text ≡ true
