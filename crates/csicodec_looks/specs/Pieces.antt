-- The pieces of a page of HTML: text, escaped, the tags of spans and links, and how each is appended.
use Rattle.std.specs.Prelude.{ℕ, ◌≡◌, ◌==◌, Bool, true, false, not, ◌&&◌, ◌||◌, nat_lt, if◌then◌else◌, List, [], ◌∷◌, ◌++◌, length, codes, encode_utf8}
use Rattle.std.specs.List.{flat_map}
use Rattle.csicodec_looks.specs.{declared.look.Look.Look, declared.markup.Markup.Markup, Classes.attributes, Look.is_plain, Palette.readable}

-- a character that HTML could take for markup, by its name or number, and any other one as it is
abbrev pub reference_or : List ℕ → ℕ → List ℕ
reference_or itself c =
    if c == 38 then codes "&amp;"
    else if c == 60 then codes "&lt;"
    else if c == 62 then codes "&gt;"
    else if c == 34 then codes "&quot;"
    else if c == 39 then codes "&#39;"
    else itself

-- a character on the page
abbrev pub escaped : ℕ → List ℕ
escaped c = reference_or (encode_utf8 c) c

-- what the tag of a link says of where it leads: it is no word of the page's author, and who follows it brings no address of the page
-- there, nor a way back into it (HTML, 4.6.6)
abbrev pub relation : List ℕ
relation = codes "nofollow noopener noreferrer"

-- a character of the text, the tag that begins a span that looks so, or the one that ends it, the tag that begins a link to there, or
-- the one that ends it: there are no others
pub data Piece : Type 0 where
  Char : ℕ → Piece
  Begin : Markup → Look → Piece
  End : Piece
  Open : List ℕ → Piece
  Shut : Piece

abbrev pub piece_text : Piece → List ℕ
piece_text (Char c) = escaped c
piece_text (Begin m l) = codes "<span" ++ (attributes m l ++ 62 ∷ [])
piece_text End = codes "</span>"
piece_text (Open url) = codes "<a rel=" ++ (34 ∷ (relation ++ (34 ∷ (codes " href=" ++ (34 ∷ (flat_map escaped url ++ 34 ∷ 62 ∷ []))))))
piece_text Shut = codes "</a>"

abbrev pub piece_texts : List Piece → List ℕ
piece_texts pieces = flat_map piece_text pieces

-- a span stands around what looks otherwise than plain text
abbrev pub begins : Markup → Look → List Piece
begins m l = if is_plain l then [] else Begin m l ∷ []

abbrev pub ends : Look → List Piece
ends l = if is_plain l then [] else End ∷ []

-- where attributes come, the span of the look before them is ended, and one of the look behind them is begun
abbrev pub turn : Markup → Bool → Look → Look → List Piece
turn m comes old new = if comes then ends old ++ begins m new else []

-- where text leads behind a link: to its address, or nowhere, which is none
abbrev pub leads : List ℕ → Bool
leads to = not (length to == 0)

abbrev pub opens : List ℕ → List Piece
opens to = if leads to then Open to ∷ [] else []

abbrev pub shuts : List ℕ → List Piece
shuts to = if leads to then Shut ∷ [] else []

-- where a link comes, the span that is open is ended, so is the link before it, the new one is begun, and then the span once more
abbrev pub switch : Markup → Look → List ℕ → List ℕ → List Piece
switch m l old new =
    if leads old || leads new then ends l ++ (shuts old ++ (opens new ++ begins m l)) else []

-- without links, with styles in place of classes, and colours that can be read
abbrev pub simple : Markup
simple = record { links = false; classes = false; palette = readable }

-- a byte that may stand in an attribute: none of the five characters that are escaped, and no control
abbrev pub is_harmless : ℕ → Bool
is_harmless b = not (nat_lt b 32) &&
    (not (b == 34) && (not (b == 38) && (not (b == 39) && (not (b == 60) && not (b == 62)))))

abbrev pub IsHarmless : ℕ → Type 0
IsHarmless b = is_harmless b ≡ true

-- a byte of the text
abbrev pub page_byte : ℕ → List ℕ
page_byte b = reference_or (b ∷ []) b

abbrev pub page_bytes : List ℕ → List ℕ
page_bytes bytes = flat_map page_byte bytes

-- one that stands there as it is
abbrev pub stands : ℕ → Bool
stands b = not (b == 34) && (not (b == 38) && (not (b == 39) && (not (b == 60) && not (b == 62))))

abbrev pub Stands : ℕ → Type 0
Stands b = stands b ≡ true

-- a piece as it is appended: an address byte by byte
abbrev pub piece_bytes : Piece → List ℕ
piece_bytes (Open url) =
    codes "<a rel=" ++ (34 ∷ (relation ++ (34 ∷ (codes " href=" ++ (34 ∷ (page_bytes url ++ 34 ∷ 62 ∷ []))))))
piece_bytes p = piece_text p

abbrev pub pieces_bytes : List Piece → List ℕ
pieces_bytes pieces = flat_map piece_bytes pieces
