-- What a piece of a page is, told of the bytes alone, from the first to the last: no other definition of the codec is needed to read it.
use Rattle.std.specs.Prelude.{ℕ, ◌≡◌, ◌==◌, nat_eq, Bool, true, false, not, ◌&&◌, ◌||◌, ◌-◌, nat_le, if◌then◌else◌, List, [], ◌∷◌, ◌++◌, codes, length}
use Rattle.std.specs.List.{starts_with}

-- Where the bytes stand: in text; in a character of several bytes, of which so many come behind the next one, and that is from the first of two bytes to
-- the second; in a tag, inside of quotation marks or not, of which this has come but for what stands inside of these; in a reference, of which this has
-- come; and behind a byte that may not stand where it does.
pub data Spot : Type 0 where
  Inside : Spot
  Rest : ℕ → ℕ → ℕ → Spot
  Tag : Bool → List ℕ → Spot
  Reference : List ℕ → Spot
  Nowhere : Spot

abbrev pub is : List ℕ → List ℕ → Bool
is a b = length a == length b && starts_with nat_eq a b

-- the five characters that are escaped
abbrev pub is_named : List ℕ → Bool
is_named name =
    is name (codes "amp") || (is name (codes "lt") || (is name (codes "gt") ||
    (is name (codes "quot") || is name (codes "#39"))))

abbrev pub is_from : ℕ → ℕ → ℕ → Bool
is_from first last b = nat_le first b && nat_le b last

-- a newline, a tab, or a character of ASCII that is no control, and none of the five
abbrev pub is_text_byte : ℕ → Bool
is_text_byte b =
    b == 10 || (b == 9 || (is_from 32 126 b && (not (b == 34) &&
    (not (b == 38) && (not (b == 39) && (not (b == 60) && not (b == 62)))))))

-- Behind a byte that begins a character of several: UTF-8 has none of these in a longer form, no surrogates, and nothing above U+10FFFF. Those below
-- U+00A0 are controls of C1, and none of them may stand there.
abbrev pub begun : ℕ → Spot
begun b =
    if b == 194 then Rest 0 160 191 else if is_from 195 223 b then Rest 0 128 191 else
    if b == 224 then Rest 1 160 191 else if b == 237 then Rest 1 128 159 else
    if is_from 225 239 b then Rest 1 128 191 else if b == 240 then Rest 2 144 191 else
    if is_from 241 243 b then Rest 2 128 191 else if b == 244 then Rest 2 128 143 else Nowhere

-- what may stand between quotation marks, and in a tag outside of them: a byte from 32 on, none of `" ' < >`
abbrev pub is_value_byte : ℕ → Bool
is_value_byte b = nat_le 32 b && (not (b == 34) && (not (b == 39) && (not (b == 60) && not (b == 62))))

abbrev pub no_value : List ℕ
no_value = 34 ∷ 34 ∷ []

-- the tags, without what stands between their quotation marks: the one that begins a span, the one that ends it, and those of a link
abbrev pub is_span : List ℕ → Bool
is_span tag =
    is tag (codes "span") || (is tag (codes "span style=" ++ no_value) ||
    (is tag (codes "span class=" ++ no_value) ||
    is tag (codes "span class=" ++ (no_value ++ (codes " style=" ++ no_value)))))

abbrev pub ends_span : List ℕ → Bool
ends_span tag = is tag (codes "/span")

abbrev pub is_link : List ℕ → Bool
is_link tag = is tag (codes "a rel=" ++ (no_value ++ (codes " href=" ++ no_value)))

abbrev pub ends_link : List ℕ → Bool
ends_link tag = is tag (codes "/a")

-- a span may have no span in it and no link, a link no link, each is ended, and links are there where they pass
abbrev pub may_stand : Bool → Bool → Bool → List ℕ → Bool
may_stand links linked spanned tag =
    (is_span tag && not spanned) || ((ends_span tag && spanned) ||
    ((is_link tag && (links && (not linked && not spanned))) ||
    (ends_link tag && (linked && not spanned))))

-- behind a byte more, where links pass or not, inside of one or not, and of a span
abbrev pub spot_behind : Bool → Bool → Bool → Spot → ℕ → Spot
spot_behind links linked spanned Inside b =
    if b == 60 then Tag false [] else if b == 38 then Reference [] else
    if is_text_byte b then Inside else begun b
spot_behind links linked spanned (Rest more first last) b =
    if is_from first last b then (if more == 0 then Inside else Rest (more - 1) 128 191)
    else Nowhere
spot_behind links linked spanned (Tag false tag) b =
    if b == 62 then (if may_stand links linked spanned tag then Inside else Nowhere) else
    if b == 34 then Tag true (tag ++ 34 ∷ []) else
    if is_value_byte b then Tag false (tag ++ b ∷ []) else Nowhere
spot_behind links linked spanned (Tag true tag) b =
    if b == 34 then Tag false (tag ++ 34 ∷ []) else
    if is_value_byte b then Tag true tag else Nowhere
spot_behind links linked spanned (Reference name) b =
    if b == 59 then (if is_named name then Inside else Nowhere) else Reference (name ++ b ∷ [])
spot_behind links linked spanned Nowhere b = Nowhere

-- whether a link is open behind a byte, and whether a span is: the `>` of a tag says it
abbrev pub linked_behind : Bool → Spot → ℕ → Bool
linked_behind linked (Tag false tag) b =
    if b == 62 then (if is_link tag then true else if ends_link tag then false else linked)
    else linked
linked_behind linked s b = linked

abbrev pub spanned_behind : Bool → Spot → ℕ → Bool
spanned_behind spanned (Tag false tag) b =
    if b == 62 then (if is_span tag then true else if ends_span tag then false else spanned)
    else spanned
spanned_behind spanned s b = spanned

abbrev pub is_inside : Spot → Bool
is_inside Inside = true
is_inside s = false

-- each byte may stand where it does, and at the end nothing is open
abbrev pub is_markup : Bool → Spot → Bool → Bool → List ℕ → Bool
is_markup links s linked spanned [] = is_inside s && not (linked || spanned)
is_markup links s linked spanned (b ∷ bytes) =
    is_markup links (spot_behind links linked spanned s b) (linked_behind linked s b)
    (spanned_behind spanned s b) bytes

-- A piece of a page: text in which the five characters are escaped, without controls but newlines and tabs, none of C1 either; spans, with a style, classes
-- or both; and, where they pass, links: in pairs, a link around spans, and each of their attributes in quotation marks, without `<` and `>`. The text is
-- UTF-8, so no `<` or `&` hides in a character that isn't whole. Of what stands between quotation marks no more is said than `is_value_byte` says.
abbrev pub IsMarkup : Bool → List ℕ → Type 0
IsMarkup links page = is_markup links Inside false false page ≡ true
