-- Links: `ESC ] 8 ; PARAMS ; URL`, up to ST or BEL (OSC 8, https://gist.github.com/egmontkob/eb114294efbcd5adb1944c9f3cb5feda). What
-- is printed behind one leads to the URL, up to the next one, and one without a URL ends it.
use Rattle.std.specs.Prelude.{ℕ, ◌≡◌, ◌≤◌, ◌⊎◌, ◌==◌, Bool, true, false, not, ◌&&◌, nat_le, nat_lt, List, [], ◌∷◌, ◌++◌, length, if◌then◌else◌}
use Rattle.std.specs.List.{AllByRecursion, flat_map}
use Rattle.csicodec_spans.specs.{Parts.Part, Parts.IsSpan, declared.table.Kind.Kind}
use Rattle.csicodec_clean.specs.{Addresses.led, declared.links.LinkReader.LinkReader, declared.links.LinkState.LinkState}

-- what a link says: its parameters, as `id=1`, by which lines of one link are joined, and where it leads
pub record Address : Type 0 where
  pub params : List ℕ
  pub url : List ℕ

-- a visible character of ASCII: no space, no control, and no part of a longer character
abbrev pub is_visible : ℕ → Bool
is_visible b = nat_le 33 b && nat_le b 126

-- parameters have no `;`
abbrev pub is_param : ℕ → Bool
is_param b = is_visible b && not (b == 59)

abbrev pub longest_params : ℕ
longest_params = 256

abbrev pub longest_url : ℕ
longest_url = 2083

-- the link is read: of such bytes, and of so many
pub record IsWithin (a : Address) : Type 0 where
  pub params : AllByRecursion (λ b. is_param b ≡ true) a.params
  pub few : length a.params ≤ longest_params
  pub url : AllByRecursion (λ b. is_visible b ≡ true) a.url
  pub short : length a.url ≤ longest_url

-- what passes of it: where it may not lead, it leads nowhere, and ends the one before it
abbrev pub admitted : Address → Address
admitted a = record { params = a.params; url = led a.url }

-- the link may pass as it is
pub record IsLink (a : Address) : Type 0 where
  pub within : IsWithin a
  pub leads : led a.url ≡ a.url

-- it is what passes of such a link
abbrev pub IsAdmitted : (Address → Type 0) → Address → Type 0
IsAdmitted Such a = (whole : Address) × Such whole × (a ≡ admitted whole)

-- what stands between `ESC ]` and the end
abbrev pub link_body : Address → List ℕ
link_body a = 56 ∷ 59 ∷ (a.params ++ 59 ∷ a.url)

-- the bytes are the link: `ESC ]`, what it says, and BEL or ST
abbrev pub Spells : List ℕ → Address → Type 0
Spells bytes a = (bytes ≡ 27 ∷ 93 ∷ (link_body a ++ 7 ∷ []))
    ⊎ (bytes ≡ 27 ∷ 93 ∷ (link_body a ++ 27 ∷ 92 ∷ []))

-- among the bytes stands the link
pub record Stood (bytes : List ℕ) (a : Address) : Type 0 where
  pub before : List ℕ
  pub own : List ℕ
  pub rest : List ℕ
  pub whole : bytes ≡ before ++ (own ++ rest)
  pub link : Spells own a

-- among the parts of a stream stands the link, as a control string
pub record StoodIn (parts : List Part) (a : Address) : Type 0 where
  pub before : List Part
  pub own : List Part
  pub rest : List Part
  pub whole : parts ≡ before ++ (own ++ rest)
  pub text : List ℕ
  pub string : IsSpan Kind.Str text own
  pub link : Spells text a

-- its normal form, which ST ends
abbrev pub link_text : Address → List ℕ
link_text a = 27 ∷ 93 ∷ (link_body a ++ 27 ∷ 92 ∷ [])

abbrev pub link_texts : List Address → List ℕ
link_texts links = flat_map link_text links

-- what ends a link
abbrev pub no_address : Address
no_address = record { params = []; url = [] }

-- whether a link is open behind these
abbrev pub is_linked : Bool → List Address → Bool
is_linked linked [] = linked
is_linked linked (a ∷ links) = is_linked (not (length a.url == 0)) links

-- ---- byte by byte

-- how far a string is that of a link, and what has come of it
pub record Begun : Type 0 where
  pub place : LinkState
  pub address : Address

abbrev pub begun : LinkState → List ℕ → List ℕ → Begun
begun p params url = record { place = p; address = record { params = params; url = url } }

-- what has come to a reader
abbrev pub come : LinkReader → Begun
come r = begun r.place r.params.items r.url.items

-- where no control string is open
abbrev pub start : Begun
start = begun LinkState.Outside [] []

-- ESC begins anew
abbrev pub anew : ℕ → LinkState
anew c = if c == 27 then LinkState.Escape else LinkState.Outside

-- behind ESC: `]` opens an OSC, and any other byte something else, a second ESC too, which stands for a byte of a DCS
abbrev pub opened : ℕ → LinkState
opened c = if c == 93 then LinkState.Opened else LinkState.Outside

-- a byte more of a control string, from the ESC on that opens it
abbrev pub behind_at : LinkState → List ℕ → List ℕ → ℕ → Begun
behind_at LinkState.Outside params url c = begun (anew c) params url
behind_at LinkState.Escape params url c = begun (opened c) params url
behind_at LinkState.Opened params url c = begun (if c == 56 then LinkState.Eight else anew c) params url
behind_at LinkState.Eight params url c = if c == 59 then begun LinkState.Params [] url
    else begun (anew c) params url
behind_at LinkState.Params params url c =
    if c == 59 then begun LinkState.Url params [] else
    if is_param c && nat_lt (length params) longest_params then begun LinkState.Params (params ++ c ∷ []) url else
    begun (anew c) params url
behind_at LinkState.Url params url c =
    if is_visible c && nat_lt (length url) longest_url then begun LinkState.Url params (url ++ c ∷ []) else
    begun (if c == 27 then LinkState.Ending else LinkState.Outside) params url
behind_at LinkState.Ending params url c = begun (opened c) params url

abbrev pub behind : Begun → ℕ → Begun
behind b c = behind_at b.place b.address.params b.address.url c

-- BEL, or the `\` of ST, ends a link
abbrev pub ends_at : LinkState → ℕ → Bool
ends_at LinkState.Url c = c == 7
ends_at LinkState.Ending c = c == 92
ends_at p c = false

-- what passes of the link that is over with the byte, where links pass
abbrev pub links_at : Bool → Begun → ℕ → List Address
links_at passing b c = if passing && ends_at b.place c then admitted b.address ∷ [] else []

abbrev pub next : Bool → Begun → ℕ → Begun
next passing b c = if passing then behind b c else b

-- the links that are over with one of the bytes
abbrev pub links_in : Bool → Begun → List ℕ → List Address
links_in passing b [] = []
links_in passing b (c ∷ bytes) = links_at passing b c ++ links_in passing (next passing b c) bytes

-- and what has come of one behind them
abbrev pub all_behind : Bool → Begun → List ℕ → Begun
all_behind passing b [] = b
all_behind passing b (c ∷ bytes) = all_behind passing (next passing b c) bytes
