-- A piece of a page of HTML: the text of a stream, escaped, around what has attributes a span, and around what leads somewhere a link.
use Rattle.std.specs.Prelude.{ℕ, ◌≡◌, ◌≤◌, ⊤, ◌==◌, Bool, true, false, not, ◌&&◌, ◌||◌, if◌then◌else◌, List, [], ◌∷◌, ◌++◌, length, map, filter}
use Rattle.std.specs.{List.AllByRecursion, Char.IsScalar}
use Rattle.bstr.specs.Utf8.{lossy_chars}
use Rattle.csicodec_actions.specs.Actions.{Action}
use Rattle.csicodec_terminal.specs.Terminal.{IsTakenFor}
use Rattle.csicodec_spans.specs.{declared.table.Kind.Kind, Parts.Part, Parts.IsWhole, declared.table.Mode.Mode}
use Rattle.csicodec_clean.specs.{Shown.shown, Shown.IsShown, Sets.as_read, Sets.first_reading, Addresses.is_web, Links.Address, Links.Begun, Links.all_behind}
use Rattle.csicodec_clean.specs.{Links.is_visible, Links.links_in, Links.longest_url, Links.start, Cleaned.longest, declared.saving.Looks.Looks}
use Rattle.csicodec_clean.specs.{Saving.behind_all, Saving.behind_effect, Saving.escape_effect, Saving.plain_looks, Saving.sets, Saving.sets_any}
use Rattle.csicodec_looks.specs.Pieces.{Piece, Char, Begin, End, Open, Shut, piece_texts, ends, turn, shuts, switch, simple}
use Rattle.csicodec_looks.specs.{declared.look.Look.Look, declared.markup.Markup.Markup, Look.is_plain, Paint.same}

-- the characters among them
abbrev pub chars_of : List Piece → List ℕ
chars_of [] = []
chars_of (Char c ∷ pieces) = c ∷ chars_of pieces
chars_of (p ∷ pieces) = chars_of pieces

-- the same of links in turn, and where text leads behind them
abbrev pub switches : Markup → Look → List ℕ → List Address → List Piece
switches m l to [] = []
switches m l to (a ∷ links) = switch m l to a.url ++ switches m l a.url links

abbrev pub led_by : List ℕ → List Address → List ℕ
led_by to [] = to
led_by to (a ∷ links) = led_by a.url links

-- what a page goes by: what becomes markup, how text looks and where that was saved, where it leads, and what has come of a link
pub record Setting : Type 0 where
  pub markup : Markup
  pub looks : Looks
  pub to : List ℕ
  pub begun : Begun

abbrev pub setting : Markup → Looks → List ℕ → Begun → Setting
setting m l to b = record { markup = m; looks = l; to = to; begun = b }

abbrev pub first_set : Markup → Setting
first_set m = setting m plain_looks [] start

-- behind the actions of a control sequence, and behind bytes of a control string
abbrev pub behind_actions : Setting → List Action → Setting
behind_actions s actions = setting s.markup (behind_all s.looks actions) s.to s.begun

-- behind an escape sequence
abbrev pub behind_escape : Setting → List ℕ → Setting
behind_escape s bytes = setting s.markup (behind_effect s.looks (escape_effect bytes)) s.to s.begun

abbrev pub behind_string : Setting → List ℕ → Setting
behind_string s bytes =
    setting s.markup s.looks (led_by s.to (links_in s.markup.links s.begun bytes))
    (all_behind s.markup.links s.begun bytes)

-- what is open is ended
abbrev pub closing : Setting → List Piece
closing s = ends s.looks.look ++ shuts s.to

-- the characters of a run of text that are shown
abbrev pub shown_pieces : List ℕ → List Piece
shown_pieces run = map Char (filter shown (lossy_chars run))

-- the turn to text that looks so, where an attribute comes, or what sets all back, or how text looked before is brought back
abbrev pub turned : Setting → Bool → Looks → List Piece
turned s comes new = turn s.markup (comes || not (same s.looks.look new.look)) s.looks.look new.look

-- what a part leaves, and the setting behind it: a control sequence or an escape sequence the turn to text as it looks behind it, a control
-- string, where links pass, those that are over with it, and any other part nothing
abbrev pub Leaves : Setting → Kind → List ℕ → List Piece → Setting → Type 0
Leaves s Kind.Csi bytes own after = (actions : List Action) × IsTakenFor bytes actions
    × (after ≡ behind_actions s actions)
    × (own ≡ turned s (sets_any actions) (behind_all s.looks actions))
Leaves s Kind.Esc bytes own after =
    (own ≡ turned s (sets (escape_effect bytes)) (behind_effect s.looks (escape_effect bytes)))
    × (after ≡ behind_escape s bytes)
Leaves s Kind.Str bytes own after =
    (own ≡ switches s.markup s.looks.look s.to (links_in s.markup.links s.begun bytes))
    × (after ≡ behind_string s bytes)
Leaves s k bytes own after = (own ≡ []) × (after ≡ s)

abbrev pub run_behind : Kind → List ℕ → List ℕ → List ℕ
run_behind Kind.Text run bytes = run ++ bytes
run_behind k run bytes = []

abbrev pub pieces_behind : Kind → List ℕ → List Piece
pieces_behind Kind.Text run = []
pieces_behind k run = shown_pieces run

-- what is left of the parts, behind a run of text: text goes on with the run, any other part ends it, and at the end what is open is
-- ended
abbrev pub AreLeft : Setting → List ℕ → List Part → List Piece → Type 0
AreLeft s run [] pieces = pieces ≡ shown_pieces run ++ closing s
AreLeft s run (p ∷ parts) pieces =
    (own : List Piece) × (after : Setting) × (others : List Piece)
    × Leaves s p.kind p.bytes own after
    × (pieces ≡ pieces_behind p.kind run ++ (own ++ others))
    × AreLeft after (run_behind p.kind run p.bytes) parts others

-- the page that the bytes are, by what becomes markup
pub record PageWith (m : Markup) (bytes page : List ℕ) : Type 0 where
  pub parts : List Part
  pub whole : IsWhole longest Mode.Text bytes parts
  pub pieces : List Piece
  pub left : AreLeft (first_set m) [] (as_read first_reading parts) pieces
  pub all : page ≡ piece_texts pieces

abbrev pub PageOf : List ℕ → List ℕ → Type 0
PageOf bytes page = PageWith simple bytes page

-- an address that a page may lead to: of a host by http or https, and short, of visible characters of ASCII
pub record IsLed (url : List ℕ) : Type 0 where
  pub web : is_web url ≡ true
  pub visible : AllByRecursion (λ b. is_visible b ≡ true) url
  pub short : length url ≤ longest_url

-- a character that is shown, or a tag of such a page
abbrev pub IsSafe : Markup → Piece → Type 0
IsSafe m (Char c) = IsShown c × IsScalar c
IsSafe m (Begin n l) = (n ≡ m) × (is_plain l ≡ false)
IsSafe m (Open url) = (m.links ≡ true) × IsLed url
IsSafe m p = ⊤

-- The tags are in pairs, in a link or not, in a span or not: a span has nothing in it but text, a link text and spans, and each is
-- ended.
abbrev pub are_paired : Bool → Bool → List Piece → Bool
are_paired linked spanned [] = not (linked || spanned)
are_paired linked spanned (Char c ∷ pieces) = are_paired linked spanned pieces
are_paired linked spanned (Begin m l ∷ pieces) =
    if spanned then false else are_paired linked true pieces
are_paired linked spanned (End ∷ pieces) =
    if spanned then are_paired linked false pieces else false
are_paired linked spanned (Open url ∷ pieces) =
    if linked || spanned then false else are_paired true false pieces
are_paired linked spanned (Shut ∷ pieces) =
    if linked && not spanned then are_paired false false pieces else false

-- a page of such pieces alone
pub record IsPageWith (m : Markup) (page : List ℕ) : Type 0 where
  pub pieces : List Piece
  pub safe : AllByRecursion (IsSafe m) pieces
  pub paired : are_paired false false pieces ≡ true
  pub all : page ≡ piece_texts pieces

abbrev pub IsPage : List ℕ → Type 0
IsPage page = IsPageWith simple page

-- a byte that may stand in an address: a visible character of ASCII that doesn't end it, and begins no tag; `&` begins a reference
abbrev pub is_quoted : ℕ → Bool
is_quoted b =
    is_visible b && (not (b == 34) && (not (b == 39) && (not (b == 60) && not (b == 62))))

abbrev pub IsQuoted : ℕ → Type 0
IsQuoted b = is_quoted b ≡ true
