-- What is left of a stream where its styles stay: characters that are shown, known styles but concealed text and fonts, and links, where they pass.
use Rattle.std.specs.Prelude.{ℕ, ◌≡◌, ◌==◌, Option, Some, None, Bool, true, false, not, List, [], ◌∷◌, ◌++◌, map, filter, if◌then◌else◌, encode_utf8}
use Rattle.std.specs.{List.AllByRecursion, List.flat_map, Char.IsScalar, Str.bytes_eq}
use Rattle.bstr.specs.Utf8.{lossy_chars}
use Rattle.csicodec_tokens.specs.{declared.param.CsiParam.CsiParam, Sequence.Seq}
use Rattle.csicodec_base.specs.{declared.sgr.Sgr.Sgr, declared.sgr.Font.Font}
use Rattle.csicodec_actions.specs.{Actions.Action, Table.text, Table.texts}
use Rattle.csicodec_parser.specs.Segments.{Actions}
use Rattle.csicodec_streams.specs.Exact.{ReadsAlone}
use Rattle.csicodec_terminal.specs.Terminal.{IsTakenFor}
use Rattle.csicodec_spans.specs.{declared.table.Kind.Kind, Parts.Part, Parts.IsWhole, declared.table.Mode.Mode}
use Rattle.csicodec_clean.specs.Links.{Address, Begun, IsLink, all_behind, is_linked, link_text, link_texts, links_at, links_in, next, no_address, start}
use Rattle.csicodec_clean.specs.{Shown.shown, Shown.IsShown, Sets.as_read, Sets.first_reading, declared.styles.Passing.Passing, Cleaned.RuleOf, Cleaned.EndOf}
use Rattle.csicodec_clean.specs.{Cleaned.longest, declared.saving.Effect.Effect, Saving.effect_of, Saving.escape_effect}
use Rattle.csicodec_looks.specs.{declared.xterm.Depth.Depth, Xterm.reduced}
use Rattle.csicodec_actions.specs.Actions as action

-- the style hides what follows, or shows it in another font: on Linux' console two of the fonts change how each later byte is shown, and
-- a reset leaves that (console_codes(4))
abbrev pub hides : Sgr → Bool
hides (Sgr.Invisible on) = on
hides (Sgr.Font (Font.Alternate n)) = true
hides s = false

abbrev pub is_reset : Sgr → Bool
is_reset Sgr.Reset = true
is_reset s = false

-- whether the last of the styles is no reset
abbrev pub is_open : Bool → List Sgr → Bool
is_open styled [] = styled
is_open styled (s ∷ styles) = is_open (not (is_reset s)) styles

-- ---- the graphic rendition of text (ECMA-48, 8.3.117)

-- which attribute a style sets, by its place among them; a reset sets none of them
abbrev pub attribute : Sgr → ℕ
attribute (Sgr.Intensity x) = 0
attribute (Sgr.Underline x) = 1
attribute (Sgr.UnderlineColor x) = 2
attribute (Sgr.Blink x) = 3
attribute (Sgr.Italic on) = 4
attribute (Sgr.Inverse on) = 5
attribute (Sgr.Invisible on) = 6
attribute (Sgr.StrikeThrough on) = 7
attribute (Sgr.Font x) = 8
attribute (Sgr.Foreground x) = 9
attribute (Sgr.Background x) = 10
attribute (Sgr.Overline on) = 11
attribute (Sgr.VerticalAlign x) = 12
attribute Sgr.Reset = 13

abbrev pub attributes : List ℕ
attributes = 0 ∷ 1 ∷ 2 ∷ 3 ∷ 4 ∷ 5 ∷ 6 ∷ 7 ∷ 8 ∷ 9 ∷ 10 ∷ 11 ∷ 12 ∷ []

-- the last of the styles that sets this attribute, or the one that was found before them
abbrev pub last_from : List Sgr → ℕ → List Sgr → List Sgr
last_from found a [] = found
last_from found a (s ∷ styles) = last_from (if attribute s == a then s ∷ [] else found) a styles

abbrev pub last_of : List Sgr → ℕ → List Sgr
last_of styles a = last_from [] a styles

-- of each attribute the last style, and the text of that
abbrev pub settled : List Sgr → List Sgr
settled styles = flat_map (last_of styles) attributes

abbrev pub style_texts : List Sgr → List ℕ
style_texts styles = texts (map action.Sgr styles)

abbrev pub settled_texts : List Sgr → List (List ℕ)
settled_texts styles = map (λ a. style_texts (last_of styles a)) attributes

-- whether a style is open, the styles since the last reset, and those that are saved
pub record Rendition : Type 0 where
  pub styled : Bool
  pub since : List Sgr
  pub saved : List Sgr

abbrev pub rendition : Bool → List Sgr → List Sgr → Rendition
rendition styled since saved = record { styled = styled; since = since; saved = saved }

abbrev pub plain_rendition : Rendition
plain_rendition = rendition false [] []

-- the styles since the last reset, behind others
abbrev pub since_behind : List Sgr → List Sgr → List Sgr
since_behind since [] = since
since_behind since (s ∷ styles) =
    since_behind (if is_reset s then [] else since ++ s ∷ []) styles

-- a reset where a style is open, and nothing where none is
abbrev pub set_back : Bool → List Sgr
set_back styled = if styled then Sgr.Reset ∷ [] else []

-- what brings back the styles that are saved: nothing where they are set, and else a reset, and then they
abbrev pub brought_back : Rendition → List Sgr
brought_back r =
    if bytes_eq (style_texts (settled r.saved)) (style_texts (settled r.since)) then []
    else set_back r.styled ++ settled r.saved

-- what stays of what is done to how text looks: a style that hides nothing, with the colours that stay, and what sets all back or brings it back
abbrev pub styles_by : Passing → Rendition → Option Effect → List Sgr
styles_by d r None = []
styles_by d r (Some (Effect.Sets s)) = if hides s then [] else reduced d.depth s ∷ []
styles_by d r (Some Effect.Clears) = set_back r.styled
styles_by d r (Some Effect.Saves) = []
styles_by d r (Some Effect.Restores) = if d.restores then brought_back r else []

-- the rendition behind styles that come, and behind what is done to it
abbrev pub behind_styles : Passing → Rendition → List Sgr → Rendition
behind_styles d r styles =
    rendition (is_open r.styled styles) (if d.restores then since_behind r.since styles else r.since) r.saved

abbrev pub rendition_by : Passing → Rendition → Option Effect → Rendition
rendition_by d r (Some Effect.Clears) = plain_rendition
rendition_by d r (Some Effect.Saves) = if d.restores then rendition r.styled r.since r.since else r
rendition_by d r (Some Effect.Restores) =
    if d.restores then rendition (is_open r.styled (brought_back r)) r.saved r.saved else r
rendition_by d r e = behind_styles d r (styles_by d r e)

-- what stays of the actions of a control sequence in turn, and the rendition behind them
abbrev pub styles_in : Passing → Rendition → List Action → List Sgr
styles_in d r [] = []
styles_in d r (a ∷ actions) =
    styles_by d r (effect_of a) ++ styles_in d (rendition_by d r (effect_of a)) actions

abbrev pub rendition_in : Passing → Rendition → List Action → Rendition
rendition_in d r [] = r
rendition_in d r (a ∷ actions) = rendition_in d (rendition_by d r (effect_of a)) actions

-- the bytes are one control sequence, of these actions by the table
abbrev pub IsOf : List ℕ → List Action → Type 0
IsOf bytes actions = (list : List CsiParam) × (final : ℕ) × Seq bytes list final
    × Actions list false final actions

-- a character, a style, or a link
pub data Item : Type 0 where
  Shown : ℕ → Item
  Style : Sgr → Item
  Link : Address → Item

abbrev pub item_text : Item → List ℕ
item_text (Shown c) = encode_utf8 c
item_text (Style s) = text (action.Sgr s)
item_text (Link a) = link_text a

abbrev pub item_texts : List Item → List ℕ
item_texts items = flat_map item_text items

-- the characters of a run of text that are shown
abbrev pub shown_items : List ℕ → List Item
shown_items run = map Shown (filter shown (lossy_chars run))

abbrev pub style_in : Item → List Sgr
style_in (Style s) = s ∷ []
style_in item = []

abbrev pub styles_of : List Item → List Sgr
styles_of items = flat_map style_in items

-- what a part leaves, and the rendition behind it: of a control sequence the styles that stay of what terminals take it for, of an escape sequence those of
-- what it does, of a control string, where links pass, the link that is over with it, and of any other nothing
abbrev pub Leaves : Passing → Rendition → Begun → Kind → List ℕ → List Item → Rendition → Type 0
Leaves d r b Kind.Csi bytes own after = (actions : List Action) × IsTakenFor bytes actions
    × (own ≡ map Style (styles_in d r actions)) × (after ≡ rendition_in d r actions)
Leaves d r b Kind.Esc bytes own after = (own ≡ map Style (styles_by d r (escape_effect bytes)))
    × (after ≡ rendition_by d r (escape_effect bytes))
Leaves d r b Kind.Str bytes own after = (own ≡ map Link (links_in d.links b bytes)) × (after ≡ r)
Leaves d r b k bytes own after = (own ≡ []) × (after ≡ r)

abbrev pub begun_behind : Passing → Begun → Kind → List ℕ → Begun
begun_behind d b Kind.Str bytes = all_behind d.links b bytes
begun_behind d b k bytes = b

abbrev pub run_behind : Kind → List ℕ → List ℕ → List ℕ
run_behind Kind.Text run bytes = run ++ bytes
run_behind k run bytes = []

abbrev pub items_behind : Kind → List ℕ → List Item
items_behind Kind.Text run = []
items_behind k run = shown_items run

-- what is left of the parts, behind a run of text: text goes on with the run, and any other part ends it
abbrev pub AreLeft : Passing → Rendition → Begun → List ℕ → List Part → List Item → Type 0
AreLeft d r b run [] items = items ≡ shown_items run
AreLeft d r b run (p ∷ parts) items =
    (own : List Item) × (others : List Item) × (after : Rendition)
    × Leaves d r b p.kind p.bytes own after
    × (items ≡ items_behind p.kind run ++ (own ++ others))
    × AreLeft d after (begun_behind d b p.kind p.bytes) (run_behind p.kind run p.bytes) parts others

abbrev pub link_in : Item → List Address
link_in (Link a) = a ∷ []
link_in item = []

abbrev pub links_of : List Item → List Address
links_of items = flat_map link_in items

-- what ends a link and a style, where they are left open
abbrev pub ends_of : Bool → Bool → List Item
ends_of linked styled =
    (if linked then Link no_address ∷ [] else []) ++ (if styled then Style Sgr.Reset ∷ [] else [])

abbrev pub closed : List Item → List Item
closed items = items ++ ends_of (is_linked false (links_of items)) (is_open false (styles_of items))

-- what is left of the bytes where this passes
pub record StylesIn (d : Passing) (bytes text : List ℕ) : Type 0 where
  pub parts : List Part
  pub whole : IsWhole longest Mode.Text bytes parts
  pub items : List Item
  pub left : AreLeft d plain_rendition start [] (as_read first_reading parts) items
  pub all : text ≡ item_texts (closed items)

-- so many colours, and no links
abbrev pub without_links : Depth → Passing
without_links d = record { depth = d; links = false; restores = true }

-- what is left of the bytes where all colours stay
abbrev pub Styles : List ℕ → List ℕ → Type 0
Styles bytes text = StylesIn (without_links Depth.Full) bytes text

-- a character that is shown, a style that hides nothing, has a colour that stays, and whose text is read as it alone, or, where links
-- pass, one that may
abbrev pub IsSafe : Passing → Item → Type 0
IsSafe d (Shown c) = IsShown c × IsScalar c
IsSafe d (Style s) = (hides s ≡ false) × ReadsAlone (action.Sgr s) false × (reduced d.depth s ≡ s)
IsSafe d (Link a) = (d.links ≡ true) × IsLink a

-- a join of such texts, which leaves no style and no link open
pub record IsStyledIn (d : Passing) (text : List ℕ) : Type 0 where
  pub items : List Item
  pub safe : AllByRecursion (IsSafe d) items
  pub texts : text ≡ item_texts items
  pub none_open : is_open false (styles_of items) ≡ false
  pub none_linked : is_linked false (links_of items) ≡ false

abbrev pub IsStyled : List ℕ → Type 0
IsStyled text = IsStyledIn (without_links Depth.Full) text

-- a rendition by the texts of its styles, of each attribute one or none
pub record Spelled : Type 0 where
  pub styled : Bool
  pub since : List (List ℕ)
  pub saved : List (List ℕ)

abbrev pub spelled : Rendition → Spelled
spelled r = record { styled = r.styled; since = settled_texts r.since; saved = settled_texts r.saved }

-- what the rule that keeps those goes by: what passes, how text is rendered, whether a link is open, and what has come of one
pub record Keeping : Type 0 where
  pub passing : Passing
  pub rendition : Spelled
  pub linked : Bool
  pub begun : Begun

abbrev pub keeping : Passing → Spelled → Bool → Begun → Keeping
keeping d r linked b = record { passing = d; rendition = r; linked = linked; begun = b }

abbrev pub first_kept : Passing → Keeping
first_kept d = keeping d (spelled plain_rendition) false start

-- where no links pass, and nothing that was saved is brought back, all that changes is whether a style is open
abbrev pub in_steps : Depth → Passing
in_steps d = record { depth = d; links = false; restores = false }

abbrev pub resumed : Depth → Bool → Keeping
resumed d styled = keeping (in_steps d) (spelled (rendition styled [] [])) false start

-- behind a rendition, and behind a byte of a control string
abbrev pub rendered : Keeping → Rendition → Keeping
rendered k r = keeping k.passing (spelled r) k.linked k.begun

abbrev pub behind_byte : Keeping → ℕ → Keeping
behind_byte k c = keeping k.passing k.rendition
    (is_linked k.linked (links_at k.passing.links k.begun c)) (next k.passing.links k.begun c)

-- the rule, whatever rendition its texts are of
abbrev pub keeps : RuleOf Keeping
keeps = record {
  writing = None;
  sequence = λ k bytes out after.
      (actions : List Action) × IsTakenFor bytes actions × ((r : Rendition) → k.rendition ≡ spelled r →
      (out ≡ style_texts (styles_in k.passing r actions))
      × (after ≡ rendered k (rendition_in k.passing r actions)));
  escape = λ k bytes out after. (r : Rendition) → k.rendition ≡ spelled r →
      (out ≡ style_texts (styles_by k.passing r (escape_effect bytes)))
      × (after ≡ rendered k (rendition_by k.passing r (escape_effect bytes)));
  byte = λ k c out after. (out ≡ link_texts (links_at k.passing.links k.begun c))
      × (after ≡ behind_byte k c);
}

-- at the end it ends the link that is open, and sets all back where a style is
abbrev pub resets : EndOf Keeping
resets k close = close
    ≡ (if k.linked then link_text no_address else [])
    ++ (if k.rendition.styled then text (action.Sgr Sgr.Reset) else [])
