-- What is noted of a control sequence that came before. No promise rests on this file.
use Rattle.std.specs.Prelude.{ℕ, ◌≡◌, ◌*◌, ◌==◌, ◌⊎◌, ◌≤◌, true, false, List, [], ◌∷◌, ◌++◌, length, take, drop, if◌then◌else◌, Option, Some}
use Rattle.std.specs.List.{AllByRecursion, flat_map}
use Rattle.csicodec_actions.specs.Actions.{Action}
use Rattle.csicodec_base.specs.declared.sgr.Sgr.{Sgr}
use Rattle.csicodec_looks.specs.{declared.xterm.Depth.Depth, Xterm.reduced}
use Rattle.csicodec_clean.specs.Styled.{Rendition, Spelled, attribute, behind_styles, hides, is_reset, rendition_in, spelled, style_texts, styles_in}
use Rattle.csicodec_clean.specs.{declared.saving.Effect.Effect, declared.styles.Passing.Passing, Saving.are_lasting, Saving.effect_of}
use Rattle.csicodec_terminal.specs.Terminal.{IsTakenFor}

-- so many first bytes of each text
abbrev pub fronts : List ℕ → List (List ℕ) → List (List ℕ)
fronts [] texts = []
fronts (n ∷ ns) [] = []
fronts (n ∷ ns) (t ∷ texts) = take n t ∷ fronts ns texts

abbrev pub depth_byte : Depth → ℕ
depth_byte Depth.Full = 0
depth_byte Depth.Palette = 1
depth_byte Depth.Ansi = 2

-- the styles that stay of actions that save nothing and bring nothing back
abbrev pub stays : Depth → Option Effect → List Sgr
stays d (Some (Effect.Sets s)) = if hides s then [] else reduced d s ∷ []
stays d e = []

abbrev pub kept : Depth → List Action → List Sgr
kept d [] = []
kept d (a ∷ actions) = stays d (effect_of a) ++ kept d actions

-- a style behind the last reset, whose text has a place
abbrev pub HasPlace : Sgr → Type 0
HasPlace s = (is_reset s ≡ false) × (length (style_texts (s ∷ [])) ≤ 32)

-- the styles up to the last reset, where one is, and those behind it
abbrev pub IsSplit : List Sgr → List Sgr → List Sgr → Type 0
IsSplit styles front since = (styles ≡ front ++ since) × AllByRecursion HasPlace since
    × ((front ≡ []) ⊎ ((before : List Sgr) × (front ≡ before ++ Sgr.Reset ∷ [])))

-- of each style the place of its attribute, and how long its text is
abbrev pub place_of : Sgr → List ℕ
place_of s = attribute s ∷ length (style_texts (s ∷ [])) ∷ []

abbrev pub places : List Sgr → List ℕ
places styles = flat_map place_of styles

-- such places, and behind their texts others
abbrev pub ArePlaced : List Sgr → List ℕ → List ℕ → Type 0
ArePlaced styles told text = AllByRecursion HasPlace styles × (told ≡ places styles)
    × ((more : List ℕ) × (text ≡ style_texts styles ++ more))

-- what the styles of a note are: the place of an attribute for one of it, 13 for resets, 14 for none, and 15 for several
abbrev pub code_of : List Sgr → List Sgr → ℕ
code_of [] [] = 14
code_of (f ∷ front) [] = 13
code_of [] (s ∷ []) = attribute s
code_of [] (s ∷ t ∷ since) = 15
code_of (f ∷ front) (s ∷ since) = 15

-- the colours that stay, what the styles are, and the text of all; where they are several, also how long that is up to the last reset, how many
-- are behind it, and their places
abbrev pub note_of : Depth → List Sgr → List Sgr → List ℕ
note_of d front since = if code_of front since == 15
    then depth_byte d ∷ 15 ∷ length (style_texts front) ∷ length since ∷ (style_texts (front ++ since) ++ places since)
    else depth_byte d ∷ code_of front since ∷ style_texts (front ++ since)

-- the note of some styles
abbrev pub IsNote : List ℕ → Type 0
IsNote note = (of : Depth) × (front : List Sgr) × (since : List Sgr) × (styles : List Sgr)
    × IsSplit styles front since × (note ≡ note_of of front since)

-- the text of a note stands behind so many of its bytes, and has so many
abbrev pub HasText : List ℕ → ℕ → ℕ → Type 0
HasText note start len = (of : Depth) (front since : List Sgr) → note ≡ note_of of front since
    → take len (drop start note) ≡ style_texts (front ++ since)

-- behind the styles of a note text is rendered so
abbrev pub IsTaken : Passing → List ℕ → Spelled → Spelled → Type 0
IsTaken d note before after = (of : Depth) (front since styles : List Sgr) → note ≡ note_of of front since
    → IsSplit styles front since → (r : Rendition) → before ≡ spelled r
    → after ≡ spelled (behind_styles d r styles)

-- where the styles of a text stand: how long it is up to the last reset, and the places of those behind it
abbrev pub HasPlaces : List Sgr → ℕ → List ℕ → Type 0
HasPlaces styles behind told = (front : List Sgr) × (since : List Sgr) × IsSplit styles front since
    × (behind ≡ length (style_texts front)) × (told ≡ places since) × (length (style_texts styles) ≤ 32 * length styles)

-- the note of the sequence of these bytes, which saves nothing and brings nothing back
abbrev pub IsNoted : List ℕ → List ℕ → Type 0
IsNoted bytes note = (d : Depth) × (actions : List Action) × (front : List Sgr) × (since : List Sgr)
    × IsTakenFor bytes actions × (are_lasting actions ≡ true)
    × IsSplit (kept d actions) front since × (note ≡ note_of d front since)

-- one text is appended: that of these styles, behind which text is rendered so
abbrev pub Adds : Spelled → Spelled → List ℕ → List ℕ → (Rendition → List Sgr) → (Rendition → Rendition) → Type 0
Adds before after old new styles behind = (text : List ℕ) × (new ≡ old ++ text)
    × ((r : Rendition) → before ≡ spelled r → (text ≡ style_texts (styles r)) × (after ≡ spelled (behind r)))

-- what stays of the sequence of these bytes is appended, and text is rendered so behind it
abbrev pub IsLeft : Passing → List ℕ → Spelled → Spelled → List ℕ → List ℕ → Type 0
IsLeft d bytes before after old new = (actions : List Action) × IsTakenFor bytes actions
    × Adds before after old new (λ r. styles_in d r actions) (λ r. rendition_in d r actions)
