-- A page is markup by its bytes alone.
use Rattle.std.proofs.Common.{◌≡◌, ◌≢◌, ◌<◌, ◌≤◌, ◌+◌, ◌/◌, ◌%◌, ℕ, Bool, true, false, List, [], ◌∷◌, ◌++◌, Option, Some, None, refl, sym, ap, subst, ◌∙◌, append_assoc, arith, codes, if◌then◌else◌, flat_map}
use Rattle.csicodec_html.proofs.Common.{cond_both, nat_tests, AllByRecursion, scalar, IsShown, class_name, names, IsHarmless, IsPageWith, IsSafe, PageWith, Piece, Char, Open, are_paired, escaped, piece_text, piece_texts, Class, Look, Markup, css, settled}
use Rattle.csicodec_html.proofs.Marks.{all_quoted}
use Rattle.csicodec_looks.proofs.{Marks.escaped_by, Declarations.Fine, Declarations.css_fine, Declarations.name_fine, Declarations.true_fine}
use Rattle.csicodec_clean.proofs.Paired.{is_page}
use Rattle.std.specs.Char.{encode_utf8}
use Rattle.csicodec_html.specs.MarkupBytes.{Spot, Inside, Tag, begun, is_value_byte, is_markup, no_value, spot_behind, IsMarkup}
use Rattle.csicodec_looks.specs.{Classes.classes_of, Classes.has_true, Classes.rest_attribute, Classes.style_attribute, Classes.true_colors, Pieces.Begin}
use Rattle.csicodec_looks.specs.{Pieces.End, Pieces.Shut}
use Rattle.csicodec_clean.specs.Page.{IsQuoted}

-- ---- characters

-- behind them text goes on
abbrev Passes : List ℕ → Type 0
Passes bytes = (links linked spanned : Bool) (more : List ℕ) → is_markup links Inside linked spanned (bytes ++ more) ≡ is_markup links Inside linked spanned more

one : (c : ℕ) → c < 128 → IsShown c → c ≢ 34 → c ≢ 38 → c ≢ 39 → c ≢ 60 → c ≢ 62 → Passes (c ∷ [])
one c k h quote and apostrophe less greater links linked spanned more = grind (arith, nat_tests)

high : (links linked spanned : Bool) (b : ℕ) → 128 ≤ b → spot_behind links linked spanned Inside b ≡ begun b
high links linked spanned b h = grind (arith, nat_tests)

two : (c : ℕ) → 160 ≤ c → c < 2048 → Passes ((192 + c / 64) ∷ (128 + c % 64) ∷ [])
two c h k links linked spanned more = grind (arith, nat_tests)

three : (c : ℕ) → 2048 ≤ c → c < 65536 → scalar c ≡ true → Passes ((224 + c / 4096) ∷ (128 + (c / 64) % 64) ∷ (128 + c % 64) ∷ [])
three c h k s links linked spanned more = grind (arith, nat_tests)

four : (c : ℕ) → 65536 ≤ c → scalar c ≡ true → Passes ((240 + c / 262144) ∷ (128 + (c / 4096) % 64) ∷ (128 + (c / 64) % 64) ∷ (128 + c % 64) ∷ [])
four c h s links linked spanned more =
    ap (λ (at : Spot). is_markup links at linked spanned ((128 + (c / 4096) % 64) ∷ (128 + (c / 64) % 64) ∷ (128 + c % 64) ∷ more))
    (high links linked spanned (240 + c / 262144) (omega arith)) ∙ (grind (arith, nat_tests))

itself : (c : ℕ) → IsShown c → scalar c ≡ true → c ≢ 34 → c ≢ 38 → c ≢ 39 → c ≢ 60 → c ≢ 62 → Passes (encode_utf8 c)
unfolding encode_utf8
itself c h s quote and apostrophe less greater = grind (arith, nat_tests, one, two, three, four)

char_markup : (c : ℕ) → IsShown c → scalar c ≡ true → Passes (escaped c)
char_markup c h s = escaped_by Passes c (λ l k p m. refl) (λ l k p m. refl) (λ l k p m. refl) (λ l k p m. refl) (λ l k p m. refl) (itself c h s)

-- ---- what stands between quotation marks

abbrev IsValue : ℕ → Type 0
IsValue b = is_value_byte b ≡ true

harmless_value : (b : ℕ) → IsHarmless b → IsValue b
harmless_value b h = grind (arith, nat_tests)

quoted_value : (b : ℕ) → IsQuoted b → IsValue b
quoted_value b h = grind (arith, nat_tests)

value_stays : (links linked spanned : Bool) (tag : List ℕ) (b : ℕ) → IsValue b → spot_behind links linked spanned (Tag true tag) b ≡ Tag true tag
value_stays links linked spanned tag b h = grind (arith, nat_tests)

value_markup : (P : ℕ → Type 0) → ((b : ℕ) → P b → IsValue b) → (links linked spanned : Bool) (tag bytes more : List ℕ) → AllByRecursion P bytes
    → is_markup links (Tag true tag) linked spanned (bytes ++ more) ≡ is_markup links (Tag true tag) linked spanned more
value_markup P f links linked spanned tag [] more h = refl
value_markup P f links linked spanned tag (b ∷ bytes) more h =
    ap (λ (s : Spot). is_markup links s linked spanned (bytes ++ more)) (value_stays links linked spanned tag b (f b h.0)) ∙ value_markup P f links linked spanned tag bytes more h.1

fine_markup : (links linked spanned : Bool) (tag bytes more : List ℕ) → Fine bytes → is_markup links (Tag true tag) linked spanned (bytes ++ more) ≡ is_markup links (Tag true tag) linked spanned more
fine_markup links linked spanned tag bytes more h = value_markup IsHarmless harmless_value links linked spanned tag bytes more h

-- ---- the attributes of a span

-- the tag that begins one, with classes or without, where no style came
abbrev span_tag : Bool → List ℕ
span_tag false = codes "span"
span_tag true = codes "span class=" ++ no_value

-- where classes came, their attribute is open
abbrev named_at : Bool → Spot
named_at false = Tag false (codes "span")
named_at true = Tag true (codes "span class=" ++ 34 ∷ [])

module _ (links linked : Bool) where
  -- behind the tag text goes on, in a span
  abbrev Begins : Spot → List ℕ → List ℕ → Type 0
  Begins s bytes more = is_markup links s linked false (bytes ++ 62 ∷ more) ≡ is_markup links Inside linked true more

  style_markup : (classes : Bool) (style more : List ℕ) → Fine style → Begins (Tag false (span_tag classes)) (style_attribute style) more
  style_markup false style more h =
      let tag = codes "span style=" ++ 34 ∷ [] in
      ap (λ (t : List ℕ). is_markup links (Tag true tag) linked false t) (append_assoc style (34 ∷ []) (62 ∷ more)) ∙ fine_markup links linked false tag style (34 ∷ 62 ∷ more) h
  style_markup true style more h =
      let tag = codes "span class=" ++ (no_value ++ (codes " style=" ++ 34 ∷ [])) in
      ap (λ (t : List ℕ). is_markup links (Tag true tag) linked false t) (append_assoc style (34 ∷ []) (62 ∷ more)) ∙ fine_markup links linked false tag style (34 ∷ 62 ∷ more) h

  rest_markup : (classes : Bool) (l : Look) (more : List ℕ) → Begins (Tag false (span_tag classes)) (rest_attribute l) more
  rest_markup classes l more =
      let at = Tag false (span_tag classes) in
      cond_both (has_true l) (style_attribute (true_colors l)) [] (λ (t : List ℕ). Begins at t more)
      (λ _. style_markup classes (true_colors l) more (true_fine l)) (λ _. grind arith)

  name_markup : (c : Class) (later more : List ℕ) → is_markup links (named_at true) linked false ((class_name c ++ later) ++ more) ≡ is_markup links (named_at true) linked false (later ++ more)
  name_markup c later more =
      rw (append_assoc (class_name c) later more) (fine_markup links linked false (codes "span class=" ++ 34 ∷ []) (class_name c) (later ++ more) (name_fine c))

  names_markup : (came : Bool) (slots : List (Option Class)) (l : Look) (more : List ℕ)
      → is_markup links (named_at came) linked false (names came slots ++ (rest_attribute l ++ 62 ∷ more)) ≡ is_markup links Inside linked true more
  names_markup true [] l more = rest_markup true l more
  names_markup false [] l more = rest_markup false l more
  names_markup came (None ∷ slots) l more = names_markup came slots l more
  names_markup true (Some c ∷ slots) l more = name_markup c (names true slots) (rest_attribute l ++ 62 ∷ more) ∙ names_markup true slots l more
  names_markup false (Some c ∷ slots) l more = name_markup c (names true slots) (rest_attribute l ++ 62 ∷ more) ∙ names_markup true slots l more

-- ---- the tags

begin_markup : (links linked : Bool) (m : Markup) (l : Look) (more : List ℕ) → is_markup links Inside linked false (piece_text (Begin m l) ++ more) ≡ is_markup links Inside linked true more
begin_markup links linked m l more = by m.classes
  where
    look : Look
    look = settled m.palette l

    by : (b : Bool) → is_markup links (Tag false (codes "span")) linked false
        (((if b then names false (classes_of look) ++ rest_attribute look else style_attribute (css m.palette look)) ++ 62 ∷ []) ++ more)
        ≡ is_markup links Inside linked true more
    by true = rw (append_assoc, append_assoc (names false (classes_of look)) (rest_attribute look) (62 ∷ more))
        (names_markup links linked false (classes_of look) look more)
    by false = rw (append_assoc (style_attribute (css m.palette look)) (62 ∷ []) more)
        (style_markup links linked false (css m.palette look) more (css_fine m.palette look))

open_markup : (url more : List ℕ) → AllByRecursion IsQuoted (flat_map escaped url) → is_markup true Inside false false (piece_text (Open url) ++ more) ≡ is_markup true Inside true false more
open_markup url more h =
    rw (append_assoc (flat_map escaped url) (34 ∷ 62 ∷ []) more)
    (value_markup IsQuoted quoted_value true false false (codes "a rel=\"\" href=\"") (flat_map escaped url) (34 ∷ 62 ∷ more) h)

-- ---- the page

pieces_markup : (m : Markup) (linked spanned : Bool) (pieces : List Piece) → AllByRecursion (IsSafe m) pieces
    → are_paired linked spanned pieces ≡ true → is_markup m.links Inside linked spanned (piece_texts pieces) ≡ true
pieces_markup m linked spanned [] h p = p
pieces_markup m linked spanned (Char c ∷ pieces) h p = char_markup c h.0.0 h.0.1 m.links linked spanned (piece_texts pieces) ∙ pieces_markup m linked spanned pieces h.1 p
pieces_markup m linked false (Begin n l ∷ pieces) h p = begin_markup m.links linked n l (piece_texts pieces) ∙ pieces_markup m linked true pieces h.1 p
pieces_markup m linked true (End ∷ pieces) h p = pieces_markup m linked false pieces h.1 p
pieces_markup m false false (Open url ∷ pieces) h p =
    let more = piece_texts pieces in
    subst (λ (links : Bool). is_markup links Inside false false (piece_text (Open url) ++ more) ≡ is_markup links Inside true false more) (sym h.0.0)
    (open_markup url more (all_quoted url h.0.1.visible))
    ∙ pieces_markup m true false pieces h.1 p
pieces_markup m true false (Shut ∷ pieces) h p = pieces_markup m false false pieces h.1 p
pieces_markup m linked spanned (_ ∷ pieces) h p = absurd cc

pub page_markup : (m : Markup) (page : List ℕ) → IsPageWith m page → IsMarkup m.links page
page_markup m page p = rw p.all (pieces_markup m false false p.pieces p.safe p.paired)

pub made_markup : (m : Markup) (bytes page : List ℕ) → PageWith m bytes page → IsMarkup m.links page
made_markup m bytes page p = page_markup m page (is_page m bytes page p)
