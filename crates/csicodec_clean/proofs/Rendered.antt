-- How text is rendered behind styles, and behind what saves them and brings them back; and the texts of its styles, of each attribute one.
use Rattle.std.proofs.Common.{◌≡◌, ◌<◌, ◌≤◌, ℕ, zero, suc, get_or, drop, ◌+◌, ◌-◌, ◌*◌, ◌/◌, length-append, eqb-true, length, take, inl, inr, nat_lt, Bool, true, false, not, if◌then◌else◌, ◌==◌, List, [], ◌∷◌, ◌++◌, map, flat_map, Option, subst, Some, None, refl, sym, ap, ◌∙◌, append_assoc, append-nil, arith}
use Rattle.std.proofs.{Math.Seq.take-length, lemmas.Bool.cases_Bool, lemmas.List.drop-append-le, lemmas.List.length-drop, lemmas.Slice.Eq.bytes_eq-Decides}
use Rattle.csicodec_clean.proofs.Common.{hides, reduced, nat_tests, take-append_seam, drop-append_seam, cond_both, flat_map-append, map-append, AllByRecursion, Action, text, Depth, Passing}
use Rattle.csicodec_clean.proofs.Plain.{all_both}
use Rattle.std.specs.{Str.bytes_eq, List.concat, Prelude.slice_set, Prelude.replicate}
use Rattle.csicodec_base.specs.declared.sgr.Sgr.{Sgr}
use Rattle.csicodec_clean.specs.Styled.{Rendition, Spelled, attribute, attributes, behind_styles, brought_back, in_steps, is_open, is_reset, last_from, last_of, rendition, rendition_by, rendition_in, set_back, settled, settled_texts, since_behind, spelled, style_texts, styles_by, styles_in}
use Rattle.csicodec_clean.specs.Private.Notes.{ArePlaced, HasPlace, IsSplit, fronts, kept, stays, Adds, HasPlaces, HasText, IsTaken, code_of, depth_byte, note_of, place_of, places}
use Rattle.csicodec_clean.specs.{declared.saving.Effect.Effect, Saving.are_lasting, Saving.effect_of, Saving.is_lasting}

-- ---- one style behind the other

pub open_on : (b : Bool) (xs ys : List Sgr) → is_open b (xs ++ ys) ≡ is_open (is_open b xs) ys
open_on b [] ys = refl
open_on b (x ∷ xs) ys = open_on (not (is_reset x)) xs ys

pub since_on : (since xs ys : List Sgr) → since_behind since (xs ++ ys) ≡ since_behind (since_behind since xs) ys
since_on since [] ys = refl
since_on since (x ∷ xs) ys = since_on (if is_reset x then [] else since ++ x ∷ []) xs ys

since_both : (restores : Bool) (since xs ys : List Sgr)
    → (if restores then since_behind since (xs ++ ys) else since) ≡ (if restores then since_behind (if restores then since_behind since xs else since) ys else (if restores then since_behind since xs else since))
since_both true since xs ys = since_on since xs ys
since_both false since xs ys = refl

pub behind_on : (d : Passing) (r : Rendition) (xs ys : List Sgr) → behind_styles d r (xs ++ ys) ≡ behind_styles d (behind_styles d r xs) ys
behind_on d r xs ys =
    ap (λ (o : Bool). rendition o (if d.restores then since_behind r.since (xs ++ ys) else r.since) r.saved) (open_on r.styled xs ys)
    ∙ ap (λ (x : List Sgr). rendition (is_open (is_open r.styled xs) ys) x r.saved) (since_both d.restores r.since xs ys)

since_none : (restores : Bool) (since : List Sgr) → since ≡ (if restores then since_behind since [] else since)
since_none true since = refl
since_none false since = refl

pub behind_none : (d : Passing) (r : Rendition) → r ≡ behind_styles d r []
behind_none d r = ap (λ (x : List Sgr). rendition r.styled x r.saved) (since_none d.restores r.since)

-- behind a reset where a style is open none is
pub back_shut : (t : Bool) → false ≡ is_open t (set_back t)
back_shut true = refl
back_shut false = refl

-- ---- what saves nothing and brings nothing back

lasting_by : (d : Passing) (r : Rendition) (e : Option Effect) → is_lasting e ≡ true
    → (styles_by d r e ≡ stays d.depth e) × (rendition_by d r e ≡ behind_styles d r (stays d.depth e))
lasting_by d r None h = (refl, refl)
lasting_by d r (Some (Effect.Sets s)) h = (refl, refl)
lasting_by d r (Some Effect.Clears) h = absurd cc
lasting_by d r (Some Effect.Saves) h = absurd cc
lasting_by d r (Some Effect.Restores) h = absurd cc

pub both_lasting : (b c : Bool) → (if b then c else false) ≡ true → (b ≡ true) × (c ≡ true)
both_lasting true c h = (refl, h)
both_lasting false c h = absurd cc

pub lasting : (d : Passing) (r : Rendition) (actions : List Action) → are_lasting actions ≡ true
    → (styles_in d r actions ≡ kept d.depth actions) × (rendition_in d r actions ≡ behind_styles d r (kept d.depth actions))
lasting d r [] h = (refl, behind_none d r)
lasting d r (a ∷ actions) h =
    let (first, others) = both_lasting (is_lasting (effect_of a)) (are_lasting actions) h in
    let own = stays d.depth (effect_of a) in
    let (styles, state) = lasting_by d r (effect_of a) first in
    let (more, behind) = lasting d (rendition_by d r (effect_of a)) actions others in (
      ap (λ (x : List Sgr). x ++ styles_in d (rendition_by d r (effect_of a)) actions) styles ∙ ap (λ (x : List Sgr). own ++ x) more,
      behind ∙ ap (λ (x : Rendition). behind_styles d x (kept d.depth actions)) state ∙ sym (behind_on d r own (kept d.depth actions)),
    )

-- ---- whether a style is open

saves_open : (restores : Bool) (r : Rendition) → (if restores then rendition r.styled r.since r.since else r).styled ≡ r.styled
saves_open true r = refl
saves_open false r = refl

brings_open : (restores : Bool) (r : Rendition) (own : List Sgr)
    → (if restores then rendition (is_open r.styled own) r.saved r.saved else r).styled ≡ is_open r.styled (if restores then own else [])
brings_open true r own = refl
brings_open false r own = refl

pub open_by : (d : Passing) (r : Rendition) (e : Option Effect) → (rendition_by d r e).styled ≡ is_open r.styled (styles_by d r e)
open_by d r None = refl
open_by d r (Some (Effect.Sets s)) = refl
open_by d r (Some Effect.Clears) = back_shut r.styled
open_by d r (Some Effect.Saves) = saves_open d.restores r
open_by d r (Some Effect.Restores) = brings_open d.restores r (brought_back r)

pub open_in : (d : Passing) (r : Rendition) (actions : List Action) → (rendition_in d r actions).styled ≡ is_open r.styled (styles_in d r actions)
open_in d r [] = refl
open_in d r (a ∷ actions) =
    let next = rendition_by d r (effect_of a) in
    open_in d next actions ∙ ap (λ (t : Bool). is_open t (styles_in d next actions)) (open_by d r (effect_of a))
    ∙ sym (open_on r.styled (styles_by d r (effect_of a)) (styles_in d next actions))

-- ---- where nothing is brought back, nothing is kept

pub unsaved_by : (d : Depth) (t : Bool) (e : Option Effect) → (u : Bool) × (rendition_by (in_steps d) (rendition t [] []) e ≡ rendition u [] [])
unsaved_by d t None = (t, refl)
unsaved_by d t (Some (Effect.Sets s)) = (_, refl)
unsaved_by d t (Some Effect.Clears) = (false, refl)
unsaved_by d t (Some Effect.Saves) = (t, refl)
unsaved_by d t (Some Effect.Restores) = (t, refl)

pub unsaved : (d : Depth) (t : Bool) (actions : List Action) → (u : Bool) × (rendition_in (in_steps d) (rendition t [] []) actions ≡ rendition u [] [])
unsaved d t [] = (t, refl)
unsaved d t (a ∷ actions) =
    let (u, same) = unsaved_by d t (effect_of a) in
    let (v, more) = unsaved d u actions in
    (v, ap (λ (x : Rendition). rendition_in (in_steps d) x actions) same ∙ more)

-- ---- what holds of styles holds of those that are settled

all_last : (P : Sgr → Type 0) (found : List Sgr) (a : ℕ) (xs : List Sgr) → AllByRecursion P found → AllByRecursion P xs → AllByRecursion P (last_from found a xs)
all_last P found a [] h k = h
all_last P found a (x ∷ xs) h k =
    all_last P (if attribute x == a then x ∷ [] else found) a xs (cond_both (attribute x == a) (x ∷ []) found (AllByRecursion P) (λ _. (k.0, tt)) (λ _. h)) k.1

all_of : (P : Sgr → Type 0) (xs : List Sgr) (places : List ℕ) → AllByRecursion P xs → AllByRecursion P (flat_map (last_of xs) places)
all_of P xs [] h = tt
all_of P xs (a ∷ places) h = all_both P (last_of xs a) (flat_map (last_of xs) places) (all_last P [] a xs tt h) (all_of P xs places h)

pub all_settled : (P : Sgr → Type 0) (xs : List Sgr) → AllByRecursion P xs → AllByRecursion P (settled xs)
all_settled P xs h = all_of P xs attributes h

pub all_since : (P : Sgr → Type 0) (since xs : List Sgr) → AllByRecursion P since → AllByRecursion P xs → AllByRecursion P (since_behind since xs)
all_since P since [] h k = h
all_since P since (x ∷ xs) h k =
    all_since P (if is_reset x then [] else since ++ x ∷ []) xs
    (cond_both (is_reset x) [] (since ++ x ∷ []) (AllByRecursion P) (λ _. tt) (λ _. all_both P since (x ∷ []) h (k.0, tt))) k.1

-- ---- the texts of styles, of each attribute one

last_on : (found : List Sgr) (a : ℕ) (xs ys : List Sgr) → last_from found a (xs ++ ys) ≡ last_from (last_from found a xs) a ys
last_on found a [] ys = refl
last_on found a (x ∷ xs) ys = last_on (if attribute x == a then x ∷ [] else found) a xs ys

map_same : {A B : Type 0} (f g : A → B) → ((a : A) → f a ≡ g a) → (xs : List A) → map f xs ≡ map g xs
map_same f g h [] = refl
map_same f g h (a ∷ places) = rw (h a, map_same f g h places) refl

placed : (xs : List Sgr) (s : Sgr) → is_reset s ≡ false
    → slice_set (settled_texts xs) (attribute s) (style_texts (s ∷ [])) ≡ map (λ a. style_texts (if attribute s == a then s ∷ [] else last_of xs a)) attributes
placed xs Sgr.Reset h = absurd cc
placed xs s h = refl

-- the text of one more takes the place of its attribute
pub texts_set : (xs : List Sgr) (s : Sgr) → is_reset s ≡ false → slice_set (settled_texts xs) (attribute s) (style_texts (s ∷ [])) ≡ settled_texts (xs ++ s ∷ [])
texts_set xs s h =
    placed xs s h ∙ sym (map_same (λ a. style_texts (last_of (xs ++ s ∷ []) a)) (λ a. style_texts (if attribute s == a then s ∷ [] else last_of xs a))
    (λ a. ap style_texts (last_on [] a xs (s ∷ []))) attributes)

abbrev pub spelling : Bool → List (List ℕ) → List (List ℕ) → Spelled
spelling styled since saved = record { styled = styled; since = since; saved = saved }

one_since : (restores : Bool) (since : List Sgr) (s : Sgr) → restores ≡ true → is_reset s ≡ false
    → settled_texts (since ++ s ∷ []) ≡ settled_texts (if restores then since_behind since (s ∷ []) else since)
one_since restores since s h k = rw (h, k) refl

pub kept_by : (b : Bool) → not b ≡ false → b ≡ true
kept_by true h = refl
kept_by false h = absurd cc

pub unkept_by : (b : Bool) → not b ≡ true → b ≡ false
unkept_by false h = refl
unkept_by true h = absurd cc

-- one style comes, where styles are kept
pub one_set : (p : Passing) (r : Rendition) (s : Sgr) (before : Spelled) → before ≡ spelled r → p.restores ≡ true → is_reset s ≡ false
    → spelling true (slice_set before.since (attribute s) (style_texts (s ∷ []))) before.saved ≡ spelled (behind_styles p r (s ∷ []))
one_set p r s before begins restores sets =
    ap (λ (x : Spelled). spelling true (slice_set x.since (attribute s) (style_texts (s ∷ []))) x.saved) begins
    ∙ ap (λ (x : List (List ℕ)). spelling true x (settled_texts r.saved)) (texts_set r.since s sets ∙ one_since p.restores r.since s restores sets)
    ∙ ap (λ (b : Bool). spelling (not b) (settled_texts (if p.restores then since_behind r.since (s ∷ []) else r.since)) (settled_texts r.saved)) (sym sets)

pub style_texts_on : (xs ys : List Sgr) → style_texts (xs ++ ys) ≡ style_texts xs ++ style_texts ys
style_texts_on xs ys = simp (map-append, flat_map-append)

texts_of : (xs : List Sgr) (places : List ℕ) → style_texts (flat_map (last_of xs) places) ≡ concat (map (λ a. style_texts (last_of xs a)) places)
texts_of xs [] = refl
texts_of xs (a ∷ places) = style_texts_on (last_of xs a) (flat_map (last_of xs) places) ∙ ap (λ (t : List ℕ). style_texts (last_of xs a) ++ t) (texts_of xs places)

-- side by side they are the text of the settled styles
pub settled_joined : (xs : List Sgr) → style_texts (settled xs) ≡ concat (settled_texts xs)
settled_joined xs = texts_of xs attributes

pub fronts_set : (ns : List ℕ) (ts : List (List ℕ)) (at n : ℕ) (t : List ℕ) → length ns ≡ length ts → fronts (slice_set ns at n) (slice_set ts at t) ≡ slice_set (fronts ns ts) at (take n t)
fronts_set [] [] at n t same = refl
fronts_set [] (u ∷ ts) at n t same = absurd (omega (arith, same))
fronts_set (m ∷ ns) [] at n t same = absurd (omega (arith, same))
fronts_set (m ∷ ns) (u ∷ ts) zero n t same = refl
fronts_set (m ∷ ns) (u ∷ ts) (suc at) n t same = ap (λ (x : List (List ℕ)). take m u ∷ x) (fronts_set ns ts at n t (omega (arith, same)))

pub take_twice : (n m : ℕ) (xs : List ℕ) → n ≤ m → take n (take m xs) ≡ take n xs
take_twice zero m xs h = refl
take_twice (suc n) zero xs h = absurd (omega (arith, h))
take_twice (suc n) (suc m) [] h = refl
take_twice (suc n) (suc m) (x ∷ xs) h = ap (λ (l : List ℕ). x ∷ l) (take_twice n m xs (omega (arith, h)))

-- ---- a note

since_reset : (since before ys : List Sgr) → since_behind since ((before ++ Sgr.Reset ∷ []) ++ ys) ≡ since_behind [] ys
since_reset since before ys = since_on since (before ++ Sgr.Reset ∷ []) ys ∙ ap (λ (x : List Sgr). since_behind x ys) (since_on since before (Sgr.Reset ∷ []))

placed_behind : (since xs : List Sgr) → AllByRecursion HasPlace xs → since_behind since xs ≡ since ++ xs
placed_behind since [] h = sym (append-nil since)
placed_behind since (x ∷ xs) h =
    ap (λ (b : Bool). since_behind (if b then [] else since ++ x ∷ []) xs) h.0.0 ∙ placed_behind (since ++ x ∷ []) xs h.1 ∙ append_assoc since (x ∷ []) xs

-- whether there is one
abbrev pub has_any : List Sgr → Bool
has_any [] = false
has_any (x ∷ xs) = true

any_last : (xs : List Sgr) (s : Sgr) → has_any (xs ++ s ∷ []) ≡ true
any_last [] s = refl
any_last (x ∷ xs) s = refl

pub any_is : (xs : List Sgr) → nat_lt 0 (length xs) ≡ has_any xs
any_is [] = refl
any_is (x ∷ xs) = grind (arith, nat_tests)

-- the styles since the last reset, behind those of a note
pub split_since : (base styles front since : List Sgr) → IsSplit styles front since → since_behind base styles ≡ (if has_any front then [] else base) ++ since
split_since base styles front since (all, are, inl none) = rw (all, none) (placed_behind base since are)
split_since base styles front since (all, are, inr (before, ends)) =
    rw (all, ends, any_last before Sgr.Reset) (since_reset base before since ∙ placed_behind [] since are)

placed_open : (t : Bool) (xs : List Sgr) → AllByRecursion HasPlace xs → is_open t xs ≡ (if has_any xs then true else t)
placed_open t [] h = refl
placed_open t (x ∷ []) h = ap not h.0.0
placed_open t (x ∷ y ∷ xs) h = placed_open (not (is_reset x)) (y ∷ xs) h.1

-- and whether one is open
pub split_open : (t : Bool) (styles front since : List Sgr) → IsSplit styles front since
    → is_open t styles ≡ (if has_any since then true else if has_any front then false else t)
split_open t styles front since (all, are, inl none) = rw (all, none) (placed_open t since are)
split_open t styles front since (all, are, inr (before, ends)) =
    rw (all, ends, any_last before Sgr.Reset)
    (open_on t (before ++ Sgr.Reset ∷ []) since ∙ ap (λ (b : Bool). is_open b since) (open_on t before (Sgr.Reset ∷ [])) ∙ placed_open false since are)

-- ---- the places of styles, one after the other

pub record Placed (styles : List Sgr) (told text : List ℕ) : Type 0 where
  pub style : Sgr
  pub later : List Sgr
  pub all : styles ≡ style ∷ later
  pub has_place : HasPlace style
  pub place : get_or told 0 0 ≡ attribute style
  pub own : take (get_or told 1 0) text ≡ style_texts (style ∷ [])
  pub few : get_or told 1 0 ≤ 32
  pub within : get_or told 1 0 ≤ length text
  pub others : ArePlaced later (drop 2 told) (drop (get_or told 1 0) text)

pub placed_first : (styles : List Sgr) (told text : List ℕ) → ArePlaced styles told text → 1 < length told → Placed styles told text
placed_first [] told text (are, e, (more, f)) some = absurd (omega (arith, some, ap length e))
placed_first (s ∷ later) told text (are, e, (more, f)) some =
    let own = style_texts (s ∷ []) in
    let len : get_or told 1 0 ≡ length own = ap (λ (l : List ℕ). get_or l 1 0) e in
    let split : text ≡ own ++ (style_texts later ++ more) =
    f ∙ ap (λ (t : List ℕ). t ++ more) (style_texts_on (s ∷ []) later) ∙ append_assoc own (style_texts later) more in
    record {
      style = s;
      later = later;
      all = refl;
      has_place = are.0;
      place = ap (λ (l : List ℕ). get_or l 0 0) e;
      own = ap (λ (n : ℕ). take n text) len ∙ ap (take (length own)) split ∙ take-append_seam own (style_texts later ++ more);
      few = omega (arith, len, are.0.1);
      within = omega (arith, len, ap length split, length-append own (style_texts later ++ more));
      others = (are.1, ap (drop 2) e, (more, ap (λ (n : ℕ). drop n text) len ∙ ap (drop (length own)) split ∙ drop-append_seam own (style_texts later ++ more)));
    }

pub attribute_few : (s : Sgr) → is_reset s ≡ false → attribute s < 13
attribute_few Sgr.Reset h = absurd cc
attribute_few s h = omega arith

-- the first of them comes
pub set_first : (styles base : List Sgr) (told text : List ℕ) (old new : List (List ℕ)) (len : ℕ) (p : Placed styles told text) → old ≡ settled_texts base
    → new ≡ slice_set old (get_or told 0 0) (take len text) → len ≡ get_or told 1 0 → new ≡ settled_texts (base ++ p.style ∷ [])
set_first styles base told text old new len p begins set size =
    set ∙ ap (λ (x : List (List ℕ)). slice_set x (get_or told 0 0) (take len text)) begins
    ∙ ap (λ (n : ℕ). slice_set (settled_texts base) n (take len text)) p.place
    ∙ ap (λ (t : List ℕ). slice_set (settled_texts base) (attribute p.style) t) (ap (λ (n : ℕ). take n text) size ∙ p.own) ∙ texts_set base p.style p.has_place.0

pub none_placed : (styles : List Sgr) (told text : List ℕ) → ArePlaced styles told text → length told ≤ 1 → styles ≡ []
none_placed [] told text h few = refl
none_placed (s ∷ later) told text (are, e, more) few = absurd (omega (arith, few, ap length e))

-- ---- what a note says

pub attribute_most : (s : Sgr) → attribute s ≤ 13
attribute_most Sgr.Reset = omega arith
attribute_most s = omega arith

pub note_mixed : (d : Depth) (front since : List Sgr) → code_of front since ≡ 15
    → note_of d front since ≡ depth_byte d ∷ 15 ∷ length (style_texts front) ∷ length since ∷ (style_texts (front ++ since) ++ places since)
note_mixed d front since h = rw h refl

pub note_plain : (d : Depth) (front since : List Sgr) → code_of front since < 15 → note_of d front since ≡ depth_byte d ∷ code_of front since ∷ style_texts (front ++ since)
note_plain d front since h = rw (not_mixed (code_of front since) h) refl
  where
    not_mixed : (n : ℕ) → n < 15 → (n == 15) ≡ false
    not_mixed n few = elim (cases_Bool (n == 15)) [
      | inl is ↦ absurd (omega (arith, few, eqb-true n 15 is))
      | inr other ↦ other
    ]

-- its second byte
pub code_first : (d : Depth) (front since : List Sgr) → get_or (note_of d front since) 1 0 ≡ code_of front since
code_first d front since = elim (cases_Bool (code_of front since == 15)) [
  | inl is ↦ ap (λ (l : List ℕ). get_or l 1 0) (note_mixed d front since (eqb-true (code_of front since) 15 is)) ∙ sym (eqb-true (code_of front since) 15 is)
  | inr other ↦ rw other refl
]

pub depth_first : (d : Depth) (front since : List Sgr) → get_or (note_of d front since) 0 0 ≡ depth_byte d
depth_first d front since = elim (cases_Bool (code_of front since == 15)) [
  | inl is ↦ rw is refl
  | inr other ↦ rw other refl
]

pub told_code : (note : List ℕ) (d : Depth) (front since : List Sgr) → note ≡ note_of d front since → get_or note 1 0 ≡ code_of front since
told_code note d front since is = ap (λ (l : List ℕ). get_or l 1 0) is ∙ code_first d front since

pub record One (front since : List Sgr) : Type 0 where
  pub style : Sgr
  pub code : code_of front since ≡ attribute style
  pub one : since ≡ style ∷ []
  pub both : front ++ since ≡ style ∷ []

one_coded : (front since : List Sgr) → code_of front since < 13 → One front since
one_coded [] [] h = absurd (omega (arith, h))
one_coded (f ∷ front) [] h = absurd (omega (arith, h))
one_coded [] (s ∷ []) h = record { style = s; code = refl; one = refl; both = refl }
one_coded [] (s ∷ t ∷ since) h = absurd (omega (arith, h))
one_coded (f ∷ front) (s ∷ since) h = absurd (omega (arith, h))

reset_coded : (front since : List Sgr) → AllByRecursion HasPlace since → code_of front since ≡ 13 → (since ≡ []) × (has_any front ≡ true)
reset_coded [] [] are h = absurd (omega (arith, h))
reset_coded (f ∷ front) [] are h = (refl, refl)
reset_coded [] (s ∷ []) are h = absurd (omega (arith, h, attribute_few s are.0.0))
reset_coded [] (s ∷ t ∷ since) are h = absurd (omega (arith, h))
reset_coded (f ∷ front) (s ∷ since) are h = absurd (omega (arith, h))

none_coded : (front since : List Sgr) → code_of front since ≡ 14 → (front ≡ []) × (since ≡ [])
none_coded [] [] h = (refl, refl)
none_coded (f ∷ front) [] h = absurd (omega (arith, h))
none_coded [] (s ∷ []) h = absurd (omega (arith, h, attribute_most s))
none_coded [] (s ∷ t ∷ since) h = absurd (omega (arith, h))
none_coded (f ∷ front) (s ∷ since) h = absurd (omega (arith, h))

mixed_coded : (front since : List Sgr) → code_of front since ≡ 15 → has_any since ≡ true
mixed_coded [] [] h = absurd (omega (arith, h))
mixed_coded (f ∷ front) [] h = absurd (omega (arith, h))
mixed_coded front (s ∷ since) h = refl

pub code_most : (front since : List Sgr) → code_of front since ≤ 15
code_most [] [] = omega arith
code_most (f ∷ front) [] = omega arith
code_most [] (s ∷ []) = omega (arith, attribute_most s)
code_most [] (s ∷ t ∷ since) = omega arith
code_most (f ∷ front) (s ∷ since) = omega arith

-- how text is rendered behind the styles of a note
behind_split : (p : Passing) (r : Rendition) (styles front since : List Sgr) → IsSplit styles front since
    → spelled (behind_styles p r styles) ≡ spelling (if has_any since then true else if has_any front then false else r.styled)
    (settled_texts (if p.restores then (if has_any front then [] else r.since) ++ since else r.since)) (settled_texts r.saved)
behind_split p r styles front since split =
    ap (λ (b : Bool). spelling b (settled_texts (if p.restores then since_behind r.since styles else r.since)) (settled_texts r.saved)) (split_open r.styled styles front since split)
    ∙ ap (λ (x : List Sgr). spelling (if has_any since then true else if has_any front then false else r.styled) (settled_texts (if p.restores then x else r.since)) (settled_texts r.saved))
    (split_since r.since styles front since split)

-- where no styles are kept
unkept : (p : Passing) (styled : Bool) (r : Rendition) (styles front since : List Sgr) (before : Spelled) → p.restores ≡ false → before ≡ spelled r
    → IsSplit styles front since → (if has_any since then true else if has_any front then false else r.styled) ≡ styled
    → spelling styled before.since before.saved ≡ spelled (behind_styles p r styles)
unkept p styled r styles front since before restores begins split is =
    ap (λ (x : Spelled). spelling styled x.since x.saved) begins
    ∙ ap (λ (b : Bool). spelling b (settled_texts r.since) (settled_texts r.saved)) (sym is)
    ∙ ap (λ (x : List Sgr). spelling (if has_any since then true else if has_any front then false else r.styled) (settled_texts x) (settled_texts r.saved))
    (sym (ap (λ (b : Bool). if b then (if has_any front then [] else r.since) ++ since else r.since) restores))
    ∙ sym (behind_split p r styles front since split)

-- a note of one style
pub taken_one : (p : Passing) (note text : List ℕ) (before : Spelled) → p.restores ≡ true → get_or note 1 0 < 13 → text ≡ drop 2 note
    → IsTaken p note before (spelling true (slice_set before.since (get_or note 1 0) text) before.saved)
taken_one p note text before restores few is = λ of front since styles noted split r begins.
    let code = told_code note of front since noted in
    let o = one_coded front since (omega (arith, few, code)) in
    let place : get_or note 1 0 ≡ attribute o.style = code ∙ o.code in
    let own : text ≡ style_texts (o.style ∷ []) = is ∙ ap (drop 2) (noted ∙ note_plain of front since (omega (arith, few, code))) ∙ ap style_texts o.both in
    let sets = (subst (AllByRecursion HasPlace) o.one split.1).0.0 in
    ap (λ (n : ℕ). spelling true (slice_set before.since n text) before.saved) place
    ∙ ap (λ (t : List ℕ). spelling true (slice_set before.since (attribute o.style) t) before.saved) own ∙ one_set p r o.style before begins restores sets
    ∙ ap (λ (x : List Sgr). spelled (behind_styles p r x)) (sym (split.0 ∙ o.both))

one_open : (t : Bool) (front since : List Sgr) (s : Sgr) → since ≡ s ∷ [] → (if has_any since then true else if has_any front then false else t) ≡ true
one_open t front since s is = rw is refl

pub taken_one_open : (p : Passing) (note : List ℕ) (before : Spelled) → p.restores ≡ false → get_or note 1 0 < 13 → IsTaken p note before (spelling true before.since before.saved)
taken_one_open p note before restores few = λ of front since styles noted split r begins.
    let o = one_coded front since (omega (arith, few, told_code note of front since noted)) in
    unkept p true r styles front since before restores begins split (one_open r.styled front since o.style o.one)

-- a note of resets alone
reset_shut : (restores : Bool) (r : Rendition) (front since : List Sgr) → restores ≡ true → since ≡ [] → has_any front ≡ true
    → spelling false (settled_texts []) (settled_texts r.saved)
    ≡ spelling (if has_any since then true else if has_any front then false else r.styled)
    (settled_texts (if restores then (if has_any front then [] else r.since) ++ since else r.since)) (settled_texts r.saved)
reset_shut restores r front since h none some = rw (h, none, some) refl

reset_open : (t : Bool) (front since : List Sgr) → since ≡ [] → has_any front ≡ true → (if has_any since then true else if has_any front then false else t) ≡ false
reset_open t front since none some = rw (none, some) refl

pub taken_reset : (p : Passing) (note : List ℕ) (before : Spelled) → p.restores ≡ true → get_or note 1 0 ≡ 13
    → IsTaken p note before (spelling false (replicate 13 []) before.saved)
taken_reset p note before restores is = λ of front since styles noted split r begins.
    let (none, some) = reset_coded front since split.1 (sym (told_code note of front since noted) ∙ is) in
    let same : spelling false (settled_texts []) (settled_texts r.saved)
    ≡ spelling (if has_any since then true else if has_any front then false else r.styled)
    (settled_texts (if p.restores then (if has_any front then [] else r.since) ++ since else r.since)) (settled_texts r.saved) = rw (restores, none, some) refl in
    ap (λ (x : Spelled). spelling false (replicate 13 []) x.saved) begins ∙ same ∙ sym (behind_split p r styles front since split)

pub taken_reset_open : (p : Passing) (note : List ℕ) (before : Spelled) → p.restores ≡ false → get_or note 1 0 ≡ 13
    → IsTaken p note before (spelling false before.since before.saved)
taken_reset_open p note before restores is = λ of front since styles noted split r begins.
    let (none, some) = reset_coded front since split.1 (sym (told_code note of front since noted) ∙ is) in
    unkept p false r styles front since before restores begins split (reset_open r.styled front since none some)

-- a note of no styles
pub taken_none : (p : Passing) (note : List ℕ) (before : Spelled) → get_or note 1 0 ≡ 14 → IsTaken p note before before
taken_none p note before is = λ of front since styles noted split r begins.
    let (none, empty) = none_coded front since (sym (told_code note of front since noted) ∙ is) in
    let all : [] ≡ styles = sym (split.0 ∙ ap (λ (l : List Sgr). l ++ since) none ∙ empty) in
    begins ∙ ap spelled (behind_none p r ∙ ap (behind_styles p r) all)

-- and of several
pub taken_mixed_open : (p : Passing) (note : List ℕ) (before : Spelled) → p.restores ≡ false → get_or note 1 0 ≡ 15
    → IsTaken p note before (spelling true before.since before.saved)
taken_mixed_open p note before restores is = λ of front since styles noted split r begins.
    let some = mixed_coded front since (sym (told_code note of front since noted) ∙ is) in
    unkept p true r styles front since before restores begins split (ap (λ (b : Bool). if b then true else if has_any front then false else r.styled) some)

places_long : (styles : List Sgr) → length (places styles) ≡ length styles * 2
places_long [] = refl
places_long (s ∷ styles) = omega (arith, places_long styles)

some_less : (n : ℕ) → 0 < n → nat_lt 0 n ≡ true
some_less n h = grind (arith, nat_tests)

any_front : (styles front since : List Sgr) → IsSplit styles front since → nat_lt 0 (length (style_texts front)) ≡ has_any front
any_front styles front since (all, are, inl none) = rw none refl
any_front styles front since (all, are, inr (before, ends)) =
    let long : 0 < length (style_texts (before ++ Sgr.Reset ∷ [])) =
    omega (arith, ap length (style_texts_on before (Sgr.Reset ∷ [])), length-append (style_texts before) (style_texts (Sgr.Reset ∷ []))) in
    rw (ends, any_last before Sgr.Reset) (some_less (length (style_texts (before ++ Sgr.Reset ∷ []))) long)

cleared_is : (b : Bool) (since : List Sgr) → (if b then replicate 13 [] else settled_texts since) ≡ settled_texts (if b then [] else since)
cleared_is true since = refl
cleared_is false since = refl

mixed_open : (restores : Bool) (r : Rendition) (base front since : List Sgr) → restores ≡ true → has_any since ≡ true
    → spelling true (settled_texts (base ++ since)) (settled_texts r.saved)
    ≡ spelling (if has_any since then true else if has_any front then false else r.styled) (settled_texts (if restores then base ++ since else r.since)) (settled_texts r.saved)
mixed_open restores r base front since h some = rw (h, some) refl

-- the places of a note of several, and its text
pub note_placed : (note wide more told text : List ℕ) (d : Depth) (styles front since : List Sgr) → IsSplit styles front since → note ≡ note_of d front since
    → code_of front since ≡ 15 → wide ≡ note ++ more → told ≡ drop (length note - 2 * get_or note 3 0) note → text ≡ drop (4 + get_or note 2 0) wide → ArePlaced since told text
note_placed note wide more told text d styles front since split noted code w told_is text_is =
    let is = noted ∙ note_mixed d front since code in
    let behind : get_or note 2 0 ≡ length (style_texts front) = ap (λ (l : List ℕ). get_or l 2 0) is in
    let count : get_or note 3 0 ≡ length since = ap (λ (l : List ℕ). get_or l 3 0) is in
    let head = depth_byte d ∷ 15 ∷ length (style_texts front) ∷ length since ∷ style_texts (front ++ since) in
    let other = depth_byte d ∷ 15 ∷ length (style_texts front) ∷ length since ∷ style_texts front in
    let whole : note ≡ head ++ places since = is in
    let split_text : wide ≡ other ++ (style_texts since ++ (places since ++ more)) =
    w ∙ ap (λ (l : List ℕ). l ++ more) is
    ∙ ap (λ (l : List ℕ). depth_byte d ∷ 15 ∷ length (style_texts front) ∷ length since ∷ ((l ++ places since) ++ more)) (style_texts_on front since)
    ∙ ap (λ (l : List ℕ). depth_byte d ∷ 15 ∷ length (style_texts front) ∷ length since ∷ l)
    (append_assoc (style_texts front ++ style_texts since) (places since) more ∙ append_assoc (style_texts front) (style_texts since) (places since ++ more)) in
    let at_places : length note - 2 * get_or note 3 0 ≡ length head = omega (arith, count, ap length whole, length-append head (places since), places_long since) in
    let at_text : 4 + get_or note 2 0 ≡ length other = omega (arith, behind) in (
      split.1,
      told_is ∙ ap (λ (n : ℕ). drop n note) at_places ∙ ap (drop (length head)) whole ∙ drop-append_seam head (places since),
      (places since ++ more, text_is ∙ ap (λ (n : ℕ). drop n wide) at_text ∙ ap (drop (length other)) split_text ∙ drop-append_seam other (style_texts since ++ (places since ++ more))),
    )

pub taken_mixed : (p : Passing) (note wide more told text : List ℕ) (before : Spelled) (cleared new : List (List ℕ)) → p.restores ≡ true → get_or note 1 0 ≡ 15
    → wide ≡ note ++ more → told ≡ drop (length note - 2 * get_or note 3 0) note → text ≡ drop (4 + get_or note 2 0) wide
    → cleared ≡ (if nat_lt 0 (get_or note 2 0) then replicate 13 [] else before.since)
    → ((styles base : List Sgr) → ArePlaced styles told text → cleared ≡ settled_texts base → new ≡ settled_texts (base ++ styles))
    → IsTaken p note before (spelling true new before.saved)
taken_mixed p note wide more told text before cleared new restores is w told_is text_is cleared_by set = λ of front since styles noted split r begins.
    let code : code_of front since ≡ 15 = sym (told_code note of front since noted) ∙ is in
    let placed = note_placed note wide more told text of styles front since split noted code w told_is text_is in
    let base = if has_any front then [] else r.since in
    let behind : get_or note 2 0 ≡ length (style_texts front) = ap (λ (l : List ℕ). get_or l 2 0) (noted ∙ note_mixed of front since code) in
    let from : cleared ≡ settled_texts base =
    cleared_by ∙ ap (λ (n : ℕ). if nat_lt 0 n then replicate 13 [] else before.since) behind
    ∙ ap (λ (b : Bool). if b then replicate 13 [] else before.since) (any_front styles front since split)
    ∙ ap (λ (x : Spelled). if has_any front then replicate 13 [] else x.since) begins ∙ cleared_is (has_any front) r.since in
    let same : spelling true (settled_texts (base ++ since)) (settled_texts r.saved)
    ≡ spelling (if has_any since then true else if has_any front then false else r.styled)
    (settled_texts (if p.restores then base ++ since else r.since)) (settled_texts r.saved) = rw (restores, mixed_coded front since code) refl in
    ap (λ (x : Spelled). spelling true new x.saved) begins
    ∙ ap (λ (x : List (List ℕ)). spelling true x (settled_texts r.saved)) (set since base placed from) ∙ same ∙ sym (behind_split p r styles front since split)

-- the text of a note of one style, with which others begin
pub wide_text : (note wide more : List ℕ) → wide ≡ note ++ more → 2 ≤ length note → take (length note - 2) (drop 2 wide) ≡ drop 2 note
wide_text note wide more w long =
    ap (λ (l : List ℕ). take (length note - 2) (drop 2 l)) w ∙ ap (take (length note - 2)) (drop-append-le 2 note more long)
    ∙ ap (λ (n : ℕ). take n (drop 2 note ++ more)) (sym (length-drop 2 note)) ∙ take-append_seam (drop 2 note) more

-- where its text stands
pub text_plain : (note : List ℕ) → get_or note 1 0 < 15 → HasText note 2 (length note - 2)
text_plain note few = λ of front since noted.
    let is = noted ∙ note_plain of front since (omega (arith, few, told_code note of front since noted)) in
    let text = style_texts (front ++ since) in
    let size : length note - 2 ≡ length text = omega (arith, ap length is) in
    ap (λ (n : ℕ). take n (drop 2 note)) size ∙ ap (λ (l : List ℕ). take (length text) (drop 2 l)) is ∙ take-length text

pub text_mixed : (note : List ℕ) → get_or note 1 0 ≡ 15 → HasText note 4 (length note - (4 + 2 * get_or note 3 0))
text_mixed note is = λ of front since noted.
    let whole = noted ∙ note_mixed of front since (sym (told_code note of front since noted) ∙ is) in
    let text = style_texts (front ++ since) in
    let count : get_or note 3 0 ≡ length since = ap (λ (l : List ℕ). get_or l 3 0) whole in
    let size : length note - (4 + 2 * get_or note 3 0) ≡ length text = omega (arith, count, ap length whole, length-append text (places since), places_long since) in
    ap (λ (n : ℕ). take n (drop 4 note)) size ∙ ap (λ (l : List ℕ). take (length text) (drop 4 l)) whole ∙ take-append_seam text (places since)

-- a note has two bytes at least, and of several four and their places
pub note_long : (note : List ℕ) (d : Depth) (front since : List Sgr) → note ≡ note_of d front since → 2 ≤ length note
note_long note d front since noted = elim (cases_Bool (code_of front since == 15)) [
  | inl is ↦ omega (arith, ap length (noted ∙ note_mixed d front since (eqb-true (code_of front since) 15 is)))
  | inr other ↦ let plain : note ≡ depth_byte d ∷ code_of front since ∷ style_texts (front ++ since) = noted ∙ rw other refl in omega (arith, ap length plain)
]

pub mixed_long : (note : List ℕ) (d : Depth) (front since : List Sgr) → note ≡ note_of d front since → get_or note 1 0 ≡ 15
    → (4 + 2 * get_or note 3 0 ≤ length note) × (4 + get_or note 2 0 ≤ length note)
mixed_long note d front since noted is =
    let whole = noted ∙ note_mixed d front since (sym (told_code note d front since noted) ∙ is) in
    let count : get_or note 3 0 ≡ length since = ap (λ (l : List ℕ). get_or l 3 0) whole in
    let behind : get_or note 2 0 ≡ length (style_texts front) = ap (λ (l : List ℕ). get_or l 2 0) whole in
    let size = length-append (style_texts (front ++ since)) (places since) in (
      omega (arith, count, ap length whole, size, places_long since),
      omega (arith, behind, ap length whole, size, ap length (style_texts_on front since), length-append (style_texts front) (style_texts since)),
    )

-- ---- the places of styles as they come

reset_is : (s : Sgr) → is_reset s ≡ true → s ≡ Sgr.Reset
reset_is Sgr.Reset h = refl
reset_is s h = absurd cc

texts_few : (styles : List Sgr) (s : Sgr) → length (style_texts styles) ≤ 32 * length styles → length (style_texts (s ∷ [])) ≤ 32
    → length (style_texts (styles ++ s ∷ [])) ≤ 32 * length (styles ++ s ∷ [])
texts_few styles s few short =
    omega (arith, few, short, ap length (style_texts_on styles (s ∷ [])), length-append (style_texts styles) (style_texts (s ∷ [])), length-append styles (s ∷ []))

pub places_start : HasPlaces [] 0 []
places_start = ([], [], (refl, tt, inl refl), refl, refl, omega arith)

pub places_one : (styles : List Sgr) (s : Sgr) (behind : ℕ) (told : List ℕ) → is_reset s ≡ false → length (style_texts (s ∷ [])) ≤ 32 → HasPlaces styles behind told
    → HasPlaces (styles ++ s ∷ []) behind (told ++ attribute s ∷ length (style_texts (s ∷ [])) ∷ [])
places_one styles s behind told sets short (front, since, (all, are, ends), stands, is, few) = (
  front,
  since ++ s ∷ [],
  (ap (λ (l : List Sgr). l ++ s ∷ []) all ∙ append_assoc front since (s ∷ []), all_both HasPlace since (s ∷ []) are ((sets, short), tt), ends),
  stands,
  ap (λ (l : List ℕ). l ++ place_of s) is ∙ sym (simp (flat_map-append)),
  texts_few styles s few short,
)

pub places_reset : (styles : List Sgr) (s : Sgr) (behind now : ℕ) (told : List ℕ) → is_reset s ≡ true → length (style_texts (s ∷ [])) ≤ 32 → HasPlaces styles behind told
    → now ≡ length (style_texts styles) + length (style_texts (s ∷ [])) → HasPlaces (styles ++ s ∷ []) now []
places_reset styles s behind now told sets short (front, since, split, stands, is, few) size = (
  styles ++ s ∷ [],
  [],
  (sym (append-nil (styles ++ s ∷ [])), tt, inr (styles, ap (λ (x : Sgr). styles ++ x ∷ []) (reset_is s sets))),
  omega (arith, size, ap length (style_texts_on styles (s ∷ [])), length-append (style_texts styles) (style_texts (s ∷ []))),
  refl,
  texts_few styles s few short,
)

front_none : (styles front since : List Sgr) → IsSplit styles front since → length (style_texts front) ≡ 0 → front ≡ []
front_none styles [] since split h = refl
front_none styles (f ∷ front) since split h = absurd (grind (any_front styles (f ∷ front) since split, h, arith, nat_tests))

pub code_none : (styles front since : List Sgr) (told : List ℕ) → IsSplit styles front since → told ≡ places since → length told ≡ 0 → length (style_texts front) ≡ 0 → code_of front since ≡ 14
code_none styles front [] told split is none empty = rw (front_none styles front [] split empty) refl
code_none styles front (s ∷ since) told split is none empty = absurd (omega (arith, none, ap length is))

pub code_reset : (styles front since : List Sgr) (told : List ℕ) → IsSplit styles front since → told ≡ places since → length told ≡ 0 → 0 < length (style_texts front) → code_of front since ≡ 13
code_reset styles [] [] told split is none some = absurd (omega (arith, some))
code_reset styles (f ∷ front) [] told split is none some = refl
code_reset styles front (s ∷ since) told split is none some = absurd (omega (arith, none, ap length is))

pub code_one : (styles front since : List Sgr) (told : List ℕ) → IsSplit styles front since → told ≡ places since → length told ≡ 2 → length (style_texts front) ≡ 0
    → get_or told 0 0 ≡ code_of front since
code_one styles front [] told split is two empty = absurd (omega (arith, two, ap length is))
code_one styles front (s ∷ []) told split is two empty = ap (λ (l : List ℕ). get_or l 0 0) is ∙ rw (front_none styles front (s ∷ []) split empty) refl
code_one styles front (s ∷ t ∷ since) told split is two empty = absurd (omega (arith, two, ap length is))

pub code_several : (styles front since : List Sgr) (told : List ℕ) → IsSplit styles front since → told ≡ places since → 0 < length told
    → (length (style_texts front) ≡ 0 → length told ≡ 2 → ⊥) → code_of front since ≡ 15
code_several styles front [] told split is some other = absurd (omega (arith, some, ap length is))
code_several styles [] (s ∷ []) told split is some other = absurd (other refl (ap length is))
code_several styles (f ∷ front) (s ∷ since) told split is some other = refl
code_several styles [] (s ∷ t ∷ since) told split is some other = refl

stays_few : (d : Depth) (e : Option Effect) → length (stays d e) ≤ 1
stays_few d None = omega arith
stays_few d (Some (Effect.Sets s)) = cond_both (hides s) [] (reduced d s ∷ []) (λ (l : List Sgr). length l ≤ 1) (λ _. omega arith) (λ _. omega arith)
stays_few d (Some Effect.Clears) = omega arith
stays_few d (Some Effect.Saves) = omega arith
stays_few d (Some Effect.Restores) = omega arith

-- of few actions few styles stay
pub kept_few : (d : Depth) (actions : List Action) → length (kept d actions) ≤ length actions
kept_few d [] = omega arith
kept_few d (a ∷ actions) = omega (arith, length-append (stays d (effect_of a)) (kept d actions), stays_few d (effect_of a), kept_few d actions)

pub kept_on : (d : Depth) (done : List Action) (a : Action) → kept d (done ++ a ∷ []) ≡ kept d done ++ stays d (effect_of a)
kept_on d [] a = append-nil (stays d (effect_of a))
kept_on d (b ∷ done) a = ap (λ (l : List Sgr). stays d (effect_of b) ++ l) (kept_on d done a) ∙ sym (append_assoc (stays d (effect_of b)) (kept d done) (stays d (effect_of a)))

-- so the numbers of a note fit its bytes
pub places_fit : (styles : List Sgr) (behind : ℕ) (told : List ℕ) → HasPlaces styles behind told → length styles ≤ 7 → (behind ≤ 255) × (length told ≤ 510)
places_fit styles behind told (front, since, (all, are, ends), stands, is, few) short =
    let text = ap length (ap style_texts all ∙ style_texts_on front since) in
    let count = ap length all in (
      omega (arith, stands, few, short, text, length-append (style_texts front) (style_texts since)),
      omega (arith, ap length is, places_long since, short, count, length-append front since),
    )

-- ---- the actions of a sequence, one behind the other

pub styles_on : (p : Passing) (r : Rendition) (xs ys : List Action) → styles_in p r (xs ++ ys) ≡ styles_in p r xs ++ styles_in p (rendition_in p r xs) ys
styles_on p r [] ys = refl
styles_on p r (a ∷ xs) ys =
    let next = rendition_by p r (effect_of a) in
    ap (λ (l : List Sgr). styles_by p r (effect_of a) ++ l) (styles_on p next xs ys)
    ∙ sym (append_assoc (styles_by p r (effect_of a)) (styles_in p next xs) (styles_in p (rendition_in p next xs) ys))

pub rendition_on : (p : Passing) (r : Rendition) (xs ys : List Action) → rendition_in p r (xs ++ ys) ≡ rendition_in p (rendition_in p r xs) ys
rendition_on p r [] ys = refl
rendition_on p r (a ∷ xs) ys = rendition_on p (rendition_by p r (effect_of a)) xs ys

-- ---- the texts of the slots, one behind the other

pub fronts_at : (ns : List ℕ) (ts : List (List ℕ)) (at : ℕ) (d : List ℕ) → length ns ≡ length ts → at < length ns
    → get_or (fronts ns ts) at [] ≡ take (get_or ns at 0) (get_or ts at d)
fronts_at [] ts at d same h = absurd (omega (arith, h))
fronts_at (n ∷ ns) [] at d same h = absurd (omega (arith, same))
fronts_at (n ∷ ns) (t ∷ ts) zero d same h = refl
fronts_at (n ∷ ns) (t ∷ ts) (suc at) d same h = fronts_at ns ts at d (omega (arith, same)) (omega (arith, h))

pub next_text : (xs : List (List ℕ)) (at : ℕ) → at < length xs → concat (take (at + 1) xs) ≡ concat (take at xs) ++ get_or xs at []
next_text xs at h = let more : at + 1 ≡ suc at = omega arith in ap (λ (n : ℕ). concat (take n xs)) more ∙ next xs at h
  where
    next : (xs : List (List ℕ)) (at : ℕ) → at < length xs → concat (take (suc at) xs) ≡ concat (take at xs) ++ get_or xs at []
    next [] at h = absurd (omega (arith, h))
    next (x ∷ xs) zero h = append-nil x
    next (x ∷ xs) (suc at) h = ap (λ (l : List ℕ). x ++ l) (next xs at (omega (arith, h))) ∙ sym (append_assoc x (concat (take at xs)) (get_or xs at []))

pub fronts_long : (ns : List ℕ) (ts : List (List ℕ)) → length ns ≡ length ts → length (fronts ns ts) ≡ length ns
fronts_long [] ts same = refl
fronts_long (n ∷ ns) [] same = absurd (omega (arith, same))
fronts_long (n ∷ ns) (t ∷ ts) same = omega (arith, fronts_long ns ts (omega (arith, same)))

pub lasting_more : (a : Action) (rest : List Action) → is_lasting (effect_of a) ≡ true → are_lasting rest ≡ true → are_lasting (a ∷ rest) ≡ true
lasting_more a rest h k = rw h k

-- ---- what brings back the styles that are saved

sets_few : (s : Sgr) (a : ℕ) → attribute s ≡ a → a < 13 → is_reset s ≡ false
sets_few Sgr.Reset a is few = absurd (omega (arith, is, few))
sets_few s a is few = refl

abbrev IsSet : Sgr → Type 0
IsSet s = is_reset s ≡ false

last_sets : (found : List Sgr) (a : ℕ) (xs : List Sgr) → a < 13 → AllByRecursion IsSet found → AllByRecursion IsSet (last_from found a xs)
last_sets found a [] few h = h
last_sets found a (x ∷ xs) few h =
    last_sets (if attribute x == a then x ∷ [] else found) a xs few
    (cond_both (attribute x == a) (x ∷ []) found (AllByRecursion IsSet) (λ same. (sets_few x a (eqb-true (attribute x) a same) few, tt)) (λ _. h))

abbrev IsFew : ℕ → Type 0
IsFew a = a < 13

settled_sets : (xs : List Sgr) (places : List ℕ) → AllByRecursion IsFew places → AllByRecursion IsSet (flat_map (last_of xs) places)
settled_sets xs [] h = tt
settled_sets xs (a ∷ places) h = all_both IsSet (last_of xs a) (flat_map (last_of xs) places) (last_sets [] a xs h.0 tt) (settled_sets xs places h.1)

few_attributes : AllByRecursion IsFew attributes
few_attributes =
    (omega arith, (omega arith, (omega arith, (omega arith, (omega arith, (omega arith, (omega arith, (omega arith, (omega arith, (omega arith, (omega arith, (omega arith, (omega arith, tt)))))))))))))

sets_open : (t : Bool) (xs : List Sgr) → AllByRecursion IsSet xs → is_open t xs ≡ (if has_any xs then true else t)
sets_open t [] h = refl
sets_open t (x ∷ []) h = ap not h.0
sets_open t (x ∷ y ∷ xs) h = sets_open (not (is_reset x)) (y ∷ xs) h.1

any_text : (xs : List Sgr) → (if has_any xs then true else false) ≡ nat_lt 0 (length (style_texts xs))
any_text [] = refl
any_text (x ∷ xs) = sym (some_less (length (style_texts (x ∷ xs))) (omega arith))

back_texts : (b : Bool) (r : Rendition)
    → style_texts (if b then [] else set_back r.styled ++ settled r.saved) ≡ (if b then [] else style_texts (set_back r.styled) ++ style_texts (settled r.saved))
back_texts true r = refl
back_texts false r = style_texts_on (set_back r.styled) (settled r.saved)

back_open : (b : Bool) (r : Rendition) → is_open r.styled (if b then [] else set_back r.styled ++ settled r.saved) ≡ (if b then r.styled else nat_lt 0 (length (style_texts (settled r.saved))))
back_open true r = refl
back_open false r =
    open_on r.styled (set_back r.styled) (settled r.saved) ∙ ap (λ (t : Bool). is_open t (settled r.saved)) (sym (back_shut r.styled))
    ∙ sets_open false (settled r.saved) (settled_sets r.saved attributes few_attributes) ∙ any_text (settled r.saved)

pub brought_texts : (r : Rendition) (b : Bool) → bytes_eq (style_texts (settled r.saved)) (style_texts (settled r.since)) ≡ b
    → style_texts (brought_back r) ≡ (if b then [] else style_texts (set_back r.styled) ++ style_texts (settled r.saved))
brought_texts r b h = ap (λ (c : Bool). style_texts (if c then [] else set_back r.styled ++ settled r.saved)) h ∙ back_texts b r

pub brought_open : (r : Rendition) (b : Bool) → bytes_eq (style_texts (settled r.saved)) (style_texts (settled r.since)) ≡ b
    → is_open r.styled (brought_back r) ≡ (if b then r.styled else nat_lt 0 (length (style_texts (settled r.saved))))
brought_open r b h = ap (λ (c : Bool). is_open r.styled (if c then [] else set_back r.styled ++ settled r.saved)) h ∙ back_open b r

pub stays_one : (d : Depth) (s t : Sgr) (e : Option Effect) → e ≡ Some (Effect.Sets s) → hides s ≡ false → t ≡ reduced d s → stays d e ≡ t ∷ []
stays_one d s t e is shown same = rw (is, shown, same) refl

pub half : (n : ℕ) (since : List Sgr) → n ≡ length (places since) → n / 2 ≡ length since
half n since is = omega (arith, is, places_long since)

-- the bytes that bring them back
pub brought : (r : Rendition) (styled : Bool) (saved since : List ℕ) → styled ≡ r.styled → saved ≡ concat (settled_texts r.saved) → since ≡ concat (settled_texts r.since)
    → ((if bytes_eq saved since then [] else style_texts (set_back styled) ++ saved) ≡ style_texts (brought_back r))
    × ((if bytes_eq saved since then styled else nat_lt 0 (length saved)) ≡ is_open r.styled (brought_back r))
brought r styled saved since e f g =
    let s : saved ≡ style_texts (settled r.saved) = f ∙ sym (settled_joined r.saved) in
    let t : since ≡ style_texts (settled r.since) = g ∙ sym (settled_joined r.since) in
    rw (e, s, t) (sym (brought_texts r _ refl), sym (brought_open r _ refl))

-- ---- what is appended

pub adds_none : (before : Spelled) (old : List ℕ) (styles : Rendition → List Sgr) (behind : Rendition → Rendition) → ((r : Rendition) → styles r ≡ [])
    → ((r : Rendition) → behind r ≡ r) → Adds before before old old styles behind
adds_none before old styles behind none same = ([], sym (append-nil old), λ r begins. (ap style_texts (sym (none r)), begins ∙ ap spelled (sym (same r))))

-- behind other actions one more
pub adds_on : (p : Passing) (done : List Action) (a : Action) (first mid last : Spelled) (old between new : List ℕ)
    → Adds first mid old between (λ r. styles_in p r done) (λ r. rendition_in p r done)
    → Adds mid last between new (λ r. styles_by p r (effect_of a)) (λ r. rendition_by p r (effect_of a))
    → Adds first last old new (λ r. styles_in p r (done ++ a ∷ [])) (λ r. rendition_in p r (done ++ a ∷ []))
adds_on p done a first mid last old between new (xs, e, f) (ys, g, h) = (
  xs ++ ys,
  g ∙ ap (λ (l : List ℕ). l ++ ys) e ∙ append_assoc old xs ys,
  λ r begins.
      let (x, m) = f r begins in
      let now = rendition_in p r done in
      let (y, n) = h now m in (
        ap (λ (l : List ℕ). l ++ ys) x ∙ ap (λ (l : List ℕ). style_texts (styles_in p r done) ++ l) y ∙ sym (style_texts_on (styles_in p r done) (styles_by p now (effect_of a)))
            ∙ ap style_texts (ap (λ (l : List Sgr). styles_in p r done ++ l) (sym (append-nil (styles_by p now (effect_of a)))) ∙ sym (styles_on p r done (a ∷ []))),
        n ∙ ap spelled (sym (rendition_on p r done (a ∷ []))),
      ),
)

-- a style that hides what follows
pub hidden : (p : Passing) (r : Rendition) (s : Sgr) → hides s ≡ true → (styles_by p r (Some (Effect.Sets s)) ≡ []) × (rendition_by p r (Some (Effect.Sets s)) ≡ r)
hidden p r s h = (
  ap (λ (b : Bool). if b then [] else reduced p.depth s ∷ []) h,
  ap (λ (b : Bool). behind_styles p r (if b then [] else reduced p.depth s ∷ [])) h ∙ sym (behind_none p r),
)

-- one more of two lists is the same
pub next_same : (xs ys : List (List ℕ)) (at : ℕ) → at < length xs → at < length ys → take at xs ≡ take at ys → get_or xs at [] ≡ get_or ys at [] → take (at + 1) xs ≡ take (at + 1) ys
next_same xs ys at h k same one = let more : at + 1 ≡ suc at = omega arith in rw more (next xs ys at h k same one)
  where
    next : (xs ys : List (List ℕ)) (at : ℕ) → at < length xs → at < length ys → take at xs ≡ take at ys → get_or xs at [] ≡ get_or ys at [] → take (suc at) xs ≡ take (suc at) ys
    next [] ys at h k same one = absurd (omega (arith, h))
    next (x ∷ xs) [] at h k same one = absurd (omega (arith, k))
    next (x ∷ xs) (y ∷ ys) zero h k same one = ap (λ (t : List ℕ). t ∷ []) one
    next (x ∷ xs) (y ∷ ys) (suc at) h k same one =
        let head : x ≡ y = cc in
        let others : take at xs ≡ take at ys = cc in
        cc (head, next xs ys at (omega (arith, h)) (omega (arith, k)) others one)

-- what is set already doesn't come back
pub brought_none : (r : Rendition) (before : Spelled) → before ≡ spelled r → before.saved ≡ before.since → ([] ≡ style_texts (brought_back r))
    × (before ≡ spelled (rendition (is_open r.styled (brought_back r)) r.saved r.saved))
brought_none r before begins same =
    let texts : settled_texts r.saved ≡ settled_texts r.since = sym (ap (λ (x : Spelled). x.saved) begins) ∙ same ∙ ap (λ (x : Spelled). x.since) begins in
    let joined : style_texts (settled r.saved) ≡ style_texts (settled r.since) = settled_joined r.saved ∙ ap concat texts ∙ sym (settled_joined r.since) in
    let equal : bytes_eq (style_texts (settled r.saved)) (style_texts (settled r.since)) ≡ true = (bytes_eq-Decides (style_texts (settled r.saved)) (style_texts (settled r.since))).1 joined in (
      sym (brought_texts r true equal),
      begins ∙ ap (λ (x : List (List ℕ)). spelling r.styled x (settled_texts r.saved)) (sym texts)
          ∙ ap (λ (b : Bool). spelling b (settled_texts r.saved) (settled_texts r.saved)) (sym (brought_open r true equal)),
    )
