-- The part in front of bytes that begin no control sequence, and the beginning of a character: where each goes on, and where it begins anew.
use Rattle.std.proofs.Common.{◌≡◌, ◌⊎◌, ℕ, ◌<◌, List, [], ◌∷◌, ◌++◌, Some, length, refl, ap, subst, ◌∙◌, inl, inr, arith, eqb-true, slice_get, ◌==◌, ◌&&◌, ◌||◌, Bool, true, false, not, sym, append-nil}
use Rattle.std.proofs.lemmas.Bool.{and_from, and_parts, both_ways, cases_Bool, not-true, or_cases, false_from_ne_true}
use Rattle.std.proofs.lemmas.Bool.Decides.{nat_tests}
use Rattle.csicodec_spans.specs.Table.{Answer, More, Anew, Sequence, Undecided, ModeRow, Spot, ahead, begin_with, every_mode, fits_front, fitting, holds_in, mode_table, openers, takes, within}
use Rattle.csicodec_spans.specs.{declared.table.Kind.Kind, declared.table.Mode.Mode, Parts.Part, Parts.Allows, Parts.IsFirstPart, Parts.IsMore}
use Rattle.csicodec_spans.proofs.{Agrees.in_every, Agrees.only_row, Agrees.sound, Agrees.IsFit, Agrees.IsPiece, Agrees.Sound, Agrees.is_str, Apart.said}
use Rattle.csicodec_spans.proofs.{Missed.fit}
use Rattle.csicodec_events.specs.{declared.event.Event.Event, Events.BeginsCsi, Events.begins, Events.IsHeld, Characters.is_unfinished, Characters.leads}

-- the event that a part of this kind is a piece of
abbrev pub event_of : Kind → Event
event_of Kind.Text = Event.Text
event_of Kind.Csi = Event.Other
event_of Kind.Esc = Event.Esc
event_of Kind.Str = Event.Str
event_of Kind.Other = Event.Other

-- such an event may come in any pieces
abbrev pub is_divided : Kind → Bool
is_divided Kind.Csi = false
is_divided Kind.Esc = false
is_divided _ = true

-- ---- what goes on, but for strings, begins with no ESC

abbrev no_esc : List Spot → Answer → Bool
no_esc [] f = false
no_esc (p ∷ spots) (More k n a) = is_str k || not (takes p 27)
no_esc (p ∷ spots) _ = true

abbrev all_free : List ModeRow → Bool
all_free [] = true
all_free (r ∷ rows) = no_esc r.spots r.answer && all_free rows

row_free : (rows : List ModeRow) (m : Mode) (bytes : List ℕ) (r : ModeRow)
    → all_free rows ≡ true → fitting rows m bytes ≡ r ∷ []
    → (no_esc r.spots r.answer ≡ true) × (fits_front m bytes r ≡ true)
row_free [] m bytes r all e = absurd cc
row_free (q ∷ rows) m bytes r all e =
    let g = and_parts (no_esc q.spots q.answer) (all_free rows) all in
    elim (cases_Bool (fits_front m bytes q)) [
      | inl here ↦
          let parts : q ∷ fitting rows m bytes ≡ r ∷ [] = rw here at e in
          let same : q ≡ r = cc in
          (subst (λ (x : ModeRow). no_esc x.spots x.answer ≡ true) same g.0, subst (λ (x : ModeRow). fits_front m bytes x ≡ true) same here)
      | inr other ↦ row_free rows m bytes r g.1 (rw other at e)
    ]

is_string : (k : Kind) → is_str k ≡ true → k ≡ Kind.Str
is_string k = elim k as (λ x. is_str x ≡ true → x ≡ Kind.Str) [ Kind.Str ↦ λ e. refl | _ ↦ λ e. cc ]

free_by : (f : Answer) (limit : ℕ) (spots : List Spot) (more text : List ℕ) (a : Mode) → no_esc spots f ≡ true
    → begin_with spots (27 ∷ more) ≡ true → IsMore f → Allows f limit (27 ∷ more) Kind.Other text a → ⊥
free_by f limit [] more text a e fits goes h = absurd cc
free_by (More k n b) limit (p ∷ spots) more text a e fits goes h = elim (or_cases (is_str k) (not (takes p 27)) e) [
  | inl str ↦ let is = is_string k str in let same = h.0 in absurd cc
  | inr none ↦ both_ways (takes p 27) (not-true (takes p 27) none) (and_parts (takes p 27) (begin_with spots more) fits).0
]
free_by _ limit (p ∷ spots) more text a e fits goes h = absurd goes

other_free : (limit : ℕ) (m a : Mode) (more text : List ℕ) → IsMore (ahead m (27 ∷ more))
    → Allows (ahead m (27 ∷ more)) limit (27 ∷ more) Kind.Other text a → ⊥
other_free limit m a more text goes h =
    let one = only_row m (27 ∷ more) in
    let r = row_free mode_table m (27 ∷ more) one.row refl one.fits in
    free_by one.row.answer limit one.row.spots more text a r.0 (and_parts (holds_in one.row.modes m) (begin_with one.row.spots (27 ∷ more)) r.1).1
    (subst IsMore one.answer goes) (subst (λ (f : Answer). Allows f limit (27 ∷ more) Kind.Other text a) one.answer h)

-- ---- where a string, or what went wrong, begins

new_by : (i : ℕ) (r : ModeRow) (m : Mode) (bytes : List ℕ) → slice_get mode_table i ≡ Some r
    → r.modes ≡ every_mode → begin_with r.spots bytes ≡ true → (IsMore r.answer → ⊥)
    → IsMore (ahead m bytes) → ⊥
new_by i r m bytes at modes fit none more =
    none (subst IsMore (said i r m bytes at (and_from (holds_in r.modes m) (begin_with r.spots bytes) (rw modes (in_every m)) fit)) more)

-- an opener behind ESC begins anew
opener_new : (m : Mode) (c : ℕ) (bytes : List ℕ) → within openers c ≡ true
    → IsMore (ahead m (27 ∷ c ∷ bytes)) → ⊥
opener_new m c bytes e more = elim (cases_Bool (c == 93)) [
  | inl osc ↦ new_by 12 _ m (27 ∷ c ∷ bytes) refl refl (grind (arith, nat_tests)) (λ none. none) more
  | inr f ↦ elim (cases_Bool (c == 80)) [
    | inl dcs ↦ new_by 13 _ m (27 ∷ c ∷ bytes) refl refl (grind (arith, nat_tests)) (λ none. none) more
    | inr g ↦ new_by 14 _ m (27 ∷ c ∷ bytes) refl refl (grind (arith, nat_tests)) (λ none. none) more
  ]
]

-- not where more of what is open stands
none_begun : (limit : ℕ) (m a : Mode) (k : Kind) (text rest : List ℕ) → is_divided k ≡ true → IsMore (ahead m (text ++ rest))
    → Allows (ahead m (text ++ rest)) limit (text ++ rest) k text a → begins (event_of k) text ≡ false
none_begun limit m a Kind.Csi text rest is more h = cc
none_begun limit m a Kind.Esc text rest is more h = refl
none_begun limit m a Kind.Text text rest is more h = refl
none_begun limit m a Kind.Str [] rest is more h = refl
none_begun limit m a Kind.Str (b ∷ []) rest is more h = refl
none_begun limit m a Kind.Str (b ∷ c ∷ text) rest is more h = elim (cases_Bool (b == 27 && within openers c)) [
  | inl opens ↦
      let p = and_parts (b == 27) (within openers c) opens in
      absurd (opener_new m c (text ++ rest) p.1 (subst (λ (x : ℕ). IsMore (ahead m (x ∷ c ∷ (text ++ rest)))) (eqb-true b 27 p.0) more))
  | inr other ↦ other
]
none_begun limit m a Kind.Other [] rest is more h = refl
none_begun limit m a Kind.Other (b ∷ text) rest is more h = elim (cases_Bool (b == 27)) [
  | inl esc ↦
      let e = eqb-true b 27 esc in
      absurd (other_free limit m a (text ++ rest) (b ∷ text) (subst (λ (x : ℕ). IsMore (ahead m (x ∷ (text ++ rest)))) e more)
      (subst (λ (x : ℕ). Allows (ahead m (x ∷ (text ++ rest))) limit (x ∷ (text ++ rest)) Kind.Other (b ∷ text) a) e h))
  | inr other ↦ other
]

one_begun : (b : ℕ) (more : List ℕ) → (b == 27) ≡ false → begins Event.Str (b ∷ more) ≡ false
one_begun b [] e = refl
one_begun b (c ∷ more) e = rw e refl

str_alike : (m : Mode) (text more : List ℕ) → IsPiece m text → begins Event.Str (text ++ more) ≡ begins Event.Str text
str_alike m text more (inl one) = rw one.1 (one_begun one.0 more one.2)
str_alike m text more (inr two) = rw two.1 refl

alike_begun : (m : Mode) (k : Kind) (text more : List ℕ) → 0 < length text → (k ≡ Kind.Str → IsPiece m text)
    → begins (event_of k) (text ++ more) ≡ begins (event_of k) text
alike_begun m k [] more some piece = absurd (omega arith)
alike_begun m Kind.Str (a ∷ text) more some piece = str_alike m (a ∷ text) more (piece refl)
alike_begun m _ (a ∷ text) more some piece = refl

-- ---- the part in front

part_some : (f : Answer) (limit : ℕ) (m a : Mode) (bytes text : List ℕ) (k : Kind) → (BeginsCsi bytes → ⊥) → Sound m bytes f
    → Allows f limit bytes k text a → 0 < length text
part_some (More j n b) limit m a bytes text k other s h = let some = s.0.some in omega (arith, some, h.1)
part_some (Anew j n b) limit m a bytes text k other s h = let some = s.0.some in omega (arith, some, h.1)
part_some Sequence limit m a bytes text k other s h = absurd (other s)
part_some Undecided limit m a bytes text k other s h = absurd h

pub record IsFront (m : Mode) (bytes : List ℕ) (p : Part) : Type 0 where
  pub same : (more : List ℕ)
      → begins (event_of p.kind) (p.bytes ++ more) ≡ begins (event_of p.kind) p.bytes
  pub goes : IsMore (ahead m bytes) → begins (event_of p.kind) p.bytes ≡ false

pub front : (limit : ℕ) (m a : Mode) (bytes rest : List ℕ) (p : Part) → is_divided p.kind ≡ true → (BeginsCsi bytes → ⊥)
    → IsFirstPart limit m bytes p rest a → IsFront m bytes p
front limit m a bytes rest p is other h =
    let piece : p.kind ≡ Kind.Str → IsPiece m p.bytes = λ str. subst (λ (k : Kind). IsFit m k p.bytes a) str (fit limit m bytes p.kind p.bytes rest a h) in
    record {
      same = λ more. alike_begun m p.kind p.bytes more (part_some (ahead m bytes) limit m a bytes p.bytes p.kind other (sound m bytes) h.1) piece;
      goes = λ more. none_begun limit m a p.kind p.bytes rest is (subst (λ (x : List ℕ). IsMore (ahead m x)) h.0 more)
          (subst (λ (x : List ℕ). Allows (ahead m x) limit x p.kind p.bytes a) h.0 h.1);
    }

-- no part stands in front of nothing, nor of an ESC alone
pub none_sure : (limit : ℕ) (m a : Mode) (bytes rest : List ℕ) (p : Part)
    → (bytes ≡ []) ⊎ (bytes ≡ 27 ∷ []) → IsFirstPart limit m bytes p rest a → ⊥
none_sure limit m a bytes rest p (inl none) h =
    subst (λ (f : Answer). Allows f limit bytes p.kind p.bytes a) (ap (ahead m) none ∙ said 23 _ m [] refl (and_from (holds_in every_mode m) true (in_every m) refl)) h.1
none_sure limit m a bytes rest p (inr esc) h =
    subst (λ (f : Answer). Allows f limit bytes p.kind p.bytes a) (ap (ahead m) esc ∙ said 24 _ m (27 ∷ []) refl (and_from (holds_in every_mode m) true (in_every m) refl)) h.1

-- ---- The beginning of a character: each front of it is one, and no other end of it.

pub unfinished_front : (x y : List ℕ) → 0 < length x → is_unfinished (x ++ y) ≡ true
    → is_unfinished x ≡ true
unfinished_front [] y some e = absurd (omega arith)
unfinished_front (a ∷ []) [] some e = e
unfinished_front (a ∷ []) (b ∷ []) some e = grind (arith, nat_tests)
unfinished_front (a ∷ []) (b ∷ c ∷ []) some e = grind (arith, nat_tests)
unfinished_front (a ∷ []) (b ∷ c ∷ d ∷ y) some e = absurd cc
unfinished_front (a ∷ b ∷ []) [] some e = e
unfinished_front (a ∷ b ∷ []) (c ∷ []) some e = grind (arith, nat_tests)
unfinished_front (a ∷ b ∷ []) (c ∷ d ∷ y) some e = absurd cc
unfinished_front (a ∷ b ∷ c ∷ []) [] some e = e
unfinished_front (a ∷ b ∷ c ∷ []) (d ∷ y) some e = absurd cc
unfinished_front (a ∷ b ∷ c ∷ d ∷ x) y some e = absurd cc

-- ---- the bytes behind the first

second : (a b : ℕ) → is_unfinished (a ∷ b ∷ []) ≡ true → (127 < b) × (b < 192)
second a b e = (grind (arith, nat_tests), grind (arith, nat_tests))

third : (a b c : ℕ) → is_unfinished (a ∷ b ∷ c ∷ []) ≡ true → (127 < c) × (c < 192)
third a b c e = (grind (arith, nat_tests), grind (arith, nat_tests))

leads_from : (a : ℕ) → leads a ≡ true → 193 < a
leads_from a e = grind (arith, nat_tests)

behind_first : (x y : List ℕ) (c : ℕ) → 0 < length x → is_unfinished (x ++ c ∷ y) ≡ true
    → (127 < c) × (c < 192)
behind_first [] y c some e = absurd (omega arith)
behind_first (a ∷ []) y c some e = second a c (unfinished_front (a ∷ c ∷ []) y (omega arith) e)
behind_first (a ∷ b ∷ []) y c some e = third a b c (unfinished_front (a ∷ b ∷ c ∷ []) y (omega arith) e)
behind_first (a ∷ b ∷ d ∷ []) y c some e = absurd cc
behind_first (a ∷ b ∷ d ∷ f ∷ x) y c some e = absurd cc

-- no ESC stands in it
without_esc : (x y : List ℕ) → is_unfinished (x ++ 27 ∷ y) ≡ true → ⊥
without_esc [] y e = let none : false ≡ true = unfinished_front (27 ∷ []) y (omega arith) e in cc
without_esc (a ∷ x) y e = let h = behind_first (a ∷ x) y 27 (omega arith) e in omega (arith, h.0)

-- no other end of it is one
one_end : (x y : List ℕ) → 0 < length x → is_unfinished (x ++ y) ≡ true → is_unfinished y ≡ true → ⊥
one_end x [] some e f = cc
one_end x (c ∷ y) some e f =
    let h = behind_first x y c some e in
    let lead = leads_from c (unfinished_front (c ∷ []) y (omega arith) f) in
    omega (arith, h.1, lead)

-- ---- text in front of what is held of it

-- no end of the text, with what is behind it, is the beginning of a character
pub text_sure : (text u v held behind : List ℕ) → IsHeld text held behind → text ≡ u ++ v
    → 0 < length v → ((c : ℕ) (more : List ℕ) → behind ≡ c ∷ more → c ≡ 27)
    → is_unfinished (v ++ (held ++ behind)) ≡ false
text_sure text u v held [] (inl h) split some esc = false_from_ne_true _ (λ e.
    one_end v held some (subst (λ (x : List ℕ). is_unfinished (v ++ x) ≡ true) (append-nil held) e) h)
text_sure text u v held [] (inr h) split some esc =
    subst (λ (x : List ℕ). is_unfinished x ≡ false) (sym (ap (λ (x : List ℕ). v ++ (x ++ [])) h.0 ∙ append-nil v)) (h.1 u v split)
text_sure text u v held (c ∷ behind) h split some esc = false_from_ne_true _ (λ e.
    let first = esc c behind refl in
    without_esc v behind (subst (λ (x : ℕ). is_unfinished (v ++ x ∷ behind) ≡ true) first (subst (λ (x : List ℕ). is_unfinished (v ++ (x ++ c ∷ behind)) ≡ true) h e)))
