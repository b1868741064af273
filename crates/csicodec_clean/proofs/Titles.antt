-- Titles, part by part and span by span.
use Rattle.std.proofs.Common.{◌≡◌, ◌⊎◌, ℕ, suc, Bool, true, false, List, [], ◌∷◌, ◌++◌, Some, length, refl, sym, ap, subst, ◌∙◌, inl, inr, arith, eqb-true, ◌==◌, slice_get, flat_map}
use Rattle.csicodec_clean.proofs.Common.{and_parts, AllByRecursion, Part, part, bytes_of, AreFirstParts, IsFirstPart, IsSpan, IsWhole, left_over, Kind, Mode, fit, singles, longest, title_behind, title_open, read_as, with_titles}
use Rattle.csicodec_spans.specs.Parts.{AreAll}
use Rattle.csicodec_clean.specs.Titles.{InTitle, IsText}

pub titles_on : (t : Bool) (ps qs : List Part) → with_titles t (ps ++ qs) ≡ with_titles t ps ++ with_titles (title_open t ps) qs
titles_on t [] qs = refl
titles_on t (p ∷ ps) qs = ap (λ (x : List Part). part (read_as p.kind t) p.bytes ∷ x) (titles_on (title_behind t p.kind p.bytes) ps qs)

pub open_on : (t : Bool) (ps qs : List Part) → title_open t (ps ++ qs) ≡ title_open (title_open t ps) qs
open_on t [] qs = refl
open_on t (p ∷ ps) qs = open_on (title_behind t p.kind p.bytes) ps qs

-- the bytes are the same
pub same_bytes : (t : Bool) (ps : List Part) → flat_map bytes_of (with_titles t ps) ≡ flat_map bytes_of ps
same_bytes t [] = refl
same_bytes t (p ∷ ps) = ap (λ (x : List ℕ). p.bytes ++ x) (same_bytes (title_behind t p.kind p.bytes) ps)

-- parts of one kind that keep what is open
same_open : (k j : Kind) (t : Bool) → ((b : List ℕ) → title_behind t k b ≡ t) → read_as k t ≡ j → (ps : List Part) → AllByRecursion (λ (p : Part). p.kind ≡ k) ps
    → AllByRecursion (λ (p : Part). p.kind ≡ j) (with_titles t ps) × (title_open t ps ≡ t)
same_open k j t stays read [] h = (tt, refl)
same_open k j t stays read (p ∷ ps) h =
    let step : title_behind t p.kind p.bytes ≡ t = rw h.0 (stays p.bytes) in
    let later = same_open k j t stays read ps h.1 in
    ((rw h.0 read, rw step later.0), rw step later.1)

-- the first of them may change it
all_read : (k j : Kind) (t u : Bool) → ((b : List ℕ) → title_behind t k b ≡ u) → ((b : List ℕ) → title_behind u k b ≡ u) → read_as k t ≡ j → read_as k u ≡ j
    → (bytes : List ℕ) (ps : List Part) → AreAll k bytes ps → AreAll j bytes (with_titles t ps) × (title_open t ps ≡ u)
all_read k j t u first stays now read bytes [] a = absurd (omega (arith, a.some))
all_read k j t u first stays now read bytes (p ∷ ps) a =
    let step : title_behind t p.kind p.bytes ≡ u = rw a.all.0 (first p.bytes) in
    let later = same_open k j u stays read ps a.all.1 in
    (record { some = omega arith; all = (rw a.all.0 now, rw step later.0); joined = same_bytes t (p ∷ ps) ∙ a.joined }, rw step later.1)

-- a span is one of the kind that it is read as
pub record Titled (t : Bool) (k : Kind) (bytes : List ℕ) (ps : List Part) : Type 0 where
  pub span : IsSpan (read_as k t) bytes (with_titles t ps)
  pub behind : title_open t ps ≡ title_behind t k bytes

pub titled : (t : Bool) (k : Kind) (bytes : List ℕ) (ps : List Part) → IsSpan k bytes ps → Titled t k bytes ps
titled true Kind.Text bytes ps h = let e = all_read Kind.Text Kind.Other true true (λ b. refl) (λ b. refl) refl refl bytes ps h in record { span = e.0; behind = e.1 }
titled false Kind.Text bytes ps h = let e = all_read Kind.Text Kind.Text false false (λ b. refl) (λ b. refl) refl refl bytes ps h in record { span = e.0; behind = e.1 }
titled t Kind.Str bytes ps h = let e = all_read Kind.Str Kind.Str t false (λ b. refl) (λ b. refl) refl refl bytes ps h in record { span = e.0; behind = e.1 }
titled t Kind.Other bytes ps h = let e = all_read Kind.Other Kind.Other t false (λ b. refl) (λ b. refl) refl refl bytes ps h in record { span = e.0; behind = e.1 }
titled t _ bytes ps h = rw h record { span = refl; behind = refl }

-- text alone
pub single_texts : (bs : List ℕ) → with_titles false (singles Kind.Text bs) ≡ singles Kind.Text bs
single_texts [] = refl
single_texts (b ∷ bs) = ap (λ (x : List Part). part Kind.Text (b ∷ []) ∷ x) (single_texts bs)

-- ---- which parts are dropped

-- an escape sequence begins with ESC, as `ESC k` does
abbrev EscIsFirst : Part → Type 0
EscIsFirst p = (c : ℕ) → p ≡ part Kind.Esc (c ∷ 107 ∷ []) → c ≡ 27

esc_first : (limit : ℕ) (m : Mode) (bytes rest : List ℕ) (a : Mode) (p : Part) → IsFirstPart limit m bytes p rest a → EscIsFirst p
esc_first limit m bytes rest a p h c e =
    let (shut, (more, begins)) = fit limit m bytes Kind.Esc (c ∷ 107 ∷ []) rest a (subst (λ (q : Part). IsFirstPart limit m bytes q rest a) e h) in
    cc

-- what is so of each part that stands in front, and of what is left over, is so of all parts
module _ (P : Part → Type 0) (limit : ℕ) (first : (m : Mode) (bytes rest : List ℕ) (a : Mode) (p : Part) → IsFirstPart limit m bytes p rest a → P p)
    (over : (bytes : List ℕ) → P (part Kind.Other bytes)) where
  left_each : (rest : List ℕ) → AllByRecursion P (left_over rest)
  left_each [] = tt
  left_each (b ∷ rest) = (over (b ∷ rest), tt)

  all_each : (ps : List Part) (m a : Mode) (bytes rest end : List ℕ) → AreFirstParts limit m bytes ps rest a → AllByRecursion P (ps ++ left_over end)
  all_each [] m a bytes rest end h = left_each end
  all_each (p ∷ ps) m a bytes rest end (behind, mid, one, later) = (first m bytes behind mid p one, all_each ps mid a behind rest end later)

  pub whole_each : (bytes : List ℕ) (ps : List Part) → IsWhole limit Mode.Text bytes ps → AllByRecursion P ps
  whole_each bytes ps w = subst (AllByRecursion P) (sym w.whole) (all_each w.sure Mode.Text w.after bytes w.rest w.rest w.first)

whole_first : (limit : ℕ) (bytes : List ℕ) (ps : List Part) → IsWhole limit Mode.Text bytes ps → AllByRecursion EscIsFirst ps
whole_first limit = whole_each EscIsFirst limit (esc_first limit) (λ bytes c e. let k : Kind.Other ≡ Kind.Esc = ap (λ (p : Part). p.kind) e in absurd cc)

-- where a title is open, it was before, with text alone since then, or `ESC k` opened it
abbrev Opened : Bool → List Part → Type 0
Opened t ps = ((t ≡ true) × AllByRecursion IsText ps) ⊎ InTitle ps

two_bytes : (bytes : List ℕ) → title_behind true Kind.Esc bytes ≡ true → (c : ℕ) × (bytes ≡ c ∷ 107 ∷ [])
two_bytes [] e = absurd cc
two_bytes (b ∷ []) e = absurd cc
two_bytes (b ∷ c ∷ []) e = (b, ap (λ (x : ℕ). b ∷ x ∷ []) (eqb-true c 107 e))
two_bytes (b ∷ c ∷ d ∷ bytes) e = absurd (omega (arith, eqb-true (length (b ∷ c ∷ d ∷ bytes)) 2 (and_parts (length (b ∷ c ∷ d ∷ bytes) == 2) (c == 107) e).0))

opened_on : (t : Bool) (k : Kind) (bytes : List ℕ) (ps : List Part) → EscIsFirst (part k bytes) → Opened (title_behind t k bytes) ps → Opened t (part k bytes ∷ ps)
opened_on t k bytes ps f (inr (earlier, title, e, texts)) = inr (part k bytes ∷ earlier, title, ap (λ (x : List Part). part k bytes ∷ x) e, texts)
opened_on t Kind.Text bytes ps f (inl (is, texts)) = inl (is, (refl, texts))
opened_on t Kind.Esc bytes ps f (inl (is, texts)) =
    let two = two_bytes bytes is in
    let same : bytes ≡ 27 ∷ 107 ∷ [] = two.1 ∙ ap (λ (x : ℕ). x ∷ 107 ∷ []) (f two.0 (ap (part Kind.Esc) two.1)) in
    inr ([], ps, ap (λ (x : List ℕ). part Kind.Esc x ∷ ps) same, texts)
opened_on t _ bytes ps f (inl (is, texts)) = absurd cc

opened : (t : Bool) (ps more : List Part) → AllByRecursion EscIsFirst (ps ++ more) → title_open t ps ≡ true → Opened t ps
opened t [] more h e = inl (e, tt)
opened t (p ∷ ps) more h e = opened_on t p.kind p.bytes ps h.0 (opened (title_behind t p.kind p.bytes) ps more h.1 e)

in_title : (before : List Part) → InTitle before → title_open false before ≡ true
in_title before (earlier, title, e, texts) = ap (title_open false) e ∙ open_on false earlier (part Kind.Esc (27 ∷ 107 ∷ []) ∷ title) ∙ (same_open Kind.Text Kind.Other true (λ b. refl) refl title texts).1

pub same_places : (t : Bool) (ps : List Part) → length (with_titles t ps) ≡ length ps
same_places t [] = refl
same_places t (p ∷ ps) = ap (λ (n : ℕ). suc n) (same_places (title_behind t p.kind p.bytes) ps)

at_place : (t : Bool) (before behind : List Part) (p : Part) → slice_get (with_titles t (before ++ p ∷ behind)) (length before) ≡ Some (part (read_as p.kind (title_open t before)) p.bytes)
at_place t [] behind p = refl
at_place t (q ∷ before) behind p = at_place (title_behind t q.kind q.bytes) before behind p

pub dropped : (before behind : List Part) (p : Part) → InTitle before → IsText p → slice_get (with_titles false (before ++ p ∷ behind)) (length before) ≡ Some (part Kind.Other p.bytes)
dropped before behind p h text = at_place false before behind p ∙ ap (λ (k : Kind). Some (part k p.bytes)) (ap (read_as p.kind) (in_title before h) ∙ ap (λ (k : Kind). read_as k true) text)

-- a part that is no text of a title is read as what it is
as_is : (k : Kind) (t : Bool) → (k ≡ Kind.Text → t ≡ true → ⊥) → read_as k t ≡ k
as_is k t f = grind arith

shut_before : (ps : List Part) → Opened false ps → InTitle ps
shut_before ps h = grind arith

pub kept : (bytes : List ℕ) (before behind : List Part) (p : Part) → IsWhole longest Mode.Text bytes (before ++ p ∷ behind) → (IsText p → ¬ InTitle before)
    → slice_get (with_titles false (before ++ p ∷ behind)) (length before) ≡ Some p
kept bytes before behind p w f =
    let first = whole_first longest bytes (before ++ p ∷ behind) w in
    let opens : title_open false before ≡ true → InTitle before = λ e. shut_before before (opened false before (p ∷ behind) first e) in
    at_place false before behind p ∙ ap (λ (k : Kind). Some (part k p.bytes)) (as_is p.kind (title_open false before) (λ text e. f text (opens e)))
