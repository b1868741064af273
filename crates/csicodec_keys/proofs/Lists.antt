-- A list is read as what it was written of, and its bytes are those of a control sequence.
use Rattle.std.proofs.Common.{◌≡◌, ℕ, ◌+◌, ◌-◌, ◌<◌, ◌≤◌, List, [], ◌∷◌, ◌++◌, length, Some, refl, ap, ◌∙◌, inl, inr, pos, arith, length-append, append_assoc, eqb-true, lt-ltb, true, false, ◌==◌, ◌&&◌, nat_lt, option_and_then, ℤ, sym, subst, Bool, ◌≤ℤ◌}
use Rattle.std.proofs.{lemmas.Bool.and_parts, lemmas.Bool.cases_Bool, lemmas.Int.ints}
use lib.Utf8.{scalar, scalars, scalar_fits}
use Rattle.csicodec_tokens.specs.{declared.param.CsiParam.CsiParam, declared.param.CsiParam.TheVariants.Integer, declared.param.CsiParam.TheVariants.P}
use Rattle.csicodec_tokens.specs.{Digits.AreDigits, Digits.IsDigit, Digits.largest, Sequence.Apart, Sequence.Spellable, Sequence.Spells}
use Rattle.csicodec_keys.specs.Fields.{characters, from_separator, held_front, held_list, held_of, is_empty, is_plain, read_list, text_front, text_list, with_char, written_list}
use Rattle.csicodec_keys.specs.{declared.key.KeyEvent.KeyEvent, Win32.record_list}

held-of : (held : ℕ) → held < 256 → held_of (pos (held + 1)) ≡ Some held
held-of held h =
    let low : nat_lt 0 (held + 1) ≡ true = lt-ltb 0 (held + 1) (omega arith) in
    let high : nat_lt (held + 1) 257 ≡ true = lt-ltb (held + 1) 257 (omega arith) in
    let back : held + 1 - 1 ≡ held = omega arith in
    rw (low, high, back) refl

with-char : (text : List ℕ) (c : ℕ) → scalar c ≡ true → length text < 32 → with_char text (pos c) ≡ Some (text ++ c ∷ [])
unfolding with_char
with-char text c s h = let room : (length text == 32) ≡ false = grind arith in rw (room, s) refl

chars-read : (text : List ℕ) (c : ℕ) (cs : List ℕ) → scalars (c ∷ cs) ≡ true → length text + length (c ∷ cs) ≤ 32 → characters text (Integer (pos c) ∷ text_list 58 cs) ≡ Some (text ++ c ∷ cs)
chars-read text c [] s h = ap (option_and_then (λ more. characters more [])) (with-char text c (and_parts (scalar c) true s).0 (omega (arith, h)))
chars-read text c (d ∷ ds) s h =
    let p = and_parts (scalar c) (scalars (d ∷ ds)) s in
    ap (option_and_then (λ more. characters more (text_list 58 (d ∷ ds)))) (with-char text c p.0 (omega (arith, h)))
    ∙ (chars-read (text ++ c ∷ []) d ds p.1 (omega (arith, h, length-append text (c ∷ [])))
    ∙ ap Some (append_assoc text (c ∷ []) (d ∷ ds)))

text-read : (text : List ℕ) → scalars text ≡ true → length text ≤ 32 → text_front (text_list 59 text) ≡ Some text
text-read [] s h = refl
text-read (c ∷ cs) s h = chars-read [] c cs s (omega (arith, h))

-- behind a number
abbrev behind : ℕ → KeyEvent → List ℕ → List CsiParam
behind held e text = held_list held e (is_empty text) ++ text_list 59 text

separated : (held : ℕ) (e : KeyEvent) (text : List ℕ) → held < 256
    → (from_separator (behind held e text) ≡ Some (behind held e text)) × (held_front (behind held e text) ≡ Some (held, e, text_list 59 text))
separated held KeyEvent.Press [] h = elim (cases_Bool (held == 0)) [ inl none ↦ rw (none, eqb-true held 0 none) (refl, refl) | inr some ↦ rw (some, held-of held h) (refl, refl) ]
separated held KeyEvent.Press (c ∷ cs) h = elim (cases_Bool (held == 0)) [ inl none ↦ rw (none, eqb-true held 0 none) (refl, refl) | inr some ↦ rw (some, held-of held h) (refl, refl) ]
separated held KeyEvent.Repeat text h = rw (held-of held h) (refl, refl)
separated held KeyEvent.Release text h = rw (held-of held h) (refl, refl)

-- the number stands there
with-number : (n held : ℕ) (e : KeyEvent) (text : List ℕ) → nat_lt n 4294967296 ≡ true → held < 256 → scalars text ≡ true → length text ≤ 32
    → read_list (Integer (pos n) ∷ behind held e text) ≡ Some (record { number = n; held = held; event = e; text = text })
with-number n held e text small h s short =
    let s' = separated held e text h in rw (small, s'.0, s'.1, text-read text s short) refl

-- nothing is said but a key of number 1
pub plain-parts : (held : ℕ) (e : KeyEvent) (text : List ℕ) → is_plain held e text ≡ true → (held ≡ 0) × (e ≡ KeyEvent.Press) × (text ≡ [])
plain-parts held KeyEvent.Press [] h = (eqb-true held 0 (and_parts (held == 0) true h).0, refl, refl)
plain-parts held KeyEvent.Press (c ∷ cs) h = absurd (grind arith)
plain-parts held KeyEvent.Repeat text h = absurd (grind arith)
plain-parts held KeyEvent.Release text h = absurd (grind arith)

pub list-read : (n held : ℕ) (e : KeyEvent) (text : List ℕ) → nat_lt n 4294967296 ≡ true → held < 256 → scalars text ≡ true → length text ≤ 32
    → read_list (written_list n held e text) ≡ Some (record { number = n; held = held; event = e; text = text })
list-read n held e text small h s short = elim (cases_Bool ((n == 1) && is_plain held e text)) [
  | inl alone ↦
      let p = and_parts (n == 1) (is_plain held e text) alone in
      let q = plain-parts held e text p.1 in
      rw (eqb-true n 1 p.0, q.0, q.1, q.2) refl
  | inr more ↦ rw more (with-number n held e text small h s short)
]

-- ---- What a list of a key spells: digits, `:` and `;`, and it is one control sequence.

-- ---- lists of numbers with separators between

-- a number may stand first, or none
abbrev IsFirst : Bool → ℤ → Type 0
IsFirst true z = (pos 0 ≤ℤ z) × (z ≤ℤ pos largest)
IsFirst false z = ⊥

abbrev pub Good : Bool → List CsiParam → Type 0
Good b [] = Unit {0}
Good b (Integer z ∷ ts) = IsFirst b z × Good false ts
Good b (P c ∷ ts) = ((58 ≤ c) × (c ≤ 59)) × Good true ts

apart : (z : ℤ) (ts : List CsiParam) → Good false ts → Apart (Integer z) ts
apart z [] h = tt
apart z (Integer y ∷ ts) h = absurd h.0
apart z (P c ∷ ts) h = tt

pub spellable : (b : Bool) (list : List CsiParam) → Good b list → Spellable list
spellable b [] h = tt
spellable true (Integer z ∷ ts) h = (h.0, apart z ts h.1, spellable false ts h.1)
spellable false (Integer z ∷ ts) h = absurd h.0
spellable b (P c ∷ ts) h =
    let low : 58 ≤ c = h.0.0 in
    let high : c ≤ 59 = h.0.1 in
    (((omega (arith, low), omega (arith, high)), λ (d : IsDigit c). omega (arith, low, d.1)), tt, spellable true ts h.1)

-- ---- their bytes

abbrev pub AreIn : List ℕ → Type 0
AreIn [] = Unit {0}
AreIn (b ∷ bs) = ((48 ≤ b) × (b ≤ 59)) × AreIn bs

in-append : (xs ys : List ℕ) → AreIn xs → AreIn ys → AreIn (xs ++ ys)
in-append [] ys h i = i
in-append (x ∷ xs) ys h i = (h.0, in-append xs ys h.1 i)

in-digits : (ds : List ℕ) → AreDigits ds → AreIn ds
in-digits [] h = tt
in-digits (d ∷ ds) h = ((h.0.0, omega (arith, h.0.1)), in-digits ds h.1)

pub spelled-in : (b : Bool) (list : List CsiParam) (text : List ℕ) → Good b list → Spells text list → AreIn text
spelled-in b [] text h s = subst AreIn (sym s) tt
spelled-in b (Integer z ∷ ts) text h s = subst AreIn (sym s.2) (in-append s.0 s.1 (in-digits s.0 s.3.1) (spelled-in false ts s.1 h.1 s.4))
spelled-in b (P c ∷ ts) text h s =
    let low : 58 ≤ c = h.0.0 in
    subst AreIn (sym s.2) (in-append s.0 s.1 (subst AreIn (sym s.3) ((omega (arith, low), h.0.1), tt)) (spelled-in true ts s.1 h.1 s.4))

-- ---- the list of a key

number : (n : ℕ) → n < 4294967296 → IsFirst true (pos n)
number n h = (omega (arith, ints), omega (arith, ints, h))

semicolon : (58 ≤ 59) × (59 ≤ 59)
semicolon = (omega arith, omega arith)

colon : (58 ≤ 58) × (58 ≤ 59)
colon = (omega arith, omega arith)

lifted : (list : List CsiParam) → Good false list → Good true list
lifted [] h = tt
lifted (Integer z ∷ ts) h = absurd h.0
lifted (P c ∷ ts) h = h

good-text : (separator : ℕ) (text : List ℕ) → (58 ≤ separator) × (separator ≤ 59)
    → scalars text ≡ true → Good false (text_list separator text)
good-text separator [] h s = tt
good-text separator (c ∷ cs) h s =
    let p = and_parts (scalar c) (scalars cs) s in
    (h, (number c (scalar_fits c p.0), good-text 58 cs colon p.1))

good-held : (held : ℕ) (e : KeyEvent) (bare : Bool) (rest : List CsiParam) → held < 256 → Good false rest → Good false (held_list held e bare ++ rest)
good-held held KeyEvent.Press true rest h g = elim (cases_Bool (held == 0)) [
  | inl none ↦ rw none g
  | inr some ↦ rw some (semicolon, (number (held + 1) (omega (arith, h)), g))
]
good-held held KeyEvent.Press false rest h g = elim (cases_Bool (held == 0)) [
  | inl none ↦ rw none (semicolon, lifted rest g)
  | inr some ↦ rw some (semicolon, (number (held + 1) (omega (arith, h)), g))
]
good-held held KeyEvent.Repeat bare rest h g = (semicolon, (number (held + 1) (omega (arith, h)), (colon, (number 2 (omega arith), g))))
good-held held KeyEvent.Release bare rest h g = (semicolon, (number (held + 1) (omega (arith, h)), (colon, (number 3 (omega arith), g))))

pub good-list : (n held : ℕ) (e : KeyEvent) (text : List ℕ) → n < 4294967296 → held < 256 → scalars text ≡ true → Good true (written_list n held e text)
good-list n held e text small h s =
    let behind : Good false (held_list held e (is_empty text) ++ text_list 59 text) = good-held held e (is_empty text) (text_list 59 text) h (good-text 59 text semicolon s) in
    elim (cases_Bool ((n == 1) && is_plain held e text)) [
      | inl alone ↦ rw alone (lifted (held_list held e (is_empty text) ++ text_list 59 text) behind)
      | inr more ↦ rw more (number n small, behind)
    ]

pub good-record : (vk uc kd cs : ℕ) → vk < 4294967296 → uc < 4294967296 → kd < 4294967296 → cs < 4294967296 → Good true (record_list (record { vk = vk; uc = uc; kd = kd; cs = cs }))
good-record vk uc kd cs a b c d =
    (number vk a, (semicolon, (number 0 (omega arith), (semicolon, (number uc b, (semicolon, (number kd c, (semicolon, (number cs d, (semicolon, (number 1 (omega arith), tt)))))))))))
