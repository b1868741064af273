-- Text is, byte by byte, what stands on the page.
use Rattle.std.proofs.Common.{◌≡◌, ◌≢◌, ◌≤◌, ◌<◌, ℕ, false, List, [], ◌∷◌, ◌++◌, refl, sym, ap, ◌∙◌, ⊎_elim, append_assoc, append-nil, arith, eq-eqb, ne_eqb, codes, encode_utf8_all, ◌==◌, if◌then◌else◌, flat_map, true}
use Rattle.std.proofs.lemmas.Str.{encode_ascii as ascii}
use Rattle.csicodec_looks.proofs.Common.{cases_lt, cond_both, false≢true, nat_tests, flat_map-append, AllByRecursion, IsShown, IsHarmless, escaped, page_bytes, stands, Look, Markup, Open, leads, piece_texts, shuts, piece_bytes, pieces_bytes}
use Rattle.csicodec_looks.proofs.Declarations.{Fine}
use Rattle.std.specs.Char.{encode_utf8}
use Rattle.csicodec_looks.specs.Pieces.{reference_or, Stands, page_byte, begins, ends, opens}

-- ---- an escaped character

unless : (P : List ℕ → Type 0) (a b : ℕ) (xs ys : List ℕ) → P xs → (a ≢ b → P ys) → P (if a == b then xs else ys)
unless P a b xs ys f g = cond_both (a == b) xs ys P (λ _. f) (λ e. g (λ same. absurd (cc (e, eq-eqb a b same))))

-- an escaped character is one of five references, or none of the five
pub escaped_by : (P : List ℕ → Type 0) (c : ℕ) → P (codes "&amp;") → P (codes "&lt;") → P (codes "&gt;") → P (codes "&quot;") → P (codes "&#39;")
    → (c ≢ 34 → c ≢ 38 → c ≢ 39 → c ≢ 60 → c ≢ 62 → P (encode_utf8 c)) → P (escaped c)
escaped_by P c and less greater quote apostrophe itself =
    let last = if c == 39 then codes "&#39;" else encode_utf8 c in
    let four = if c == 34 then codes "&quot;" else last in
    let three = if c == 62 then codes "&gt;" else four in
    unless P c 38 (codes "&amp;") (if c == 60 then codes "&lt;" else three) and
    (λ a. unless P c 60 (codes "&lt;") three less
    (λ l. unless P c 62 (codes "&gt;") four greater
    (λ g. unless P c 34 (codes "&quot;") last quote
    (λ q. unless P c 39 (codes "&#39;") (encode_utf8 c) apostrophe
    (λ s. itself q a s l g)))))

-- ---- bytes that stand there as they are

as_it_is : (itself : List ℕ) (c : ℕ) → Stands c → reference_or itself c ≡ itself
as_it_is itself c h =
    let other = λ (k : ℕ) (f : stands k ≡ false). ne_eqb c k (λ e. false≢true (sym f ∙ (ap stands (sym e) ∙ h))) in
    rw (other 38 refl, other 60 refl, other 62 refl, other 34 refl, other 39 refl) refl

pub run_stands : (front rest : List ℕ) → AllByRecursion Stands front → page_bytes (front ++ rest) ≡ front ++ page_bytes rest
run_stands [] rest h = refl
run_stands (b ∷ front) rest h = ap (λ (t : List ℕ). t ++ page_bytes (front ++ rest)) (as_it_is (b ∷ []) b h.0) ∙ ap (λ (t : List ℕ). b ∷ t) (run_stands front rest h.1)

-- such a run in front
pub run_on : (old new bytes front rest : List ℕ) → AllByRecursion Stands front → bytes ≡ front ++ rest → new ≡ old ++ front → new ++ page_bytes rest ≡ old ++ page_bytes bytes
run_on old new bytes front rest h e f = rw (f, e, run_stands front rest h) (simp append_assoc)

-- a byte more, and then such a run
pub page_on : (whole old mid new : List ℕ) (byte : ℕ) (front rest : List ℕ) → AllByRecursion Stands front
    → old ++ page_bytes (byte ∷ (front ++ rest)) ≡ whole → mid ≡ old ++ page_byte byte → new ≡ mid ++ front
    → new ++ page_bytes rest ≡ whole
page_on whole old mid new byte front rest h e f g = rw (g, f, ← e, ← append_assoc, run_stands front rest h) (simp append_assoc)

-- ---- characters

one_fine : (b : ℕ) → IsHarmless b → page_byte b ≡ b ∷ []
one_fine b h = as_it_is (b ∷ []) b (grind (arith, nat_tests))

all_fine : (bytes : List ℕ) → Fine bytes → page_bytes bytes ≡ bytes
all_fine [] h = refl
all_fine (b ∷ bytes) h = rw (one_fine b h.0, all_fine bytes h.1) refl

-- the bytes of a character that isn't of ASCII
high : (c : ℕ) → 128 ≤ c → Fine (encode_utf8 c)
unfolding encode_utf8
high c a = grind (arith, nat_tests)

stands_high : (c : ℕ) → 128 ≤ c → Stands c
stands_high c a = grind (arith, nat_tests)

char : (c : ℕ) → IsShown c → page_bytes (encode_utf8 c) ≡ escaped c
char c h = ⊎_elim
    (λ (a : c < 128). rw (ascii c a) (append-nil _))
    (λ (a : 128 ≤ c). rw (as_it_is (encode_utf8 c) c (stands_high c a)) (all_fine (encode_utf8 c) (high c a)))
    (cases_lt c 128)

pub chars : (cs : List ℕ) → AllByRecursion IsShown cs → page_bytes (encode_utf8_all cs) ≡ flat_map escaped cs
chars [] h = refl
chars (c ∷ cs) h = rw (flat_map-append page_byte (encode_utf8 c) (encode_utf8_all cs), char c h.0, chars cs h.1) refl

-- ---- tags

-- the tag of a link that leads somewhere
pub opened : (to : List ℕ) → leads to ≡ true → pieces_bytes (opens to) ≡ piece_bytes (Open to)
opened to h = rw h (append-nil _)

-- tags without an address are appended as they stand there
pub ends_bytes : (l : Look) → pieces_bytes (ends l) ≡ piece_texts (ends l)
ends_bytes l = grind arith

pub begins_bytes : (m : Markup) (l : Look) → pieces_bytes (begins m l) ≡ piece_texts (begins m l)
begins_bytes m l = grind arith

pub shuts_bytes : (to : List ℕ) → pieces_bytes (shuts to) ≡ piece_texts (shuts to)
shuts_bytes to = grind arith
