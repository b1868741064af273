-- Addresses are, byte by byte, what stands on the page, and no byte of one ends the attribute that it stands in.
use Rattle.std.proofs.{Common.◌≡◌, Common.◌<◌, Common.ℕ, Common.true, Common.List, Common.[], Common.◌∷◌, Common.refl, Common.sym, Common.ap, Common.arith}
use Rattle.std.proofs.{Common.ne_eqb, Common.flat_map, lemmas.Str.encode_ascii as ascii}
use Rattle.csicodec_html.proofs.Common.{nat_tests, AllByRecursion, all_both, IsSafe, Piece, Open, escaped, piece_text, piece_texts, page_bytes, piece_bytes, pieces_bytes, Markup}
use Rattle.csicodec_clean.specs.{Links.is_visible, Page.IsQuoted}
use Rattle.csicodec_looks.specs.Pieces.{reference_or, page_byte}
use Rattle.csicodec_looks.proofs.Marks.{escaped_by}

-- ---- addresses

abbrev pub IsVisible : ℕ → Type 0
IsVisible b = is_visible b ≡ true

pub below : (c : ℕ) → IsVisible c → c < 128
below c h = grind (arith, nat_tests, h)

abbrev Quoted : List ℕ → Type 0
Quoted bytes = AllByRecursion IsQuoted bytes

quoted : (c : ℕ) → IsVisible c → Quoted (escaped c)
quoted c h =
    escaped_by Quoted c (refl, (refl, (refl, (refl, (refl, tt))))) (refl, (refl, (refl, (refl, tt)))) (refl, (refl, (refl, (refl, tt))))
    (refl, (refl, (refl, (refl, (refl, (refl, tt)))))) (refl, (refl, (refl, (refl, (refl, tt)))))
    (λ q a s l g. rw (ascii c (below c h)) (rw (h, ne_eqb c 34 q, ne_eqb c 39 s, ne_eqb c 60 l, ne_eqb c 62 g) refl, tt))

pub all_quoted : (url : List ℕ) → AllByRecursion IsVisible url → Quoted (flat_map escaped url)
all_quoted [] h = tt
all_quoted (c ∷ url) h = all_both IsQuoted (escaped c) (flat_map escaped url) (quoted c h.0) (all_quoted url h.1)

-- ---- characters

visible : (c : ℕ) → IsVisible c → page_byte c ≡ escaped c
visible c h = ap (λ (itself : List ℕ). reference_or itself c) (sym (ascii c (below c h)))

address : (url : List ℕ) → AllByRecursion IsVisible url → page_bytes url ≡ flat_map escaped url
address [] h = refl
address (c ∷ url) h = rw (visible c h.0, address url h.1) refl

piece : (m : Markup) (p : Piece) → IsSafe m p → piece_bytes p ≡ piece_text p
piece m (Open url) h = rw (address url h.1.visible) refl
piece m _ h = refl

-- as pieces are appended, they stand there
pub pieces : (m : Markup) (ps : List Piece) → AllByRecursion (IsSafe m) ps → pieces_bytes ps ≡ piece_texts ps
pieces m [] h = refl
pieces m (p ∷ ps) h = rw (piece m p h.0, pieces m ps h.1) refl
