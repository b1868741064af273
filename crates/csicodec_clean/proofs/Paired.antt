-- The pieces of a page are safe, and its tags in pairs.
use Rattle.std.proofs.Common.{◌≡◌, ℕ, true, false, List, [], ◌∷◌, refl, sym, arith, if◌then◌else◌, Bool, ◌++◌, ap, ◌∙◌, append_assoc, map, subst, ⊎_elim, filter, ◌||◌, not}
use Rattle.std.proofs.lemmas.Bool.{and_parts, cases_Bool, cond_both}
use Rattle.csicodec_looks.specs.{declared.look.Look.Look, declared.markup.Markup.Markup, Pieces.Open, Pieces.leads, Pieces.shuts, Pieces.Piece, Pieces.switch}
use Rattle.csicodec_looks.specs.{Pieces.Char, Pieces.turn, Pieces.begins, Pieces.ends, Pieces.opens, Look.is_plain, Paint.same}
use Rattle.csicodec_looks.proofs.Recalled.{same_look}
use Rattle.csicodec_clean.specs.Page.{turned, Setting, IsSafe, PageWith, closing, first_set, IsPageWith, are_paired, led_by, switches, AreLeft, Leaves, pieces_behind, run_behind, shown_pieces}
use Rattle.csicodec_clean.specs.{Saving.behind_all, Saving.behind_effect, Saving.escape_effect, Saving.sets, Saving.sets_any, declared.saving.Looks.Looks}
use Rattle.csicodec_clean.specs.{Shown.IsShown, Shown.shown, Links.Address, Links.Begun, Links.behind, Links.links_in, Links.IsLink, Links.IsWithin}
use Rattle.csicodec_clean.specs.{Links.start, Sets.as_read, Sets.first_reading, Addresses.is_web}
use Rattle.std.specs.{List.AllByRecursion, Str.all_scalars}
use lib.Utf8.{scalar}
use Rattle.csicodec_clean.proofs.{Plain.all_both, Plain.kept_shown, Plain.scalars_lossy, Linked.fine_behind, Linked.fine_links, Linked.links_none}
use Rattle.bstr.specs.Utf8.{lossy_chars}
use Rattle.csicodec_spans.specs.{declared.table.Kind.Kind, Parts.Part}

-- ---- safe

abbrev Safe : Markup → List Piece → Type 0
Safe m ps = AllByRecursion (IsSafe m) ps

safe_chars : (m : Markup) (cs : List ℕ) → all_scalars cs ≡ true → AllByRecursion IsShown cs → Safe m (map Char cs)
safe_chars m [] a h = tt
safe_chars m (c ∷ cs) a h = let both = and_parts (scalar c) (all_scalars cs) a in ((h.0, both.0), safe_chars m cs both.1 h.1)

safe_run : (m : Markup) (run : List ℕ) → Safe m (shown_pieces run)
safe_run m run = let k = kept_shown (lossy_chars run) (scalars_lossy run) in safe_chars m (filter shown (lossy_chars run)) k.0 k.1

safe_opens : (m : Markup) → m.links ≡ true → (a : Address) → IsLink a → Safe m (opens a.url)
safe_opens m pass a h = ⊎_elim
    (λ (e : is_web a.url ≡ true).
    cond_both (leads a.url) (Open a.url ∷ []) [] (Safe m) (λ _. ((pass, record { web = e; visible = h.within.url; short = h.within.short }), tt)) (λ _. tt))
    (λ (e : is_web a.url ≡ false). subst (λ (t : List ℕ). Safe m (opens t)) (ap (λ (b : Bool). if b then a.url else []) (sym e) ∙ h.leads) tt)
    (cases_Bool (is_web a.url))

safe_closing : (m : Markup) (s : Setting) → Safe m (closing s)
safe_closing m s = grind arith

safe_turn : (m : Markup) (old new : Look) (comes : Bool) → Safe m (turn m comes old new)
safe_turn m old new comes = grind arith

safe_turned : (s : Setting) (comes : Bool) (new : Looks) → Safe s.markup (turned s comes new)
safe_turned s comes new = safe_turn s.markup s.looks.look new.look (comes || not (same s.looks.look new.look))

safe_switch : (m : Markup) → m.links ≡ true → (l : Look) (old : List ℕ) (a : Address) → IsLink a → Safe m (switch m l old a.url)
safe_switch m pass l old a h =
    let opens_safe = safe_opens m pass a h in
    let around : Safe m (ends l) × Safe m (shuts old) × Safe m (begins m l) = grind arith in
    cond_both (leads old || leads a.url) (ends l ++ (shuts old ++ (opens a.url ++ begins m l))) [] (Safe m)
    (λ _. search (all_both, opens_safe, around)) (λ _. tt)

safe_switches : (m : Markup) → m.links ≡ true → (l : Look) (to : List ℕ) (links : List Address) → AllByRecursion IsLink links → Safe m (switches m l to links)
safe_switches m pass l to [] h = tt
safe_switches m pass l to (a ∷ links) h =
    all_both (IsSafe m) (switch m l to a.url) (switches m l a.url links) (safe_switch m pass l to a h.0) (safe_switches m pass l a.url links h.1)

pub safe_string : (m : Markup) (l : Look) (to : List ℕ) (b : Begun) (bytes : List ℕ) → IsWithin b.address → Safe m (switches m l to (links_in m.links b bytes))
safe_string m l to b bytes h = by m.links refl
  where
    by : (t : Bool) → m.links ≡ t → Safe m (switches m l to (links_in t b bytes))
    by true pass = safe_switches m pass l to (links_in true b bytes) (fine_links true bytes b h)
    by false pass = subst (λ (links : List Address). Safe m (switches m l to links)) (sym (links_none bytes b)) tt

safe_leaves : (s after : Setting) (k : Kind) (bytes : List ℕ) (own : List Piece) → IsWithin s.begun.address → Leaves s k bytes own after → Safe s.markup own
safe_leaves s after Kind.Csi bytes own h (actions, isof, behind, e) = subst (Safe s.markup) (sym e) (safe_turned s (sets_any actions) (behind_all s.looks actions))
safe_leaves s after Kind.Esc bytes own h (e, behind) = subst (Safe s.markup) (sym e) (safe_turned s (sets (escape_effect bytes)) (behind_effect s.looks (escape_effect bytes)))
safe_leaves s after Kind.Str bytes own h (e, behind) = subst (Safe s.markup) (sym e) (safe_string s.markup s.looks.look s.to s.begun bytes h)
safe_leaves s after _ bytes own h l = subst (Safe s.markup) (sym l.0) tt

safe_behind : (m : Markup) (k : Kind) (run : List ℕ) → Safe m (pieces_behind k run)
safe_behind m Kind.Text run = tt
safe_behind m _ run = safe_run m run

-- behind a part: what becomes markup is as before, and what has come of a link may pass
pub stays : (s after : Setting) (k : Kind) (bytes : List ℕ) (own : List Piece) → IsWithin s.begun.address → Leaves s k bytes own after
    → (after.markup ≡ s.markup) × IsWithin after.begun.address
stays s after Kind.Csi bytes own h (actions, isof, behind, e) = rw behind (refl, h)
stays s after Kind.Esc bytes own h (e, behind) = rw behind (refl, h)
stays s after Kind.Str bytes own h (e, behind) = rw behind (refl, fine_behind s.markup.links bytes s.begun h)
stays s after _ bytes own h l = rw l.1 (refl, h)

pub safe_left : (parts : List Part) (s : Setting) (run : List ℕ) (ps : List Piece) → IsWithin s.begun.address → AreLeft s run parts ps → Safe s.markup ps
safe_left [] s run ps h e = subst (Safe s.markup) (sym e) (all_both (IsSafe s.markup) (shown_pieces run) (closing s) (safe_run s.markup run) (safe_closing s.markup s))
safe_left (p ∷ parts) s run ps h (own, after, others, leaves, e, rest) =
    let (same, fine) = stays s after p.kind p.bytes own h leaves in
    let later : Safe s.markup others = rw same at (safe_left parts after (run_behind p.kind run p.bytes) others fine rest) in
    subst (Safe s.markup) (sym e)
    (all_both (IsSafe s.markup) (pieces_behind p.kind run) (own ++ others) (safe_behind s.markup p.kind run)
    (all_both (IsSafe s.markup) own others (safe_leaves s after p.kind p.bytes own h leaves) later))

-- nothing has come of a link
pub none_begun : IsWithin start.address
none_begun = record { params = tt; few = omega arith; url = tt; short = omega arith }

-- ---- The tags of a page are in pairs, its characters those of the text that is stripped, and it is one.

-- whether a span is open
abbrev inside : Look → Bool
inside l = not (is_plain l)

paired_chars : (a b : Bool) (cs : List ℕ) (ps : List Piece) → are_paired a b (map Char cs ++ ps) ≡ are_paired a b ps
paired_chars a b [] ps = refl
paired_chars a b (c ∷ cs) ps = paired_chars a b cs ps

paired_ends : (a : Bool) (old new : Look) (m : Markup) (ps : List Piece) → are_paired a (inside old) ((ends old ++ begins m new) ++ ps) ≡ are_paired a (inside new) ps
paired_ends a old new m ps = grind arith

paired_switch : (m : Markup) (l : Look) (old new : List ℕ) (ps : List Piece) → are_paired (leads old) (inside l) (switch m l old new ++ ps) ≡ are_paired (leads new) (inside l) ps
paired_switch m l old new ps = grind arith

paired_switches : (m : Markup) (l : Look) (to : List ℕ) (links : List Address) (ps : List Piece)
    → are_paired (leads to) (inside l) (switches m l to links ++ ps) ≡ are_paired (leads (led_by to links)) (inside l) ps
paired_switches m l to [] ps = refl
paired_switches m l to (a ∷ links) ps =
    let mid = a.url in
    ap (are_paired (leads to) (inside l)) (append_assoc (switch m l to mid) (switches m l mid links) ps) ∙ paired_switch m l to mid (switches m l mid links ++ ps) ∙ paired_switches m l mid links ps

-- in a link or not, and in a span or not
abbrev paired_in : Setting → List Piece → Bool
paired_in s ps = are_paired (leads s.to) (inside s.looks.look) ps

-- where no turn is written it looks the same
paired_turned : (s : Setting) (comes : Bool) (new : Looks) (ps : List Piece) → paired_in s (turned s comes new ++ ps) ≡ are_paired (leads s.to) (inside new.look) ps
paired_turned s true new ps = paired_ends (leads s.to) s.looks.look new.look s.markup ps
paired_turned s false new ps = by (same s.looks.look new.look) refl
  where
    by : (t : Bool) → same s.looks.look new.look ≡ t → are_paired (leads s.to) (inside s.looks.look) (turn s.markup (not t) s.looks.look new.look ++ ps)
        ≡ are_paired (leads s.to) (inside new.look) ps
    by true e = ap (λ (l : Look). are_paired (leads s.to) (inside l) ps) (same_look s.looks.look new.look e)
    by false e = paired_ends (leads s.to) s.looks.look new.look s.markup ps

paired_leaves : (s after : Setting) (k : Kind) (bytes : List ℕ) (own ps : List Piece) → Leaves s k bytes own after → paired_in s (own ++ ps) ≡ paired_in after ps
paired_leaves s after Kind.Csi bytes own ps (actions, isof, behind, e) = rw (e, behind) (paired_turned s (sets_any actions) (behind_all s.looks actions) ps)
paired_leaves s after Kind.Esc bytes own ps (e, behind) = rw (e, behind) (paired_turned s (sets (escape_effect bytes)) (behind_effect s.looks (escape_effect bytes)) ps)
paired_leaves s after Kind.Str bytes own ps (e, behind) = rw (e, behind) (paired_switches s.markup s.looks.look s.to (links_in s.markup.links s.begun bytes) ps)
paired_leaves s after _ bytes own ps h = rw (h.0, h.1) refl

paired_behind : (a b : Bool) (k : Kind) (run : List ℕ) (ps : List Piece) → are_paired a b (pieces_behind k run ++ ps) ≡ are_paired a b ps
paired_behind a b Kind.Text run ps = refl
paired_behind a b _ run ps = paired_chars a b (filter shown (lossy_chars run)) ps

paired_closing : (s : Setting) → paired_in s (closing s) ≡ true
paired_closing s = grind arith

paired_left : (parts : List Part) (s : Setting) (run : List ℕ) (ps : List Piece) → AreLeft s run parts ps → paired_in s ps ≡ true
paired_left [] s run ps h = rw (h, paired_chars (leads s.to) (inside s.looks.look) (filter shown (lossy_chars run)) (closing s)) (paired_closing s)
paired_left (p ∷ parts) s run ps (own, after, others, leaves, e, rest) =
    ap (paired_in s) e ∙ paired_behind (leads s.to) (inside s.looks.look) p.kind run (own ++ others)
    ∙ paired_leaves s after p.kind p.bytes own others leaves ∙ paired_left parts after (run_behind p.kind run p.bytes) others rest

pub is_page : (m : Markup) (bytes page : List ℕ) → PageWith m bytes page → IsPageWith m page
is_page m bytes page p = record {
  pieces = p.pieces;
  safe = safe_left (as_read first_reading p.parts) (first_set m) [] p.pieces none_begun p.left;
  paired = paired_left (as_read first_reading p.parts) (first_set m) [] p.pieces p.left;
  all = p.all;
}
