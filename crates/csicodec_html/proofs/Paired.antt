-- Pieces of a page: from one look and one link to the next, what is left of a stream, and that it is one page.
use Rattle.std.proofs.Common.{◌≡◌, ℕ, true, false, List, [], ◌∷◌, refl, sym, append-nil, arith, if◌then◌else◌, Bool, ◌++◌, ap, ◌∙◌, append_assoc, map, subst, filter, flat_map, encode_utf8_all, ◌||◌, not, None, Some, Option, is_some}
use Rattle.std.proofs.lemmas.Bool.{false≢true}
use Rattle.csicodec_html.proofs.Common.{Effect, Look, Looks, Markup, behind_all, behind_effect, escape_effect, sets, sets_any, turned, leads, piece_texts, pieces_bytes, flat_map-append, led, ends_at, Piece, Setting, setting, switch, turns, Ends, longest, Char, PageWith, closing, escaped, first_set, turn, closes, Strips}
use Rattle.csicodec_html.proofs.Marks.{pieces}
use Rattle.csicodec_clean.specs.Page.{behind_string, led_by, switches, AreLeft, Leaves, pieces_behind, run_behind, shown_pieces, chars_of}
use Rattle.csicodec_clean.specs.{Links.Address, Links.Begun, Links.behind, Links.links_at, Links.links_in, Links.next, Links.IsWithin, Cleaned.AreGiven}
use Rattle.csicodec_clean.specs.{Cleaned.IsStep, Cleaned.AreSteps, Cleaned.is_text, Cleaned.stripped, Shown.run_as, Shown.shown, Shown.shown_text, Sets.as_read}
use Rattle.csicodec_clean.specs.{Sets.first_reading}
use Rattle.csicodec_html.specs.Rule.{behind_byte}
use Rattle.csicodec_looks.specs.{Paint.same, contracts.look.LookEq.TheImpl.Laws.laws-law}
use Rattle.bstr.specs.Utf8.{lossy_chars}
use Rattle.csicodec_spans.specs.{declared.table.Kind.Kind, Parts.Part, declared.table.Mode.Mode}
use Rattle.csicodec_clean.proofs.{Plain.encoded_on, Paired.safe_string, Paired.stays, Paired.none_begun}
use Rattle.csicodec_terminal.proofs.Unique.{taken_once}
use Rattle.csicodec_spans.proofs.Once.{whole_once}

-- ---- Links, one after the other, and where text leads behind them.

switches_on : (m : Markup) (l : Look) (to : List ℕ) (xs ys : List Address) → switches m l to (xs ++ ys) ≡ switches m l to xs ++ switches m l (led_by to xs) ys
switches_on m l to [] ys = refl
switches_on m l to (a ∷ xs) ys =
    let mid = a.url in
    ap (λ t. switch m l to mid ++ t) (switches_on m l mid xs ys) ∙ sym (append_assoc (switch m l to mid) (switches m l mid xs) (switches m l (led_by mid xs) ys))

led_on : (to : List ℕ) (xs ys : List Address) → led_by to (xs ++ ys) ≡ led_by (led_by to xs) ys
led_on to [] ys = refl
led_on to (a ∷ xs) ys = led_on a.url xs ys

-- ---- a byte of a control string

-- the link that is over with it
over_text : (m : Markup) (l : Look) (to : List ℕ) (b : Begun) (c : ℕ)
    → pieces_bytes (if ends_at b.place c then switch m l to (led b.address.url) else []) ≡ pieces_bytes (switches m l to (links_at true b c))
over_text m l to b c = grind (arith, append-nil {A = Piece})

over_to : (to : List ℕ) (b : Begun) (c : ℕ) → (if ends_at b.place c then led b.address.url else to) ≡ led_by to (links_at true b c)
over_to to b c = grind arith

-- where links pass, what becomes of it
pub byte_gives : (m : Markup) (l : Looks) (to after : List ℕ) (b new : Begun) (c : ℕ) → m.links ≡ true
    → after ≡ (if ends_at b.place c then led b.address.url else to) → new ≡ behind b c
    → turns.byte (setting m l to b) c (pieces_bytes (if ends_at b.place c then switch m l.look to (led b.address.url) else [])) (setting m l after new)
byte_gives m l to after b new c pass leads here = (
  over_text m l.look to b c ∙ ap (λ (p : Bool). pieces_bytes (switches m l.look to (links_at p b c))) (sym pass),
  ap (λ (t : List ℕ). setting m l t new) (leads ∙ over_to to b c ∙ ap (λ (p : Bool). led_by to (links_at p b c)) (sym pass))
      ∙ ap (λ (n : Begun). setting m l (led_by to (links_at m.links b c)) n) (here ∙ ap (λ (p : Bool). next p b c) (sym pass)),
)

-- ---- a control string

-- what the rule gives for it, byte by byte
pub given : (bytes : List ℕ) (s after : Setting) (text : List ℕ) → AreGiven turns s bytes text after
    → (text ≡ pieces_bytes (switches s.markup s.looks.look s.to (links_in s.markup.links s.begun bytes))) × (after ≡ behind_string s bytes)
given [] s after text h = h
given (c ∷ bytes) s after text (first, mid, others, here, e, rest) =
    let r = given bytes (behind_byte s c) after others (rw here.1 at rest) in
    (rw (e, here.0, r.0, switches_on s.markup s.looks.look s.to (links_at s.markup.links s.begun c)) (simp flat_map-append), rw (r.1, led_on) refl)

-- where links don't pass, a byte gives nothing
pub gives_none : (s : Setting) (c : ℕ) → s.markup.links ≡ false → turns.byte s c [] s
gives_none s c e = rw e (refl, refl)

-- nothing is found
pub none_is : (o : Option Effect) (t : Bool) → is_some o ≡ not t → t ≡ true → o ≡ None
none_is None t h e = refl
none_is (Some x) t h e = absurd (false≢true (sym (h ∙ ap not e)))

-- an escape sequence that does nothing to how text looks gives nothing
pub escape_none : (s : Setting) (bytes : List ℕ) → escape_effect bytes ≡ None → turns.escape s bytes [] s
escape_none s bytes e =
    let l = s.looks.look in
    rw e (refl, ap (λ (t : Bool). piece_texts (turn s.markup (not t) l l)) (sym (laws-law.refl l)))

-- and what it gives for any other
pub escape_given : (s : Setting) (bytes : List ℕ) (new : Looks) (comes : Bool) → new ≡ behind_effect s.looks (escape_effect bytes)
    → comes ≡ (sets (escape_effect bytes) || not (same s.looks.look new.look))
    → turns.escape s bytes (piece_texts (turn s.markup comes s.looks.look new.look)) (setting s.markup new s.to s.begun)
escape_given s bytes new comes behind turns = (ap (λ (l : Looks). setting s.markup l s.to s.begun) behind, rw (turns, behind) refl)

-- ---- what the rule leaves

abbrev run_text : List ℕ → List ℕ
run_text = run_as turns.writing

chars_text : (cs : List ℕ) → piece_texts (map Char cs) ≡ flat_map escaped cs
chars_text [] = refl
chars_text (c ∷ cs) = ap (λ (t : List ℕ). escaped c ++ t) (chars_text cs)

-- what a step of the rule gives is the text of what its part leaves
record Step (k : Kind) (s mid : Setting) (run bytes first next : List ℕ) : Type 0 where
  own : List Piece
  leaves : Leaves s k bytes own mid
  text : (others : List Piece) → piece_texts (pieces_behind k run ++ (own ++ others)) ≡ first ++ piece_texts others
  next_run : next ≡ run_behind k run bytes

-- where it ends the run
ended : (run first given : List ℕ) (own others : List Piece) → first ≡ run_text run ++ given → piece_texts own ≡ given → piece_texts (shown_pieces run ++ (own ++ others)) ≡ first ++ piece_texts others
ended run first given own others e same = rw (e, ← same) (simp (append_assoc, flat_map-append, chars_text))

step : (k : Kind) (s mid : Setting) (run bytes first next : List ℕ) → IsWithin s.begun.address → IsStep turns k s run bytes first mid next → Step k s mid run bytes first next
step Kind.Text s mid run bytes first next h (none, same, on) = record { own = []; leaves = (refl, same); text = λ others. rw none refl; next_run = on }
step Kind.Csi s mid run bytes first next h (given, (actions, is, behind, e), made, none) =
    let own = turned s (sets_any actions) (behind_all s.looks actions) in
    record { own = own; leaves = (actions, is, behind, refl); text = λ others. ended run first given own others made (sym e); next_run = none }
step Kind.Esc s mid run bytes first next h (given, (behind, e), made, none) =
    let own = turned s (sets (escape_effect bytes)) (behind_effect s.looks (escape_effect bytes)) in
    record { own = own; leaves = (refl, behind); text = λ others. ended run first given own others made (sym e); next_run = none }
step Kind.Str s mid run bytes first next h (out, gives, made, none) =
    let own = switches s.markup s.looks.look s.to (links_in s.markup.links s.begun bytes) in
    let g = given bytes s mid out gives in
    let stands = pieces s.markup own (safe_string s.markup s.looks.look s.to s.begun bytes h) in
    record { own = own; leaves = (refl, g.1); text = λ others. ended run first out own others made (sym (g.0 ∙ stands)); next_run = none }
step _ s mid run bytes first next h i =
    record { own = []; leaves = (refl, i.1); text = λ others. ended run first [] [] others (i.0 ∙ sym (append-nil (run_text run))) refl; next_run = i.2 }

left_of : (parts : List Part) (s after : Setting) (run text last : List ℕ) → IsWithin s.begun.address → AreSteps turns s run parts text after last
    → (pieces : List Piece) × AreLeft s run parts pieces × ((text ++ run_text last) ++ piece_texts (closing after) ≡ piece_texts pieces)
left_of [] s after run text last h (none, same, e) = (shown_pieces run ++ closing s, refl, rw (none, same, e) (simp (flat_map-append, chars_text)))
left_of (p ∷ parts) s after run text last h (first, mid, next, others, is, e, rest) =
    let x = step p.kind s mid run p.bytes first next h is in
    let (pieces, left, all) = left_of parts mid after next others last (stays s mid p.kind p.bytes x.own h x.leaves).1 rest in
    let here = subst (λ (y : List ℕ). AreLeft mid y parts pieces) x.next_run left in
    (pieces_behind p.kind run ++ (x.own ++ pieces), (x.own, mid, pieces, x.leaves, refl, here), rw (e, x.text pieces, ← all) (simp append_assoc))

-- it is the page
pub page_of : (m : Markup) (s : Setting) (bytes page : List ℕ) → s ≡ first_set m → Ends turns closes longest s bytes page → PageWith m bytes page
page_of m s bytes page starts h =
    let e : Ends turns closes longest (first_set m) bytes page = rw starts at h in
    let (pieces, left, shown) = left_of (as_read first_reading e.parts) (first_set m) e.after [] e.before e.run none_begun e.steps in
    record {
      parts = e.parts;
      whole = e.whole;
      pieces = pieces;
      left = left;
      all = e.all ∙ ap (λ (t : List ℕ). e.before ++ (run_text e.run ++ t)) e.closes ∙ sym
          (append_assoc e.before (run_text e.run) (piece_texts (closing e.after))) ∙ shown;
    }

-- ---- the text

chars_both : (xs ys : List Piece) → chars_of (xs ++ ys) ≡ chars_of xs ++ chars_of ys
chars_both [] ys = refl
chars_both (Char c ∷ xs) ys = ap (λ (t : List ℕ). c ∷ t) (chars_both xs ys)
chars_both (_ ∷ xs) ys = chars_both xs ys

chars_chars : (cs : List ℕ) → chars_of (map Char cs) ≡ cs
chars_chars [] = refl
chars_chars (c ∷ cs) = ap (λ (t : List ℕ). c ∷ t) (chars_chars cs)

-- tags have none
abbrev IsBare : List Piece → Type 0
IsBare ps = chars_of ps ≡ []

bare_turn : (m : Markup) (comes : Bool) (old new : Look) → IsBare (turn m comes old new)
bare_turn m comes old new = grind (arith, chars_both)

bare_turned : (s : Setting) (comes : Bool) (new : Looks) → IsBare (turned s comes new)
bare_turned s comes new = bare_turn s.markup (comes || not (same s.looks.look new.look)) s.looks.look new.look

bare_closing : (s : Setting) → IsBare (closing s)
bare_closing s = grind (arith, chars_both)

bare_switch : (m : Markup) (l : Look) (old new : List ℕ) → IsBare (switch m l old new)
bare_switch m l old new = grind (arith, chars_both)

bare_switches : (m : Markup) (l : Look) (to : List ℕ) (links : List Address) → IsBare (switches m l to links)
bare_switches m l to [] = refl
bare_switches m l to (a ∷ links) = rw (chars_both (switch m l to a.url) (switches m l a.url links), bare_switch m l to a.url) (bare_switches m l a.url links)

bare_leaves : (s after : Setting) (k : Kind) (bytes : List ℕ) (own : List Piece) → Leaves s k bytes own after → IsBare own
bare_leaves s after Kind.Csi bytes own (actions, isof, behind, e) = ap chars_of e ∙ bare_turned s (sets_any actions) (behind_all s.looks actions)
bare_leaves s after Kind.Esc bytes own (e, behind) = ap chars_of e ∙ bare_turned s (sets (escape_effect bytes)) (behind_effect s.looks (escape_effect bytes))
bare_leaves s after Kind.Str bytes own (e, behind) = ap chars_of e ∙ bare_switches s.markup s.looks.look s.to (links_in s.markup.links s.begun bytes)
bare_leaves s after _ bytes own h = ap chars_of h.0

abbrev text_of : List Piece → List ℕ
text_of ps = encode_utf8_all (chars_of ps)

-- a run of text, what a part leaves, and the others
text_part : (s after : Setting) (k : Kind) (run bytes : List ℕ) (own others : List Piece) → Leaves s k bytes own after
    → text_of (shown_pieces run ++ (own ++ others)) ≡ shown_text run ++ text_of others
text_part s after k run bytes own others leaves = simp (chars_both, chars_chars, bare_leaves s after k bytes own leaves, encoded_on)

text_left : (parts : List Part) (s : Setting) (run : List ℕ) (ps : List Piece) → AreLeft s run parts ps → text_of ps ≡ stripped run parts
text_left [] s run ps h =
    let cs = filter shown (lossy_chars run) in
    ap encode_utf8_all (ap chars_of h ∙ chars_both (shown_pieces run) (closing s) ∙ ap (λ (t : List ℕ). t ++ chars_of (closing s)) (chars_chars cs)
    ∙ ap (λ (t : List ℕ). cs ++ t) (bare_closing s) ∙ append-nil cs)
text_left (p ∷ parts) s run ps (own, after, others, leaves, e, rest) =
    ap text_of e ∙ by p.kind leaves (text_left parts after (run_behind p.kind run p.bytes) others rest)
  where
    by : (k : Kind) → Leaves s k p.bytes own after → text_of others ≡ stripped (run_behind k run p.bytes) parts
        → text_of (pieces_behind k run ++ (own ++ others)) ≡ (if is_text k then stripped (run ++ p.bytes) parts else shown_text run ++ stripped [] parts)
    by Kind.Text h r = ap text_of (ap (λ (t : List Piece). t ++ others) h.0) ∙ r
    by k h r = text_part s after k run p.bytes own others h ∙ ap (λ (t : List ℕ). shown_text run ++ t) r

pub text_stays : (m : Markup) (bytes page text : List ℕ) (p : PageWith m bytes page) → Strips longest bytes text → text ≡ text_of p.pieces
text_stays m bytes page text p s =
    s.left ∙ ap (λ (ps : List Part). stripped [] (as_read first_reading ps)) (whole_once longest Mode.Text bytes s.parts p.parts s.whole p.whole)
    ∙ sym (text_left (as_read first_reading p.parts) (first_set m) [] p.pieces p.left)

-- ---- one page

leaves_once : (s one other : Setting) (k : Kind) (bytes : List ℕ) (xs ys : List Piece) → Leaves s k bytes xs one → Leaves s k bytes ys other
    → (xs ≡ ys) × (one ≡ other)
leaves_once s one other Kind.Csi bytes xs ys (actions, isof, e, made) (again, isof', f, made') =
    rw (made, made', e, f, taken_once bytes actions again isof isof') (refl, refl)
leaves_once s one other _ bytes xs ys h k = (h.0 ∙ sym k.0, h.1 ∙ sym k.1)

left_once : (parts : List Part) (s : Setting) (run : List ℕ) (xs ys : List Piece) → AreLeft s run parts xs → AreLeft s run parts ys → xs ≡ ys
left_once [] s run xs ys h k = h ∙ sym k
left_once (p ∷ parts) s run xs ys (own, after, others, leaves, e, rest) (own', after', others', leaves', f, rest') =
    let (same, settings) = leaves_once s after after' p.kind p.bytes own own' leaves leaves' in
    rw (e, f, same, left_once parts after' (run_behind p.kind run p.bytes) others others' (rw settings at rest) rest') refl

pub one_page : (m : Markup) (bytes page other : List ℕ) → PageWith m bytes page → PageWith m bytes other → page ≡ other
one_page m bytes page other p q =
    let same = whole_once longest Mode.Text bytes p.parts q.parts p.whole q.whole in
    let left = subst (λ (ps : List Part). AreLeft (first_set m) [] (as_read first_reading ps) p.pieces) same p.left in
    p.all ∙ ap piece_texts (left_once (as_read first_reading q.parts) (first_set m) [] p.pieces q.pieces left q.left) ∙ sym q.all
