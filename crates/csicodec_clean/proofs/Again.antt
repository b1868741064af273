-- What `clean` left has one reading and is left as it is, and what went out is a front of it.
use Rattle.std.proofs.Common.{◌≡◌, ℕ, Bool, true, false, cond, List, [], ◌∷◌, ◌++◌, map, encode_utf8, encode_utf8_all, refl, sym, ap, subst, ◌∙◌, append_assoc, append-nil, arith, filter, ◌==◌, not, flat_map, Option, None, Result}
use Rattle.csicodec_clean.proofs.Common.{and_from, and_parts, nat_tests, text, ReadsAlone, flat_map-append, map-append, AllByRecursion, all_scalars, IsScalar, scalar, lossy_chars, lossy_chars-encode, lossy_chars-nil, Address, Begun, IsLink, admitted, all_behind, begun, is_param, is_visible, link_body, link_text, links_at, links_in, next, start, Item, Shown, Style, Link, item_texts, shown_items, hides, Leaves, begun_behind, run_behind, items_behind, AreLeft, StylesIn, IsSafe, IsStyledIn, shown, shown_text, IsShown, with_titles, as_read, first_reading, first_sets, read_behind, Passing, reduced, Strips, stripped, is_text, longest, sgr_text, Action, Kind, Mode, Answer, Part, part, Allows, AreFirstParts, IsFirstPart, IsWhole, singles, opens, parts_more, parts_on, whole_once, cond_both, left_over, Sends, EndOf, RuleOf, AreSteps, Ends, drops, styles_of, links_of, ends_of, Keeping, first_kept, keeps, is_linked, chars_as, run_as, shown_chars, IsRead, Between, Closing, IsFrontOf, Takes, start_of, with_more, StreamsOne}
use Rattle.csicodec_clean.proofs.Plain.{encoded_on, scalars_on, all_both, all_weaker, one_char, still_char, steps_stripped, shown_read, written_none, read_more, read_none}
use Rattle.csicodec_clean.proofs.Styled.{each_in, none_in, safe_closed, styled, part_texts, step, texts_both, texts_chars}
use Rattle.csicodec_clean.proofs.{Linked.body_read, Linked.itself, Coded.piece, Coded.style_taken, Told.all_kept, Told.all_text, Told.whole_all, Chunks.ends}
use Rattle.csicodec_clean.proofs.{Streams.Ran, Streams.Went, Streams.one_ran, Drawn.as_read_on, Drawn.drawn_singles, Drawn.first_stays, Drawn.string_singles}
use Rattle.csicodec_clean.specs.Styled.{Rendition, closed, is_open, plain_rendition, rendition_in, spelled, styles_by, styles_in}
use Rattle.csicodec_clean.specs.{Saving.escape_effect, Sets.with_sets, Stream.Goes, declared.links.LinkState.LinkState}
use Rattle.csicodec_base.specs.declared.sgr.Sgr.{Sgr}
use Rattle.csicodec_terminal.proofs.Unique.{taken_once}
use Rattle.csicodec_spans.proofs.{Apart.said, Once.parts_front}
use Rattle.csicodec_actions.specs.Actions as action

-- ---- the parts of such a text

-- each byte of a character by itself, each style, and the beginning, each byte and the end of each link
abbrev parts_of : List Item → List Part
parts_of [] = []
parts_of (Shown c ∷ items) = singles Kind.Text (encode_utf8 c) ++ parts_of items
parts_of (Style s ∷ items) = part Kind.Csi (text (action.Sgr s)) ∷ parts_of items
parts_of (Link a ∷ items) = part Kind.Str (27 ∷ 93 ∷ []) ∷ (singles Kind.Str (link_body a) ++ part Kind.Str (27 ∷ 92 ∷ []) ∷ parts_of items)

style_first : (s : Sgr) (more : List ℕ) → ReadsAlone (action.Sgr s) false → hides s ≡ false
    → IsFirstPart longest Mode.Text (text (action.Sgr s) ++ more) (part Kind.Csi (text (action.Sgr s))) more Mode.Text
style_first s more r shown =
    let t = text (action.Sgr s) in
    let p = piece s r shown in
    (refl, subst (λ (f : Answer). Allows f longest (t ++ more) Kind.Csi t Mode.Text) (sym (opens Mode.Text (sgr_text s ++ more))) (p.0, p.1, refl))

-- a link opens an OSC, its bytes stay in it, and ST closes it
link_opens : (more : List ℕ) → IsFirstPart longest Mode.Text (27 ∷ 93 ∷ more) (part Kind.Str (27 ∷ 93 ∷ [])) more Mode.Osc
link_opens more = (refl, subst (λ (f : Answer). Allows f longest (27 ∷ 93 ∷ more) Kind.Str (27 ∷ 93 ∷ []) Mode.Osc) (sym (said 12 _ Mode.Text (27 ∷ 93 ∷ more) refl refl)) (refl, refl, refl))

link_closes : (more : List ℕ) → IsFirstPart longest Mode.Osc (27 ∷ 92 ∷ more) (part Kind.Str (27 ∷ 92 ∷ [])) more Mode.Text
link_closes more = (refl, subst (λ (f : Answer). Allows f longest (27 ∷ 92 ∷ more) Kind.Str (27 ∷ 92 ∷ []) Mode.Text) (sym (said 15 _ Mode.Osc (27 ∷ 92 ∷ more) refl refl)) (refl, refl, refl))

abbrev IsVisible : ℕ → Type 0
IsVisible b = is_visible b ≡ true

link_byte : (b : ℕ) (more : List ℕ) → IsVisible b → IsFirstPart longest Mode.Osc (b ∷ more) (part Kind.Str (b ∷ [])) more Mode.Osc
link_byte b more h = (refl, subst (λ (f : Answer). Allows f longest (b ∷ more) Kind.Str (b ∷ []) Mode.Osc) (sym (said 2 _ Mode.Osc (b ∷ more) refl (grind (arith, nat_tests)))) (refl, refl, refl))

link_bytes : (bs more : List ℕ) → AllByRecursion IsVisible bs → AreFirstParts longest Mode.Osc (bs ++ more) (singles Kind.Str bs) more Mode.Osc
link_bytes [] more h = (refl, refl)
link_bytes (b ∷ bs) more h = (bs ++ more, Mode.Osc, link_byte b (bs ++ more) h.0, link_bytes bs more h.1)

body_visible : (a : Address) → IsLink a → AllByRecursion IsVisible (link_body a)
body_visible a h = (refl, (refl, all_both IsVisible a.params (59 ∷ a.url) (all_weaker (λ b. is_param b ≡ true) IsVisible (λ b p. (and_parts (is_visible b) (not (b == 59)) p).0) a.params h.within.params) (refl, h.within.url)))

link_first : (a : Address) (more rest : List ℕ) (ps : List Part) (after : Mode) → IsLink a → AreFirstParts longest Mode.Text more ps rest after
    → AreFirstParts longest Mode.Text (link_text a ++ more) (part Kind.Str (27 ∷ 93 ∷ []) ∷ (singles Kind.Str (link_body a) ++ part Kind.Str (27 ∷ 92 ∷ []) ∷ ps)) rest after
link_first a more rest ps after h later =
    let body = link_body a in
    let end = 27 ∷ 92 ∷ more in
    let closes : AreFirstParts longest Mode.Osc end (part Kind.Str (27 ∷ 92 ∷ []) ∷ ps) rest after = (more, Mode.Text, link_closes more, later) in
    let inside = parts_on longest (singles Kind.Str body) (part Kind.Str (27 ∷ 92 ∷ []) ∷ ps) Mode.Osc (body ++ end) end rest Mode.Osc after (link_bytes body end (body_visible a h)) closes in
    subst (λ (t : List ℕ). AreFirstParts longest Mode.Text (27 ∷ 93 ∷ t) (part Kind.Str (27 ∷ 93 ∷ []) ∷ (singles Kind.Str body ++ part Kind.Str (27 ∷ 92 ∷ []) ∷ ps)) rest after)
    (sym (append_assoc body (27 ∷ 92 ∷ []) more)) (body ++ end, Mode.Osc, link_opens (body ++ end), inside)

first_parts : (d : Passing) (items : List Item) → AllByRecursion (IsSafe d) items → AreFirstParts longest Mode.Text (item_texts items) (parts_of items) [] Mode.Text
first_parts d [] h = (refl, refl)
first_parts d (Shown c ∷ items) h =
    let bs = encode_utf8 c in
    let more = item_texts items in
    parts_on longest (singles Kind.Text bs) (parts_of items) Mode.Text (bs ++ more) more [] Mode.Text Mode.Text
    (parts_more longest (singles Kind.Text bs) Mode.Text bs more [] Mode.Text (all_text longest bs (one_char c h.0.0))) (first_parts d items h.1)
first_parts d (Style s ∷ items) h = (item_texts items, Mode.Text, style_first s (item_texts items) h.0.1 h.0.0, first_parts d items h.1)
first_parts d (Link a ∷ items) h = link_first a (item_texts items) [] (parts_of items) Mode.Text h.0.1 (first_parts d items h.1)

whole_items : (d : Passing) (items : List Item) → AllByRecursion (IsSafe d) items → IsWhole longest Mode.Text (item_texts items) (parts_of items)
whole_items d items h = whole_all longest (item_texts items) (parts_of items) (first_parts d items h)

untitled_singles : (k : Kind) (bs : List ℕ) (ps : List Part) → with_titles false (singles k bs ++ ps) ≡ singles k bs ++ with_titles false ps
untitled_singles k [] ps = refl
untitled_singles Kind.Text (b ∷ bs) ps = ap (λ (x : List Part). part Kind.Text (b ∷ []) ∷ x) (untitled_singles Kind.Text bs ps)
untitled_singles k (b ∷ bs) ps = ap (λ (x : List Part). part k (b ∷ []) ∷ x) (untitled_singles k bs ps)

untitled : (items : List Item) → with_titles false (parts_of items) ≡ parts_of items
untitled [] = refl
untitled (Shown c ∷ items) = rw (untitled_singles Kind.Text (encode_utf8 c) (parts_of items), untitled items) refl
untitled (Style s ∷ items) = rw (untitled items) refl
untitled (Link a ∷ items) = rw (untitled_singles Kind.Str (link_body a) (part Kind.Str (27 ∷ 92 ∷ []) ∷ parts_of items), untitled items) refl

-- nor do the sets of what is cleaned change
undrawn : (d : Passing) (items : List Item) → AllByRecursion (IsSafe d) items → with_sets first_sets (parts_of items) ≡ parts_of items
undrawn d [] h = refl
undrawn d (Shown c ∷ items) h = rw (drawn_singles (encode_utf8 c) (parts_of items) (still_char c h.0.0), undrawn d items h.1) refl
undrawn d (Style s ∷ items) h = rw (first_stays (text (action.Sgr s)), undrawn d items h.1) refl
undrawn d (Link a ∷ items) h = rw (string_singles (link_body a) (part Kind.Str (27 ∷ 92 ∷ []) ∷ parts_of items), undrawn d items h.1) refl

as_is : (d : Passing) (items : List Item) → AllByRecursion (IsSafe d) items → as_read first_reading (parts_of items) ≡ parts_of items
as_is d items h = ap (with_sets first_sets) (untitled items) ∙ undrawn d items h

-- ---- characters that are shown

read_back : (cs : List ℕ) → all_scalars cs ≡ true → AllByRecursion IsShown cs → filter shown (lossy_chars (encode_utf8_all cs)) ≡ cs
read_back cs a h = ap (filter shown) (lossy_chars-encode cs a) ∙ all_kept cs h

more_scalars : (cs : List ℕ) (c : ℕ) → all_scalars cs ≡ true → IsScalar c → all_scalars (cs ++ c ∷ []) ≡ true
more_scalars cs c a h = scalars_on cs (c ∷ []) a (and_from (scalar c) true h refl)

more_encoded : (cs : List ℕ) (c : ℕ) → encode_utf8_all (cs ++ c ∷ []) ≡ encode_utf8_all cs ++ encode_utf8 c
more_encoded cs c = encoded_on cs (c ∷ []) ∙ ap (λ (t : List ℕ). encode_utf8_all cs ++ t) (append-nil (encode_utf8 c))

-- the characters of items
abbrev char_in : Item → List ℕ
char_in (Shown c) = c ∷ []
char_in _ = []

abbrev chars_of : List Item → List ℕ
chars_of items = flat_map char_in items

chars_both : (xs ys : List Item) → chars_of (xs ++ ys) ≡ chars_of xs ++ chars_of ys
chars_both xs ys = flat_map-append char_in xs ys

-- what a part leaves has no characters
leaves_chars : (d : Passing) (r : Rendition) (b : Begun) (k : Kind) (bytes : List ℕ) (own : List Item) (after : Rendition) → Leaves d r b k bytes own after → chars_of own ≡ []
leaves_chars d r b Kind.Csi bytes own after (actions, one, e, f) = ap chars_of e ∙ none_in char_in Style (λ s. refl) (styles_in d r actions)
leaves_chars d r b Kind.Esc bytes own after (e, f) = ap chars_of e ∙ none_in char_in Style (λ s. refl) (styles_by d r (escape_effect bytes))
leaves_chars d r b Kind.Str bytes own after (e, f) = ap chars_of e ∙ none_in char_in Link (λ a. refl) (links_in d.links b bytes)
leaves_chars d r b _ bytes own after l = ap chars_of l.0

chars_part : (run : List ℕ) (own others : List Item) → chars_of own ≡ [] → chars_of (shown_items run ++ (own ++ others)) ≡ filter shown (lossy_chars run) ++ chars_of others
chars_part run own others none = simp (chars_both, each_in char_in Shown (λ c. refl), none)

chars_closed : (items : List Item) → chars_of (closed items) ≡ chars_of items
chars_closed items = grind (arith, chars_both, append-nil {A = ℕ})

stripped_part : (k : Kind) (run bytes : List ℕ) (own others : List Item) (ps : List Part) → chars_of own ≡ [] → encode_utf8_all (chars_of others) ≡ stripped (run_behind k run bytes) ps
    → encode_utf8_all (chars_of (items_behind k run ++ (own ++ others))) ≡ cond (is_text k) (stripped (run ++ bytes) ps) (shown_text run ++ stripped [] ps)
stripped_part Kind.Text run bytes own others ps none rest = simp (chars_both, none) rest
stripped_part _ run bytes own others ps none rest = simp (chars_part run own others none, encoded_on, rest)

-- the characters that are left of parts are what is shown of them
left_stripped : (d : Passing) (r : Rendition) (b : Begun) (ps : List Part) (run : List ℕ) (items : List Item) → AreLeft d r b run ps items → encode_utf8_all (chars_of items) ≡ stripped run ps
left_stripped d r b [] run items e = ap (λ (xs : List Item). encode_utf8_all (chars_of xs)) e ∙ ap encode_utf8_all (each_in char_in Shown (λ c. refl) (filter shown (lossy_chars run)))
left_stripped d r b (p ∷ ps) run items (own, others, after, leaves, e, rest) =
    rw e (stripped_part p.kind run p.bytes own others ps (leaves_chars d r b p.kind p.bytes own after leaves)
    (left_stripped d after (begun_behind d b p.kind p.bytes) ps (run_behind p.kind run p.bytes) others rest))

-- ---- cleaned

pub leaves_once : (d : Passing) (r : Rendition) (b : Begun) (k : Kind) (bytes : List ℕ) (xs ys : List Item) (after other : Rendition) → Leaves d r b k bytes xs after → Leaves d r b k bytes ys other
    → (xs ≡ ys) × (after ≡ other)
leaves_once d r b Kind.Csi bytes xs ys after other (own, one, e, f) (others, two, g, h) =
    let same = taken_once bytes own others one two in
    (e ∙ ap (λ (x : List Action). map Style (styles_in d r x)) same ∙ sym g, f ∙ ap (rendition_in d r) same ∙ sym h)
leaves_once d r b _ bytes xs ys after other l m = (l.0 ∙ sym m.0, l.1 ∙ sym m.1)

left_once : (d : Passing) (r : Rendition) (b : Begun) (ps : List Part) (run : List ℕ) (xs ys : List Item) → AreLeft d r b run ps xs → AreLeft d r b run ps ys → xs ≡ ys
left_once d r b [] run xs ys e f = e ∙ sym f
left_once d r b (p ∷ ps) run xs ys (own, others, after, l, e, h) (same, more, other, m, f, k) =
    let (one, two) = leaves_once d r b p.kind p.bytes own same after other l m in
    rw (e, f, one, left_once d other (begun_behind d b p.kind p.bytes) ps (run_behind p.kind run p.bytes) others more (rw two at h) k) refl

pub one_styled : (d : Passing) (bytes text other : List ℕ) → StylesIn d bytes text → StylesIn d bytes other → text ≡ other
one_styled d bytes text other s t =
    let same = whole_once longest Mode.Text bytes s.parts t.parts s.whole t.whole in
    let left : AreLeft d plain_rendition start [] (as_read first_reading t.parts) s.items = subst (λ (ps : List Part). AreLeft d plain_rendition start [] (as_read first_reading ps) s.items) same s.left in
    s.all ∙ ap (λ (x : List Item). item_texts (closed x)) (left_once d plain_rendition start (as_read first_reading t.parts) [] s.items t.items left t.left) ∙ sym t.all

-- ---- such items are left of their texts

-- bytes of text by themselves
text_left : (d : Passing) (r : Rendition) (b : Begun) (bs run : List ℕ) (ps : List Part) (out : List Item) → AreLeft d r b (run ++ bs) ps out → AreLeft d r b run (singles Kind.Text bs ++ ps) out
text_left d r b [] run ps out h = subst (λ (x : List ℕ). AreLeft d r b x ps out) (append-nil run) h
text_left d r b (c ∷ bs) run ps out h =
    ([], out, r, (refl, refl), refl, text_left d r b bs (run ++ c ∷ []) ps out (subst (λ (x : List ℕ). AreLeft d r b x ps out) (sym (append_assoc run (c ∷ []) bs)) h))

none_items : shown_items [] ≡ []
none_items = ap (λ (cs : List ℕ). map Shown (filter shown cs)) lossy_chars-nil

-- and those of a string
string_left : (d : Passing) (r : Rendition) (b : Begun) (bs : List ℕ) (ps : List Part) (out : List Item) → AreLeft d r (all_behind d.links b bs) [] ps out
    → AreLeft d r b [] (singles Kind.Str bs ++ ps) (map Link (links_in d.links b bs) ++ out)
string_left d r b [] ps out h = h
string_left d r b (c ∷ bs) ps out h =
    let here = links_at d.links b c in
    let later = links_in d.links (next d.links b c) bs in
    let rest = string_left d r (next d.links b c) bs ps out h in
    (map Link (here ++ []), map Link later ++ out, r, (refl, refl), rw none_items (simp (map-append, append-nil, append_assoc)), rest)

abbrev letting : Passing → Bool → Passing
letting d links = record { depth = d.depth; links = links; restores = d.restores }

abbrev with_links : Passing → Passing
with_links d = letting d true

-- behind a link the same link is open, and no string
link_left : (d : Passing) (r : Rendition) (a : Address) (params url run : List ℕ) (ps : List Part) (out : List Item) → IsLink a → AreLeft (with_links d) r (begun LinkState.Outside a.params a.url) [] ps out
    → AreLeft (with_links d) r (begun LinkState.Outside params url) run (part Kind.Str (27 ∷ 93 ∷ []) ∷ (singles Kind.Str (link_body a) ++ part Kind.Str (27 ∷ 92 ∷ []) ∷ ps)) (shown_items run ++ Link a ∷ out)
link_left d r a params url run ps out fine h =
    let p = with_links d in
    let opened = begun LinkState.Opened params url in
    let end = part Kind.Str (27 ∷ 92 ∷ []) ∷ ps in
    let (none, behind) = body_read a params url fine.within in
    let last : AreLeft p r (begun LinkState.Url a.params a.url) [] end (Link a ∷ out) = (Link (admitted a) ∷ [], out, r, (refl, refl), rw (none_items, itself a fine) refl, h) in
    ([], Link a ∷ out, r, (refl, refl), refl, rw none at (string_left p r opened (link_body a) end (Link a ∷ out) (rw behind last)))

items_left : (d : Passing) (r : Rendition) (items : List Item) (params url cs : List ℕ) → all_scalars cs ≡ true → AllByRecursion IsShown cs → AllByRecursion (IsSafe d) items
    → AreLeft d r (begun LinkState.Outside params url) (encode_utf8_all cs) (parts_of items) (map Shown cs ++ items)
items_left d r [] params url cs a h safe = append-nil (map Shown cs) ∙ ap (map Shown) (sym (read_back cs a h))
items_left d r (Shown c ∷ items) params url cs a h safe =
    let (here, one) = safe.0 in
    let b = begun LinkState.Outside params url in
    let later = items_left d r items params url (cs ++ c ∷ []) (more_scalars cs c a one) (all_both IsShown cs (c ∷ []) h (here, tt)) safe.1 in
    let same : map Shown (cs ++ c ∷ []) ++ items ≡ map Shown cs ++ Shown c ∷ items = simp (map-append, append_assoc) in
    text_left d r b (encode_utf8 c) (encode_utf8_all cs) (parts_of items) (map Shown cs ++ Shown c ∷ items)
    (rw (more_encoded cs c, same) at later)
items_left d r (Style s ∷ items) params url cs a h safe =
    let (stays, alone, same) = safe.0 in
    let after = rendition_in d r (action.Sgr s ∷ []) in
    let one : map Style (styles_in d r (action.Sgr s ∷ [])) ≡ Style s ∷ [] = ap (λ (b : Bool). map Style (cond b [] (reduced d.depth s ∷ []) ++ [])) stays ∙ ap (λ (x : Sgr). Style x ∷ []) same in
    let run : map Shown cs ++ Style s ∷ items ≡ shown_items (encode_utf8_all cs) ++ Style s ∷ items = ap (λ (x : List ℕ). map Shown x ++ Style s ∷ items) (sym (read_back cs a h)) in
    (Style s ∷ [], items, after, (action.Sgr s ∷ [], style_taken s alone stays, sym one, refl), run, items_left d after items params url [] refl tt safe.1)
items_left d r (Link x ∷ items) params url cs a h safe =
    let (passes, fine) = safe.0 in
    let same : d ≡ with_links d = ap (letting d) passes in
    let b = begun LinkState.Outside params url in
    let run = encode_utf8_all cs in
    let rest = subst (λ (p : Passing). AreLeft p r (begun LinkState.Outside x.params x.url) [] (parts_of items) items) same (items_left d r items x.params x.url [] refl tt safe.1) in
    let all = link_left d r x params url run (parts_of items) items fine rest in
    subst (λ (p : Passing). AreLeft p r b run (parts_of (Link x ∷ items)) (map Shown cs ++ Link x ∷ items)) (sym same)
    (subst (λ (us : List ℕ). AreLeft (with_links d) r b run (parts_of (Link x ∷ items)) (map Shown us ++ Link x ∷ items)) (read_back cs a h) all)

whole_left : (d : Passing) (items : List Item) → AllByRecursion (IsSafe d) items → AreLeft d plain_rendition start [] (as_read first_reading (parts_of items)) items
whole_left d items safe = rw (as_is d items safe) (items_left d plain_rendition items [] [] [] refl tt safe)

pub styled_stays : (d : Passing) (text other : List ℕ) → IsStyledIn d text → StylesIn d text other → other ≡ text
styled_stays d text other i s = one_styled d text other text s (record {
  parts = parts_of i.items;
  whole = subst (λ (t : List ℕ). IsWhole longest Mode.Text t (parts_of i.items)) (sym i.texts) (whole_items d i.items i.safe);
  items = i.items;
  left = whole_left d i.items i.safe;
  all = rw (i.none_linked, i.none_open, append-nil i.items) i.texts;
})

pub styled_twice : (d : Passing) (bytes text other : List ℕ) → StylesIn d bytes text → StylesIn d text other → other ≡ text
styled_twice d bytes text other s t = styled_stays d text other (styled d bytes text s) t

pub strip_cleaned : (d : Passing) (bytes styles plain other : List ℕ) → StylesIn d bytes styles → Strips longest bytes plain → Strips longest styles other → other ≡ plain
strip_cleaned d bytes styles plain other s p t =
    let items = closed s.items in
    let safe = safe_closed d bytes styles s in
    let again : t.parts ≡ parts_of items =
    whole_once longest Mode.Text styles t.parts (parts_of items) t.whole (subst (λ (x : List ℕ). IsWhole longest Mode.Text x (parts_of items)) (sym s.all) (whole_items d items safe)) in
    let same : p.parts ≡ s.parts = whole_once longest Mode.Text bytes p.parts s.parts p.whole s.whole in
    t.left ∙ ap (λ (ps : List Part). stripped [] (as_read first_reading ps)) again ∙ sym (left_stripped d plain_rendition start (as_read first_reading (parts_of items)) [] items (whole_left d items safe))
    ∙ ap encode_utf8_all (chars_closed s.items) ∙ left_stripped d plain_rendition start (as_read first_reading s.parts) [] s.items s.left
    ∙ ap (λ (ps : List Part). stripped [] (as_read first_reading ps)) (sym same) ∙ sym p.left

-- ---- What went out is a front of the text of the whole stream, whatever comes behind.

-- the text begins with another
abbrev pub GoesOnFrom : List ℕ → List ℕ → Type 0
GoesOnFrom text front = (more : List ℕ) × (text ≡ front ++ more)

further : (text front other : List ℕ) → GoesOnFrom text front → GoesOnFrom (text ++ other) front
further text front other (more, e) = (more ++ other, ap (λ (t : List ℕ). t ++ other) e ∙ append_assoc front more other)

-- bytes more in the run, and nothing more read of it
read_longer : (run chars rest bytes : List ℕ) → IsRead run chars rest → IsRead (run ++ bytes) chars (rest ++ bytes)
read_longer run chars rest bytes h =
    subst (λ (cs : List ℕ). IsRead (run ++ bytes) cs (rest ++ bytes)) (append-nil chars) (read_more run rest bytes (rest ++ bytes) chars [] h (read_none (rest ++ bytes)))

run_begins : (run chars rest : List ℕ) → IsRead run chars rest → GoesOnFrom (shown_text run) (shown_chars chars)
run_begins run chars rest h = (shown_text rest, shown_read None run chars rest h)

-- ---- stripped

stripped_begins : (ps : List Part) (run chars rest : List ℕ) → IsRead run chars rest → GoesOnFrom (stripped run ps) (shown_chars chars)
stripped_begins [] run chars rest h = run_begins run chars rest h
stripped_begins (p ∷ ps) run chars rest h =
    cond_both (is_text p.kind) (stripped (run ++ p.bytes) ps) (shown_text run ++ stripped [] ps) (λ (t : List ℕ). GoesOnFrom t (shown_chars chars))
    (λ _. stripped_begins ps (run ++ p.bytes) chars (rest ++ p.bytes) (read_longer run chars rest p.bytes h))
    (λ _. further (shown_text run) (shown_chars chars) (stripped [] ps) (run_begins run chars rest h))

-- ---- the parts that come behind those that were taken

behind : {S : Type 0} (Gives : RuleOf S) (s : S) (read more text : List ℕ) (last : Between S) (all : List Part)
    (g : Goes Gives longest [] [] (with_more (start_of s) read) text last)
    → IsWhole longest Mode.Text (read ++ more) all → (later : List Part) × (as_read first_reading all ≡ as_read first_reading g.parts ++ later)
behind Gives s read more text last all g w =
    let (others, e) =
    parts_front longest g.parts w.sure Mode.Text (read ++ more) (last.bytes ++ more) w.rest last.mode w.after
    (parts_more longest g.parts Mode.Text read more last.bytes last.mode g.first) w.first w.unsure in
    let qs = others ++ left_over w.rest in
    let parts : all ≡ g.parts ++ qs = w.whole ∙ ap (λ (x : List Part). x ++ left_over w.rest) e ∙ append_assoc g.parts others (left_over w.rest) in
    (as_read (read_behind first_reading g.parts) qs, ap (as_read first_reading) parts ∙ as_read_on first_reading g.parts qs)

-- what was appended, and the characters of the run that were read, are those of the parts
goes_front : {S : Type 0} (Gives : RuleOf S) (s : S) (read text : List ℕ) (last : Between S) (rest whole : List ℕ)
    (g : Goes Gives longest [] [] (with_more (start_of s) read) text last)
    → whole ≡ g.text ++ rest → GoesOnFrom rest (chars_as Gives.writing g.read) → GoesOnFrom whole text
goes_front Gives s read text last rest whole g e (more, f) =
    (more, rw (e, f, ← append_assoc, ← g.same, written_none Gives.writing) refl)

module _ {S : Type 0} where
  pub strip_front : (s : S) (read more text : List ℕ) (last : Between S) → Takes drops (start_of s) read text last → IsFrontOf (Strips longest) (read ++ more) text
  strip_front s read more text last h whole k =
      let g = h.goes [] [] (read_none []) in
      let (later, split) = behind drops s read more text last k.parts g k.whole in
      let parts : whole ≡ g.text ++ stripped g.left later =
      k.left ∙ ap (stripped []) split ∙ steps_stripped (as_read first_reading g.parts) later s last.rule [] g.text g.left g.steps in
      goes_front drops s read text last (stripped g.left later) whole g parts (stripped_begins later g.left g.read last.held g.is_read)

-- ---- with styles

part_begins : (d : Passing) (r : Rendition) (b : Begun) (k : Kind) (run bytes chars rest : List ℕ) (own others : List Item) (after : Rendition) → Leaves d r b k bytes own after
    → IsRead run chars rest → ((cs more : List ℕ) → IsRead (run_behind k run bytes) cs more → GoesOnFrom (item_texts others) (shown_chars cs))
    → GoesOnFrom (item_texts (items_behind k run ++ (own ++ others))) (shown_chars chars)
part_begins d r b Kind.Text run bytes chars rest own others after (none, same) h later = rw none (later chars (rest ++ bytes) (read_longer run chars rest bytes h))
part_begins d r b _ run bytes chars rest own others after l h later =
    rw part_texts (further (shown_text run) (shown_chars chars) (item_texts own ++ item_texts others) (run_begins run chars rest h))

left_begins : (d : Passing) (r : Rendition) (b : Begun) (ps : List Part) (run chars rest : List ℕ) (items : List Item) → IsRead run chars rest
    → AreLeft d r b run ps items → GoesOnFrom (item_texts items) (shown_chars chars)
left_begins d r b [] run chars rest items h e =
    rw (e, texts_chars (filter shown (lossy_chars run))) (run_begins run chars rest h)
left_begins d r b (p ∷ ps) run chars rest items h (own, others, after, leaves, e, left) =
    subst (λ (x : List Item). GoesOnFrom (item_texts x) (shown_chars chars)) (sym e)
    (part_begins d r b p.kind run p.bytes chars rest own others after leaves h (λ cs more i. left_begins d after (begun_behind d b p.kind p.bytes) ps (run_behind p.kind run p.bytes) cs more others i left))

steps_left : (ps qs : List Part) (k after : Keeping) (r : Rendition) (run text last : List ℕ) (items : List Item) → k.rendition ≡ spelled r → AreSteps keeps k run ps text after last
    → AreLeft k.passing r k.begun run (ps ++ qs) items
    → (others : List Item) × (now : Rendition) × (begun : Begun) × AreLeft k.passing now begun last qs others × (item_texts items ≡ text ++ item_texts others)
steps_left [] qs k after r run text last items of (none, same, e) l = (items, r, k.begun, rw e l, rw none refl)
steps_left (p ∷ ps) qs k after r run text last items of (first, mid, next, more, is, e, rest) (own, others, behind, leaves, f, l) =
    let h = step p.kind k r mid run p.bytes first next of is in
    let (same, state) = leaves_once k.passing r k.begun p.kind p.bytes own h.own behind h.after leaves h.leaves in
    let here = subst (λ (x : Rendition). AreLeft k.passing x (begun_behind k.passing k.begun p.kind p.bytes) (run_behind p.kind run p.bytes) (ps ++ qs) others) state l in
    let there = subst (λ (x : Keeping). AreLeft x.passing h.after x.begun (run_behind p.kind run p.bytes) (ps ++ qs) others) (sym h.state) here in
    let (later, now, begun, left, all) =
    steps_left ps qs mid after h.after next more last others (ap (λ (x : Keeping). x.rendition) h.state) rest
    (subst (λ (y : List ℕ). AreLeft mid.passing h.after mid.begun y (ps ++ qs) others) (sym h.next_run) there) in
    let stays = subst (λ (d : Passing). AreLeft d now begun last qs later) (ap (λ (x : Keeping). x.passing) h.state) left in
    let shown = ap (λ (x : List Item). item_texts (items_behind p.kind run ++ (x ++ others))) same ∙ h.text others in
    (later, now, begun, stays, rw (f, shown, all, e) (simp append_assoc))

pub clean_front : (d : Passing) (read more text : List ℕ) (last : Between Keeping) → Takes keeps (start_of (first_kept d)) read text last
    → IsFrontOf (StylesIn d) (read ++ more) text
clean_front d read more text last h whole k =
    let g = h.goes [] [] (read_none []) in
    let (later, split) = behind keeps (first_kept d) read more text last k.parts g k.whole in
    let (others, now, begun, left, all) =
    steps_left (as_read first_reading g.parts) later (first_kept d) last.rule plain_rendition [] g.text g.left k.items refl g.steps (rw split at k.left) in
    let end = item_texts (ends_of (is_linked false (links_of k.items)) (is_open false (styles_of k.items))) in
    goes_front keeps (first_kept d) read text last (item_texts others ++ end) whole g
    (rw (k.all, texts_both k.items _, all) (append_assoc g.text (item_texts others) end))
    (further (item_texts others) (shown_chars g.read) end (left_begins d now begun later g.left g.read last.held others g.is_read left))

-- ---- from a reader to a writer

-- a run of a cleaner, by a rule whose text is one and is that of each stream, and that what it appends begins
pub rule_ran : {S : Type 0} (Gives : RuleOf S) (Closes : EndOf S) (s : S) (Out : List ℕ → List ℕ → Type 0) (Safe : List ℕ → Type 0)
    → ((bytes text : List ℕ) → Ends Gives Closes longest s bytes text → Out bytes text) → ((after : S) → (close : List ℕ) × Closes after close)
    → ((bytes text : List ℕ) → Out bytes text → Safe text) → ((bytes text other : List ℕ) → Out bytes text → Out bytes other → text ≡ other)
    → ((read more text : List ℕ) (last : Between S) → Takes Gives (start_of s) read text last → IsFrontOf Out (read ++ more) text)
    → {A E : Type 0} (result : Result A E) (i k w y : Option (List ℕ)) → Ran (Sends (Takes Gives) (start_of s)) (Ends Gives Closes longest s) Out Safe result i k w y
    → Went (Sends (Takes Gives) (start_of s)) (Ends Gives Closes longest s) Out Safe result i k w y → StreamsOne Out Safe result i k w y
rule_ran Gives Closes s Out Safe means always safe =
    one_ran (Takes Gives) (Closing Gives Closes) (start_of s) (Ends Gives Closes longest s) Out Safe
    (λ bytes text rest last takes (close, closes, shown). rw shown (means bytes _ (ends Gives Closes s bytes text close last takes closes))) means
    (λ last. (let (close, closes) = always last.rule in (run_as Gives.writing last.held ++ close, (close, closes, refl)))) safe
