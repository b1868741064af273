-- Each link that passes stood in the stream.
use Rattle.std.proofs.Common.{◌≡◌, ◌⊎◌, ℕ, Bool, true, false, List, [], ◌∷◌, ◌++◌, length-append, refl, sym, ap, subst, ◌∙◌, inl, inr, append_assoc, append-nil, arith, ◌==◌, filter, if◌then◌else◌, Contains, flat_map}
use Rattle.std.proofs.{lemmas.Bool.both_ways, lemmas.List.Elements.Contains-append_right}
use Rattle.csicodec_clean.proofs.Common.{nat_tests, flat_map-append, AllByRecursion, lossy_chars, Kind, Mode, Part, part, bytes_of, AreFirstParts, IsFirstPart, left_over, fit, Address, Begun, IsWithin, admitted, all_behind, begun, behind_at, ends_at, link_body, links_in, start, Item, Link, Shown, Style, Leaves, begun_behind, run_behind, items_behind, AreLeft, link_in, links_of, StylesIn, LinkState, Passing, longest, shown, read_as, title_behind, with_titles, as_read, first_reading, first_sets}
use Rattle.csicodec_clean.proofs.{Linked.behind_on, Linked.links_none, Linked.links_on, Linked.passes, Plain.all_both, Styled.each_in, Styled.none_in}
use Rattle.csicodec_clean.proofs.{Styled.part_links, Titles.whole_each}
use Rattle.csicodec_spans.proofs.Agrees.{IsPiece, in_string, is_str}
use Rattle.csicodec_clean.specs.{Sets.behind as past, Sets.drawn, Sets.with_sets, declared.reading.Sets.Sets, Styled.Rendition, Styled.plain_rendition}
use Rattle.csicodec_clean.specs.{Links.IsAdmitted, Links.Spells, Links.Stood, Links.StoodIn, Links.behind, Links.opened}

-- ---- what of a link has been read

abbrev read_of : LinkState → List ℕ → List ℕ → List ℕ
read_of LinkState.Outside params url = []
read_of LinkState.Escape params url = 27 ∷ []
read_of LinkState.Opened params url = 27 ∷ 93 ∷ []
read_of LinkState.Eight params url = 27 ∷ 93 ∷ 56 ∷ []
read_of LinkState.Params params url = 27 ∷ 93 ∷ 56 ∷ 59 ∷ params
read_of LinkState.Url params url = 27 ∷ 93 ∷ 56 ∷ 59 ∷ (params ++ 59 ∷ url)
read_of LinkState.Ending params url = 27 ∷ 93 ∷ 56 ∷ 59 ∷ ((params ++ 59 ∷ url) ++ 27 ∷ [])

abbrev read : Begun → List ℕ
read b = read_of b.place b.address.params b.address.url

abbrev address : List ℕ → List ℕ → Address
address params url = record { params = params; url = url }

-- with the byte that ends it, it is the link
over_at : (p : LinkState) (params url : List ℕ) (c : ℕ) → ends_at p c ≡ true → Spells (read_of p params url ++ c ∷ []) (address params url)
over_at p params url c e = grind (arith, nat_tests, append_assoc {A = ℕ})

-- ---- what a piece makes of what was read

-- behind whole pieces it doesn't end in ESC
abbrev IsAtRest : LinkState → Type 0
IsAtRest LinkState.Escape = ⊥
IsAtRest LinkState.Ending = ⊥
IsAtRest _ = Unit {0}

-- one byte more, or nothing any more
abbrev GoesOnBy : List ℕ → List ℕ → Begun → Type 0
GoesOnBy old bytes after = IsAtRest after.place × ((read after ≡ old ++ bytes) ⊎ (read after ≡ []))

on_at : (p : LinkState) (params url : List ℕ) (c : ℕ) → IsAtRest p → (c == 27) ≡ false → GoesOnBy (read_of p params url) (c ∷ []) (behind_at p params url c)
on_at p params url c rest e = grind (arith, nat_tests, append_assoc {A = ℕ})

opened_rest : (params url : List ℕ) (c : ℕ) → GoesOnBy [] (27 ∷ c ∷ []) (begun (opened c) params url)
opened_rest params url c = grind (arith, nat_tests)

-- ---- byte by byte

-- it stands at the end of the bytes
abbrev EndsWith : List ℕ → Begun → Type 0
EndsWith bytes b = (before : List ℕ) × (bytes ≡ before ++ read b)

-- behind a byte it is all of it, that byte, or nothing
rest_at : (p : LinkState) (params url : List ℕ) (c : ℕ) → IsAtRest p → (read (behind_at p params url c) ≡ read_of p params url ++ c ∷ [])
    ⊎ ((read (behind_at p params url c) ≡ c ∷ []) ⊎ (read (behind_at p params url c) ≡ []))
rest_at p params url c rest = grind (arith, nat_tests, append_assoc {A = ℕ})

ends_by : (front : List ℕ) (c : ℕ) (b : Begun) → (read b ≡ front ++ c ∷ []) ⊎ ((read b ≡ c ∷ []) ⊎ (read b ≡ [])) → EndsWith (front ++ c ∷ []) b
ends_by front c b (inl e) = ([], sym e)
ends_by front c b (inr (inl e)) = (front, ap (λ (t : List ℕ). front ++ t) (sym e))
ends_by front c b (inr (inr e)) = (front ++ c ∷ [], sym (append-nil (front ++ c ∷ [])) ∙ ap (λ (t : List ℕ). (front ++ c ∷ []) ++ t) (sym e))

escape_at : (params url : List ℕ) (c : ℕ) → EndsWith (27 ∷ c ∷ []) (begun (opened c) params url)
escape_at params url c = ends_by (27 ∷ []) c (begun (opened c) params url) (grind (arith, nat_tests))

byte_at : (p : LinkState) (params url : List ℕ) (c : ℕ) → EndsWith (read_of p params url ++ c ∷ []) (behind_at p params url c)
byte_at LinkState.Escape params url c = escape_at params url c
byte_at LinkState.Ending params url c =
    let front = 27 ∷ 93 ∷ 56 ∷ 59 ∷ (params ++ 59 ∷ url) in
    let (before, e) = escape_at params url c in
    (front ++ before, append_assoc front (27 ∷ []) (c ∷ []) ∙ ap (λ (t : List ℕ). front ++ t) e ∙ sym (append_assoc front before (read (begun (opened c) params url))))
byte_at p params url c = ends_by (read_of p params url) c (behind_at p params url c) (rest_at p params url c tt)

byte_more : (bytes : List ℕ) (b : Begun) (c : ℕ) → EndsWith bytes b → EndsWith (bytes ++ c ∷ []) (behind b c)
byte_more bytes b c (before, e) =
    let (dropped, f) = byte_at b.place b.address.params b.address.url c in
    (before ++ dropped, ap (λ (t : List ℕ). t ++ c ∷ []) e ∙ append_assoc before (read b) (c ∷ []) ∙ ap (λ (t : List ℕ). before ++ t) f ∙ sym (append_assoc before dropped (read (behind b c))))

stood_at : (done later all : List ℕ) (b : Begun) (c : ℕ) → all ≡ done ++ (c ∷ later) → EndsWith done b → ends_at b.place c ≡ true → Stood all b.address
stood_at done later all b c whole (before, e) over = record {
  before = before;
  own = read b ++ c ∷ [];
  rest = later;
  whole = whole ∙ ap (λ (t : List ℕ). t ++ c ∷ later) e ∙ append_assoc before (read b) (c ∷ later) ∙ ap (λ (t : List ℕ). before ++ t) (sym (append_assoc (read b) (c ∷ []) later));
  link = over_at b.place b.address.params b.address.url c over;
}

-- what passes of the link that is over, where one is, and of the others
if_over : (P : Address → Type 0) (over : Bool) (a : Address) (more : List Address) → (over ≡ true → P a) → AllByRecursion (IsAdmitted P) more
    → AllByRecursion (IsAdmitted P) ((if over then admitted a ∷ [] else []) ++ more)
if_over P over a more f h = grind arith

stood_in : (bytes done all : List ℕ) (b : Begun) → all ≡ done ++ bytes → EndsWith done b → AllByRecursion (IsAdmitted (Stood all)) (links_in true b bytes)
stood_in [] done all b whole h = tt
stood_in (c ∷ bytes) done all b whole h =
    if_over (Stood all) (ends_at b.place c) b.address (links_in true (behind b c) bytes) (stood_at done bytes all b c whole h)
    (stood_in bytes (done ++ c ∷ []) all (behind b c) (whole ∙ sym (append_assoc done (c ∷ []) bytes)) (byte_more done b c h))

pub in_bytes : (bytes : List ℕ) → AllByRecursion (IsAdmitted (Stood bytes)) (links_in true start bytes)
in_bytes bytes = stood_in bytes [] bytes start refl ([], refl)

-- ---- piece by piece

-- ESC and a byte begin anew
anew_at : (p : LinkState) (params url : List ℕ) (c : ℕ) → IsAtRest p → all_behind true (begun p params url) (27 ∷ c ∷ []) ≡ begun (opened c) params url
anew_at p params url c rest = grind arith

rest_behind : (m : Mode) (b : Begun) (bytes : List ℕ) → IsPiece m bytes → IsAtRest b.place → IsAtRest (all_behind true b bytes).place
rest_behind m b bytes (inl (c, e, other, string)) rest = rw e (on_at b.place b.address.params b.address.url c rest other).0
rest_behind m b bytes (inr (c, e, other)) rest =
    let same = anew_at b.place b.address.params b.address.url c rest in
    subst (λ (t : List ℕ). IsAtRest (all_behind true b t).place) (sym e) (subst (λ (x : Begun). IsAtRest x.place) (sym same) (opened_rest b.address.params b.address.url c).0)

over_two : (P : Address → Type 0) (p : LinkState) (params url : List ℕ) (c : ℕ) → IsAtRest p
    → ((c == 92) ≡ true → Spells (read_of p params url ++ 27 ∷ c ∷ []) (address params url) → P (address params url))
    → AllByRecursion (IsAdmitted P) (links_in true (begun p params url) (27 ∷ c ∷ []))
over_two P p params url c rest f = grind (arith, nat_tests)

-- ---- part by part

abbrev IsStr : Part → Type 0
IsStr p = p.kind ≡ Kind.Str

-- what has been read of a link are the bytes of the last parts
record Open (done : List Part) (b : Begun) : Type 0 where
  before : List Part
  own : List Part
  whole : done ≡ before ++ own
  all : AllByRecursion IsStr own
  joined : flat_map bytes_of own ≡ read b

joined_more : (own : List Part) (bytes old : List ℕ) → flat_map bytes_of own ≡ old → flat_map bytes_of (own ++ part Kind.Str bytes ∷ []) ≡ old ++ bytes
joined_more own bytes old e =
    flat_map-append bytes_of own (part Kind.Str bytes ∷ []) ∙ ap (λ (t : List ℕ). flat_map bytes_of own ++ t) (append-nil bytes) ∙ ap (λ (t : List ℕ). t ++ bytes) e

open_none : (done : List Part) (b : Begun) → read b ≡ [] → Open done b
open_none done b e = record { before = done; own = []; whole = sym (append-nil done); all = tt; joined = sym e }

open_on : (done : List Part) (b after : Begun) (bytes : List ℕ) → Open done b → (read after ≡ read b ++ bytes) ⊎ (read after ≡ []) → Open (done ++ part Kind.Str bytes ∷ []) after
open_on done b after bytes o (inl e) = record {
  before = o.before;
  own = o.own ++ part Kind.Str bytes ∷ [];
  whole = ap (λ (t : List Part). t ++ part Kind.Str bytes ∷ []) o.whole ∙ append_assoc o.before o.own (part Kind.Str bytes ∷ []);
  all = all_both IsStr o.own (part Kind.Str bytes ∷ []) o.all (refl, tt);
  joined = joined_more o.own bytes (read b) o.joined ∙ sym e;
}
open_on done b after bytes o (inr e) = open_none (done ++ part Kind.Str bytes ∷ []) after e

-- with the part that ends it, it is a control string
stood_part : (done later whole : List Part) (b : Begun) (bytes : List ℕ) → whole ≡ done ++ (part Kind.Str bytes ∷ later) → Open done b → Spells (read b ++ bytes) b.address → StoodIn whole b.address
stood_part done later whole b bytes split o h = record {
  before = o.before;
  own = o.own ++ part Kind.Str bytes ∷ [];
  rest = later;
  whole = rw (split, o.whole) (simp append_assoc);
  text = read b ++ bytes;
  string = record { some = omega (arith, length-append o.own (part Kind.Str bytes ∷ [])); all = all_both IsStr o.own (part Kind.Str bytes ∷ []) o.all (refl, tt); joined = joined_more o.own bytes (read b) o.joined };
  link = h;
}

-- what has been read stands at the end, or no string is open
record Held (m : Mode) (done : List Part) (b : Begun) : Type 0 where
  at_rest : IsAtRest b.place
  open_or_shut : Open done b ⊎ (in_string m ≡ false)

record After (whole done : List Part) (b : Begun) (bytes : List ℕ) : Type 0 where
  links : AllByRecursion (IsAdmitted (StoodIn whole)) (links_in true b bytes)
  opens : Open (done ++ part Kind.Str bytes ∷ []) (all_behind true b bytes)

after_one : (whole done later : List Part) (b : Begun) (c : ℕ) → whole ≡ done ++ (part Kind.Str (c ∷ []) ∷ later) → IsAtRest b.place → Open done b → (c == 27) ≡ false → After whole done b (c ∷ [])
after_one whole done later b c split rest o other =
    let on = on_at b.place b.address.params b.address.url c rest other in
    record {
      links = if_over (StoodIn whole) (ends_at b.place c) b.address [] (λ e. stood_part done later whole b (c ∷ []) split o (over_at b.place b.address.params b.address.url c e)) tt;
      opens = open_on done b (behind b c) (c ∷ []) o on.1;
    }

after_two : (whole done later : List Part) (m : Mode) (b : Begun) (c : ℕ) → whole ≡ done ++ (part Kind.Str (27 ∷ c ∷ []) ∷ later) → Held m done b
    → (in_string m ≡ false → (c == 92) ≡ false) → After whole done b (27 ∷ c ∷ [])
after_two whole done later m b c split h other =
    let new = opened_rest b.address.params b.address.url c in
    let same = anew_at b.place b.address.params b.address.url c h.at_rest in
    record {
      links = over_two (StoodIn whole) b.place b.address.params b.address.url c h.at_rest (over h.open_or_shut);
      opens = subst (Open (done ++ part Kind.Str (27 ∷ c ∷ []) ∷ [])) (sym same) (open_on done start (begun (opened c) b.address.params b.address.url) (27 ∷ c ∷ []) (open_none done start refl) new.1);
    }
  where
    over : Open done b ⊎ (in_string m ≡ false) → (c == 92) ≡ true → Spells (read b ++ 27 ∷ c ∷ []) b.address → StoodIn whole b.address
    over (inl o) e s = stood_part done later whole b (27 ∷ c ∷ []) split o s
    over (inr none) e s = absurd (both_ways (c == 92) (other none) e)

after_piece : (whole done later : List Part) (m : Mode) (b : Begun) (bytes : List ℕ) → whole ≡ done ++ (part Kind.Str bytes ∷ later) → Held m done b → IsPiece m bytes → After whole done b bytes
after_piece whole done later m b bytes split h (inl (c, e, other, string)) =
    subst (After whole done b) (sym e) (after_one whole done later b c (split ∙ ap (λ (t : List ℕ). done ++ (part Kind.Str t ∷ later)) e) h.at_rest (is_open_there h.open_or_shut) other)
  where
    is_open_there : Open done b ⊎ (in_string m ≡ false) → Open done b
    is_open_there (inl o) = o
    is_open_there (inr none) = absurd (both_ways (in_string m) none string)
after_piece whole done later m b bytes split h (inr (c, e, other)) =
    subst (After whole done b) (sym e) (after_two whole done later m b c (split ∙ ap (λ (t : List ℕ). done ++ (part Kind.Str t ∷ later)) e) h other)

-- ---- the whole stream

-- the bytes of the control strings among the parts
abbrev string_of : Part → List ℕ
string_of p = if is_str p.kind then p.bytes else []

abbrev strings : List Part → List ℕ
strings ps = flat_map string_of ps

-- titles and sets change none of these
titled_string : (k : Kind) (t : Bool) (bytes : List ℕ) → string_of (part (read_as k t) bytes) ≡ string_of (part k bytes)
titled_string Kind.Text true bytes = refl
titled_string Kind.Text false bytes = refl
titled_string k t bytes = refl

drawn_string : (k : Kind) (s : Sets) (bytes : List ℕ) → string_of (part k (drawn s k bytes)) ≡ string_of (part k bytes)
drawn_string k s bytes = grind arith

titled_strings : (t : Bool) (ps : List Part) → strings (with_titles t ps) ≡ strings ps
titled_strings t [] = refl
titled_strings t (p ∷ ps) = rw (titled_string p.kind t p.bytes, titled_strings (title_behind t p.kind p.bytes) ps) refl

drawn_strings : (s : Sets) (ps : List Part) → strings (with_sets s ps) ≡ strings ps
drawn_strings s [] = refl
drawn_strings s (p ∷ ps) = rw (drawn_string p.kind s p.bytes, drawn_strings (past s p.kind p.bytes) ps) refl

read_strings : (ps : List Part) → strings (as_read first_reading ps) ≡ strings ps
read_strings ps = drawn_strings first_sets (with_titles false ps) ∙ titled_strings false ps

-- what is left of parts has the links that are over in these
one_left : (d : Passing) (r : Rendition) (b : Begun) (k : Kind) (run bytes rest : List ℕ) (own others : List Item) (after : Rendition) → Leaves d r b k bytes own after
    → links_of others ≡ links_in d.links (begun_behind d b k bytes) rest
    → links_of (items_behind k run ++ (own ++ others)) ≡ links_in d.links b (string_of (part k bytes) ++ rest)
one_left d r b Kind.Text run bytes rest own others after (l, same) e = rw (l, e) refl
one_left d r b Kind.Csi run bytes rest own others after (actions, is, l, same) e = rw (part_links Kind.Csi run own others, l, none_in link_in Style (λ s. refl) _, e) refl
one_left d r b Kind.Esc run bytes rest own others after (l, same) e = rw (part_links Kind.Esc run own others, l, none_in link_in Style (λ s. refl) _, e) refl
one_left d r b Kind.Str run bytes rest own others after (l, same) e =
    rw (part_links Kind.Str run own others, l, each_in link_in Link (λ a. refl) _, e) (sym (links_on d.links bytes rest b))
one_left d r b k run bytes rest own others after l e = rw (part_links k run own others, l.0, e) refl

links_left : (d : Passing) (r : Rendition) (b : Begun) (run : List ℕ) (ps : List Part) (items : List Item) → AreLeft d r b run ps items
    → links_of items ≡ links_in d.links b (strings ps)
links_left d r b run [] items e = ap links_of e ∙ none_in link_in Shown (λ c. refl) (filter shown (lossy_chars run))
links_left d r b run (p ∷ ps) items (own, others, after, leaves, e, left) =
    ap links_of e ∙ one_left d r b p.kind run p.bytes (strings ps) own others after leaves
    (links_left d after (begun_behind d b p.kind p.bytes) (run_behind p.kind run p.bytes) ps others left)

-- one part, and then the others
one_part : (whole done later : List Part) (k : Kind) (text more : List ℕ) (m a : Mode) (bytes rest : List ℕ) (b : Begun) → IsFirstPart longest m bytes (part k text) rest a
    → Held m done b → whole ≡ done ++ part k text ∷ later
    → (Held a (done ++ part k text ∷ []) (all_behind true b (string_of (part k text))) → AllByRecursion (IsAdmitted (StoodIn whole)) (links_in true (all_behind true b (string_of (part k text))) more))
    → AllByRecursion (IsAdmitted (StoodIn whole)) (links_in true b (string_of (part k text) ++ more))
one_part whole done later Kind.Str text more m a bytes rest b first h split f =
    let fits = fit longest m bytes Kind.Str text rest a first in
    let now = after_piece whole done later m b text split h fits in
    rw (links_on true text more b)
    (all_both (IsAdmitted (StoodIn whole)) (links_in true b text) (links_in true (all_behind true b text) more) now.links (f record { at_rest = rest_behind m b text fits h.at_rest; open_or_shut = inl now.opens }))
one_part whole done later Kind.Text text more m a bytes rest b first h split f = f record { at_rest = h.at_rest; open_or_shut = inr (fit longest m bytes Kind.Text text rest a first).0 }
one_part whole done later Kind.Esc text more m a bytes rest b first h split f = f record { at_rest = h.at_rest; open_or_shut = inr (fit longest m bytes Kind.Esc text rest a first).0 }
one_part whole done later k text more m a bytes rest b first h split f = f record { at_rest = h.at_rest; open_or_shut = inr (fit longest m bytes k text rest a first) }

all_parts : (whole done sure : List Part) (m a : Mode) (bytes rest : List ℕ) (b : Begun) → AreFirstParts longest m bytes sure rest a → Held m done b
    → whole ≡ done ++ (sure ++ left_over rest) → AllByRecursion (IsAdmitted (StoodIn whole)) (links_in true b (strings (sure ++ left_over rest)))
all_parts whole done [] m a bytes [] b first h split = tt
all_parts whole done [] m a bytes (c ∷ rest) b first h split = tt
all_parts whole done (p ∷ sure) m a bytes rest b (behind, mid, one, later) h split =
    one_part whole done (sure ++ left_over rest) p.kind p.bytes (strings (sure ++ left_over rest)) m mid bytes behind b one h split
    (λ (k : Held mid (done ++ p ∷ []) (all_behind true b (string_of p))).
    all_parts whole (done ++ p ∷ []) sure mid a behind rest (all_behind true b (string_of p)) later k (split ∙ sym (append_assoc done (p ∷ []) (sure ++ left_over rest))))

pub in_stream : (d : Passing) (bytes text : List ℕ) (s : StylesIn d bytes text) → AllByRecursion (IsAdmitted (StoodIn s.parts)) (links_of s.items)
in_stream d bytes text s = rw (links_left d plain_rendition start [] (as_read first_reading s.parts) s.items s.left, read_strings s.parts) (by d.links)
  where
    by : (links : Bool) → AllByRecursion (IsAdmitted (StoodIn s.parts)) (links_in links start (strings s.parts))
    by false = rw (links_none (strings s.parts) start) tt
    by true =
        let w = s.whole in
        subst (λ (ps : List Part). AllByRecursion (IsAdmitted (StoodIn s.parts)) (links_in true start (strings ps))) (sym w.whole)
        (all_parts s.parts [] w.sure Mode.Text w.after bytes w.rest start w.first (record { at_rest = tt; open_or_shut = inr refl }) w.whole)

-- ---- and each that stood there and may pass does

abbrev IsString : Part → Type 0
IsString p = p.kind ≡ Kind.Str → (m : Mode) × IsPiece m p.bytes

string_first : (m : Mode) (bytes rest : List ℕ) (a : Mode) (p : Part) → IsFirstPart longest m bytes p rest a → IsString p
string_first m bytes rest a p h e = (m, fit longest m bytes Kind.Str p.bytes rest a (subst (λ (k : Kind). IsFirstPart longest m bytes (part k p.bytes) rest a) e h))

part_rests : (b : Begun) (k : Kind) (bytes : List ℕ) → IsString (part k bytes) → IsAtRest b.place → IsAtRest (all_behind true b (string_of (part k bytes))).place
part_rests b Kind.Str bytes f rest = let (m, fits) = f refl in rest_behind m b bytes fits rest
part_rests b _ bytes f rest = rest

parts_rest : (b : Begun) (ps more : List Part) → AllByRecursion IsString (ps ++ more) → IsAtRest b.place → IsAtRest (all_behind true b (strings ps)).place
parts_rest b [] more h rest = rest
parts_rest b (p ∷ ps) more h rest =
    subst (λ (x : Begun). IsAtRest x.place) (sym (behind_on true (string_of p) (strings ps) b)) (parts_rest (all_behind true b (string_of p)) ps more h.1 (part_rests b p.kind p.bytes h.0 rest))

strings_own : (ps : List Part) → AllByRecursion IsStr ps → strings ps ≡ flat_map bytes_of ps
strings_own [] h = refl
strings_own (p ∷ ps) h = rw (h.0, strings_own ps h.1) refl

-- `ESC ]` begins anew, whatever was read
opens_any : (p : LinkState) (params url bytes : List ℕ) → IsAtRest p → links_in true (begun p params url) (27 ∷ 93 ∷ bytes) ≡ links_in true (begun LinkState.Opened params url) bytes
opens_any p params url bytes rest = grind arith

passes_any : (b : Begun) (a : Address) (end : List ℕ) → IsAtRest b.place → IsWithin a
    → links_in true (begun LinkState.Url a.params a.url) end ≡ admitted a ∷ [] → links_in true b (27 ∷ 93 ∷ (link_body a ++ end)) ≡ admitted a ∷ []
passes_any b a end rest h over =
    opens_any b.place b.address.params b.address.url (link_body a ++ end) rest ∙ passes a b.address.params b.address.url end h over

spelled : (b : Begun) (a : Address) (text : List ℕ) → IsAtRest b.place → IsWithin a → Spells text a → links_in true b text ≡ admitted a ∷ []
spelled b a text rest h (inl e) = ap (links_in true b) e ∙ passes_any b a (7 ∷ []) rest h refl
spelled b a text rest h (inr e) = ap (links_in true b) e ∙ passes_any b a (27 ∷ 92 ∷ []) rest h refl

pub passes_in_stream : (d : Passing) (bytes text : List ℕ) (s : StylesIn d bytes text) (a : Address) → d.links ≡ true → StoodIn s.parts a → IsWithin a → Contains (links_of s.items) (admitted a)
passes_in_stream d bytes text s a e stood h =
    let before = strings stood.before in
    let later = strings stood.rest in
    let b = all_behind true start before in
    let first = links_in true start before in
    let more = links_in true (all_behind true b stood.text) later in
    let parts = subst (AllByRecursion IsString) stood.whole (whole_each IsString longest string_first (λ bytes k. absurd cc) bytes s.parts s.whole) in
    let rest = parts_rest start stood.before (stood.own ++ stood.rest) parts tt in
    let split : strings (stood.before ++ (stood.own ++ stood.rest)) ≡ before ++ (strings stood.own ++ later) = simp flat_map-append in
    let joined = ap strings stood.whole ∙ split ∙ ap (λ (t : List ℕ). before ++ (t ++ later)) (strings_own stood.own stood.string.all ∙ stood.string.joined) in
    let links : links_of s.items ≡ first ++ admitted a ∷ more =
    links_left d plain_rendition start [] (as_read first_reading s.parts) s.items s.left ∙ ap (links_in d.links start) (read_strings s.parts) ∙ ap (λ (l : Bool). links_in l start (strings s.parts)) e ∙ ap (links_in true start) joined ∙ links_on true before (stood.text ++ later) start
    ∙ ap (λ (x : List Address). first ++ x) (links_on true stood.text later b ∙ ap (λ (x : List Address). x ++ more) (spelled b a stood.text rest h stood.link)) in
    subst (λ (x : List Address). Contains x (admitted a)) (sym links) (Contains-append_right first (admitted a ∷ more) (admitted a) (0, omega arith, refl))
