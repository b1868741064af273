-- A colour with semicolons, what `compact` writes when it is cut once more, and normal forms that tell their actions.
use Rattle.std.proofs.Common.{◌≡◌, ℕ, suc, ◌≤◌, ◌-◌, pos, false, List, [], ◌∷◌, ◌++◌, length, take, drop, refl, sym, ap, subst, ◌∙◌, append_assoc, length-append, arith, true≢false, take-take, ◌<◌, ◌+◌, ◌⊎◌, append-nil, inl, inr, flat_map, Bool, true, ℤ, ◌==◌, ◌&&◌, not}
use Rattle.std.proofs.{Math.Seq.take-append_seam, lemmas.Bool.and_parts, lemmas.Bool.cases_Bool, lemmas.Bool.not-true, lemmas.Bool.or_parts}
use Rattle.std.proofs.{lemmas.Bool.or_right, lemmas.List.Elements.All-from_recursion, lemmas.List.Folds.list_any-append}
use Rattle.csicodec_tokens.specs.{Sequence.IsFinal, Sequence.Spellable, Param.token_text}
use Rattle.csicodec_names.specs.{declared.color.ColorSpec.ColorSpec, declared.color.ColorSpec.TheVariants.Default}
use Rattle.csicodec_names.specs.{declared.color.ColorSpec.TheVariants.PaletteIndex, declared.color.ColorSpec.TheVariants.TrueColor, Numbered.is_number}
use Rattle.csicodec_base.specs.{Shapes.Plane, Shapes.painted, declared.sgr.Sgr.Sgr}
use Rattle.csicodec_streams.specs.{Colors.IsColored, Colors.IsOpaque, Colors.color_list, Colors.plane_byte, Faithful.stays, Compose.EndsInSemicolon}
use Rattle.csicodec_streams.specs.{Compose.IsStyleList}
use Rattle.csicodec_streams.proofs.{OneReading.seq_of, OneReading.decodes-one, OneReading.one_decoding, Colors.color_short, Colors.colors_mean, Colors.listed}
use Rattle.csicodec_streams.proofs.{Colors.listed_spellable, Colors.listed_spelled, Kept.Kept, Kept.IsParsedSpecial, Parsed.parsed-kept, Exactly.round_trip_lem}
use Rattle.csicodec_compact.specs.{Private.Steps.IsNote, Private.Steps.list_of, Private.Steps.IsOneNormalised, Runs.AreRuns, Runs.IsRun, Runs.Shortens}
use Rattle.csicodec_compact.specs.{Runs.CompactsAll, Runs.most_joined, Meaning.HasAgain, declared.form.TextEnding.TextEnding}
use Rattle.csicodec_compact.proofs.Common.{flat_map-append, Seq, CsiParam, IsListed, closing, form_of, Compacts, ReadsAlike, AllByRecursion, list_any, all-append, Action, Actions}
use Rattle.csicodec_compact.proofs.{Beside.as_it_came, Beside.free_by, Beside.note_of, JoinedLists.number-last, JoinedLists.open_listed, JoinedLists.all_parts}
use Rattle.std.specs.Fmt.{signed_decimal}
use Rattle.csicodec_spans.specs.{declared.table.Kind.Kind, declared.table.Mode.Mode, Table.ahead, Parts.Part, Parts.Allows, Parts.AreFirstParts, Parts.IsWhole}
use Rattle.csicodec_spans.specs.{Parts.bytes_of, Parts.left_over}
use Rattle.csicodec_spans.proofs.{Agrees.sound, Missed.allows_whole, Missed.whole_joined}
use Rattle.csicodec_filter.proofs.Meaning.{AreMeant, again}
use Rattle.csicodec_actions.specs.{Actions.Cursor, Actions.Device, Devices.RequestTerminalParameters, Devices.attribute_token, Kinds.number, Special.IsSpecial}
use Rattle.csicodec_actions.specs.{Special.NoneSpecial, Table.text, Table.texts, Table.Device.written_parameters, Written.Item, Written.Byte, Written.The}
use Rattle.csicodec_actions.specs.{Written.Unless, Written.Attribute, Written.shown}
use Rattle.csicodec_parser.specs.Canonical.{Canonical}

color_plain : (plane : Plane) (color : ColorSpec) → IsStyleList (listed plane color)
color_plain plane Default = record { some = omega arith; plain = refl }
color_plain plane _ = record { some = omega arith; plain = refl }

color_unclosed : (plane : Plane) (color : ColorSpec) → IsOpaque color → ¬ EndsInSemicolon (listed plane color)
color_unclosed plane Default o = absurd o
color_unclosed plane (PaletteIndex i) o = number-last (listed plane (PaletteIndex i)) (take 4 (listed plane (PaletteIndex i))) (pos i) refl
color_unclosed plane (TrueColor c) o = number-last (listed plane (TrueColor c)) (take 8 (listed plane (TrueColor c))) (pos c.2) refl

color_free : (plane : Plane) (color : ColorSpec) → IsOpaque color → stays (listed plane color) 109 ≡ false
color_free plane Default o = absurd o
color_free plane (PaletteIndex i) o = refl
color_free plane (TrueColor c) o = refl

-- what stands between `ESC [` and `m`
abbrev list_text : Plane → ColorSpec → List ℕ
list_text plane color = plane_byte plane ∷ 56 ∷ 59 ∷ color_list color

color_seq : (plane : Plane) (color : ColorSpec) → IsOpaque color → Seq (27 ∷ 91 ∷ (list_text plane color ++ 109 ∷ [])) (listed plane color) 109
color_seq plane color o =
    seq_of (listed plane color) 109 (list_text plane color) (listed_spellable plane color o) (omega arith, omega arith) (listed_spelled plane color o)

-- the note of a colour in front
pub color_note : (bytes rest wide : List ℕ) (sgr : Sgr) (count len : ℕ) → 1 ≤ count → IsColored bytes sgr rest → len ≡ length bytes - length rest
    → (mark : ℕ) × (form_of mark ≡ TextEnding.Open) × (wide ≡ mark ∷ count ∷ 59 ∷ take 29 (drop 2 bytes)) → IsNote (take len bytes) (take len wide)
color_note bytes rest wide sgr count len some (plane, color, o, is, e) long (mark, form, same) =
    let list : List ℕ = list_text plane color in
    let own : List ℕ = 27 ∷ 91 ∷ (list ++ 109 ∷ []) in
    let begins : bytes ≡ own ++ rest = e ∙ ap (λ (l : List ℕ). 27 ∷ 91 ∷ l) (sym (append_assoc list (109 ∷ []) rest)) in
    let short = color_short bytes rest sgr (plane, color, o, is, e) in
    let size : len ≡ length own = omega (arith, long, ap length begins, length-append own rest) in
    let count_of : len ≡ suc (suc (suc (length list))) = omega (arith, size, length-append list (109 ∷ [])) in
    let few : length list ≤ 29 = omega (arith, count_of, long, short.1) in
    let front : take len bytes ≡ own = rw (begins, size) (take-append_seam own rest) in
    let told : take (length list) (take 29 (drop 2 bytes)) ≡ list = rw (take-take (length list) 29 (drop 2 bytes) few, e) (take-append_seam list (109 ∷ rest)) in
    let noted : take len wide ≡ mark ∷ count ∷ 59 ∷ list = rw (same, count_of, told) refl in
    let seq : Seq own (listed plane color) 109 = color_seq plane color o in
    let is_listed : IsListed TextEnding.Open own =
    open_listed own (listed plane color) (painted plane color ∷ []) seq (color_plain plane color) (color_unclosed plane color o)
    (colors_mean plane color false o) in
    let less : length (list ++ 109 ∷ []) - length (closing TextEnding.Open) ≡ length list = omega (arith, length-append list (109 ∷ [])) in
    let whole : list_of TextEnding.Open own ≡ list = rw less (take-append_seam list (109 ∷ [])) in
    subst (λ (l : List ℕ). IsNote l (take len wide)) (sym front)
    (note_of own own (take len wide) TextEnding.Open (listed plane color, 109, seq) (as_it_came own) is_listed
    (λ _. free_by own (listed plane color) 109 seq (color_free plane color o)) (λ _. omega (arith, few, length-append list (109 ∷ [])))
    (λ none. absurd (true≢false none))
    (λ _. (mark, count, form, some, noted ∙ ap (λ (l : List ℕ). mark ∷ count ∷ 59 ∷ l) (sym whole))))

-- ---- What `compact` writes, cut as a stream once more.

-- ---- a control sequence of the stream has no more than `limit` bytes

abbrev IsWithin : ℕ → Part → Type 0
IsWithin limit p = p.kind ≡ Kind.Csi → length p.bytes ≤ limit

firsts_within : (limit : ℕ) (m a : Mode) (bytes rest : List ℕ) (parts : List Part) → AreFirstParts limit m bytes parts rest a → AllByRecursion (IsWithin limit) parts
firsts_within limit m a bytes rest [] first = tt
firsts_within limit m a bytes rest (p ∷ parts) (behind, mid, first, others) = (
  λ e. (allows_whole (ahead m bytes) limit m bytes p.bytes mid (sound m bytes) (subst (λ (k : Kind). Allows (ahead m bytes) limit bytes k p.bytes mid) e first.1)).1,
  firsts_within limit mid a behind rest parts others,
)

left_within : (limit : ℕ) (rest : List ℕ) → AllByRecursion (IsWithin limit) (left_over rest)
left_within limit [] = tt
left_within limit (b ∷ rest) = ((λ e. absurd cc), tt)

whole_within : (limit : ℕ) (m : Mode) (bytes : List ℕ) (parts : List Part) → IsWhole limit m bytes parts → AllByRecursion (IsWithin limit) parts
whole_within limit m bytes parts w =
    subst (AllByRecursion (IsWithin limit)) (sym w.whole)
    (all-append (IsWithin limit) w.sure (left_over w.rest) (firsts_within limit m w.after bytes w.rest w.sure w.first) (left_within limit w.rest))

-- ---- nor has what is written for some

run_short : (run : List Part) (text : List ℕ) → IsRun run text → length text ≤ length (flat_map bytes_of run)
run_short run text (inl h) = h.short
run_short run text (inr h) = rw (h.1, h.3) (omega (arith, length-append h.0.bytes []))

one_within : (limit : ℕ) (run : List Part) (text : List ℕ) (p : Part) → run ≡ p ∷ [] → AllByRecursion (IsWithin limit) run → Shortens run text → length text ≤ limit
one_within limit run text p e within h =
    let own : length p.bytes ≤ limit = (subst (AllByRecursion (IsWithin limit)) e within).0 (subst (AllByRecursion (λ (q : Part). q.kind ≡ Kind.Csi)) e h.all).0 in
    let all : flat_map bytes_of run ≡ p.bytes = ap (flat_map bytes_of) e ∙ append-nil p.bytes in
    omega (arith, h.short, ap length all, own)

run_within : (limit : ℕ) (run : List Part) (text : List ℕ) → most_joined ≤ limit → AllByRecursion (IsWithin limit) run → Shortens run text → length text ≤ limit
run_within limit run text most within h = elim h.within [
  | inl few ↦ omega (arith, few, most)
  | inr (p, e) ↦ one_within limit run text p e within h
]

-- where each run has a text of at most `limit` bytes
abbrev AreShort : ℕ → List (List Part) → List Part → List ℕ → Type 0
AreShort limit runs parts text = (most_joined ≤ limit) × AllByRecursion (IsWithin limit) parts ⊎ (length text ≤ limit)

are_meant : (limit : ℕ) (runs : List (List Part)) (parts : List Part) (text : List ℕ) → AreShort limit runs parts text → AreRuns runs parts text → AreMeant limit runs parts text
are_meant limit [] parts text short r = r
are_meant limit (run ∷ runs) parts text short r =
    let (behind, first, later, parts_are, text_is, own, others) = r in (
      behind,
      first,
      later,
      parts_are,
      text_is,
      elim own [
        | inl h ↦ inl (record { all = h.all; actions = h.actions; came = h.came; written = h.written }, (short_parts run behind first later parts_are text_is short).0 h)
        | inr h ↦ inr h
      ],
      are_meant limit runs behind later (short_parts run behind first later parts_are text_is short).1 others,
    )
  where
    short_parts : (run behind : List Part) (first later : List ℕ) → parts ≡ run ++ behind → text ≡ first ++ later → AreShort limit (run ∷ runs) parts text
        → (Shortens run first → length first ≤ limit) × AreShort limit runs behind later
    short_parts run behind first later e is (inl (most, within)) =
        let (own, others) = all_parts (IsWithin limit) run behind (rw e at within) in (run_within limit run first most own, inl (most, others))
    short_parts run behind first later e is (inr few) =
        let long : length text ≡ length first + length later = rw is (length-append first later) in ((λ h. omega (arith, few, long)), inr (omega (arith, few, long)))

runs_short : (runs : List (List Part)) (parts : List Part) (text : List ℕ) → AreRuns runs parts text → length text ≤ length (flat_map bytes_of parts)
runs_short [] parts text r = rw (r.0, r.1) (omega arith)
runs_short (run ∷ runs) parts text r =
    let (behind, first, later, parts_are, text_is, own, others) = r in
    let all : length (flat_map bytes_of parts) ≡ length (flat_map bytes_of run ++ flat_map bytes_of behind) =
    ap (λ (ps : List Part). length (flat_map bytes_of ps)) parts_are ∙ ap length (flat_map-append bytes_of run behind) in
    omega (arith, run_short run first own, runs_short runs behind later others, all, length-append (flat_map bytes_of run) (flat_map bytes_of behind), ap length text_is, length-append first later)

pub no_longer : (limit : ℕ) (m : Mode) (bytes text : List ℕ) → CompactsAll limit m bytes text → length text ≤ length bytes
no_longer limit m bytes text c =
    omega (arith, runs_short c.written.0 c.parts text c.written.1, ap length (whole_joined limit m bytes c.parts c.whole))

-- ---- so it is cut again

has_again : (limit : ℕ) (m : Mode) (bytes text : List ℕ) (c : CompactsAll limit m bytes text) → 0 < limit → AreShort limit c.written.0 c.parts text → HasAgain c
has_again limit m bytes text c l short =
    let a = again limit c.written.0 m bytes text c.parts l c.whole (are_meant limit c.written.0 c.parts text short c.written.1) in
    record { others = a.others; whole = a.whole; placed = a.placed }

pub again_whole : (limit : ℕ) (m : Mode) (bytes text : List ℕ) (c : CompactsAll limit m bytes text) → most_joined ≤ limit → HasAgain c
again_whole limit m bytes text c most = has_again limit m bytes text c (omega (arith, most)) (inl (most, whole_within limit m bytes c.parts c.whole))

pub again_alone : (limit : ℕ) (m : Mode) (bytes text : List ℕ) (c : CompactsAll limit m bytes text) → 0 < limit → length text ≤ limit → HasAgain c
again_alone limit m bytes text c l few = has_again limit m bytes text c l (inr few)

-- ---- Equal normal forms are those of equal actions, where none of these is special.

-- the byte is none of the text
abbrev pub Lacks : ℕ → List ℕ → Type 0
Lacks byte bytes = list_any (λ b. b == byte) bytes ≡ false

abbrev pub Tells : List ℕ → Type 0
Tells bytes = Lacks 115 bytes × Lacks 120 bytes

-- what a test of both bytes says
pub told_by : (bytes : List ℕ) → (not (list_any (λ b. b == 115) bytes) && not (list_any (λ b. b == 120) bytes)) ≡ true → Tells bytes
told_by bytes e =
    let parts = and_parts (not (list_any (λ b. b == 115) bytes)) _ e in (not-true _ parts.0, not-true _ parts.1)

-- what is written before `x` has it
end-found : (items : List Item) → list_any (λ b. b == 120) (shown items (120 ∷ [])) ≡ true
end-found [] = refl
end-found (Byte b ∷ items) = or_right _ _ (end-found items)
end-found (The k v ∷ items) = list_any-append (λ b. b == 120) (signed_decimal (number k v)) _ ∙ or_right _ _ (end-found items)
end-found (Unless n k v ∷ items) = elim (cases_Bool (is_number n (number k v))) [
  | inl out ↦ rw out (end-found items)
  | inr said ↦ rw said (list_any-append (λ b. b == 120) (signed_decimal (number k v)) _ ∙ or_right _ _ (end-found items))
]
end-found (Attribute a ∷ items) = list_any-append (λ b. b == 120) (token_text (attribute_token a)) _ ∙ or_right _ _ (end-found items)

parameters-untold : (z : ℤ) → Lacks 120 (text (Device (RequestTerminalParameters z))) → ⊥
parameters-untold z lacks =
    let items = (written_parameters z).items in
    let has : List ℕ → Bool = list_any (λ b. b == 120) in
    true≢false (sym (or_right (27 == 120) (has (91 ∷ shown items (120 ∷ []))) (or_right (91 == 120) (has (shown items (120 ∷ []))) (end-found items))) ∙ lacks)

-- special actions are written before `s` and `x`
special-untold : (a : Action) → IsParsedSpecial a → Tells (text a) → ⊥
special-untold a (inl e) told = true≢false (rw e at told.0)
special-untold a (inr (inl e)) told = parameters-untold (pos 0) (rw e at told.1)
special-untold a (inr (inr e)) told = parameters-untold (pos 1) (rw e at told.1)

canonical-plain : (a : Action) (flag : Bool) → Canonical a flag → IsSpecial a → ⊥
canonical-plain (Cursor c) flag ok special = ok.1 special
canonical-plain (Device d) flag ok special = ok.1 special
canonical-plain _ flag ok special = special

told-plain : (a : Action) → Kept false a → Tells (text a) → IsSpecial a → ⊥
told-plain a kept told special = elim kept.canonical [
  | inl parsed ↦ special-untold a parsed told
  | inr ok ↦ canonical-plain a false ok special
]

lacks-parts : (byte : ℕ) (xs ys : List ℕ) → Lacks byte (xs ++ ys) → Lacks byte xs × Lacks byte ys
lacks-parts byte xs ys e = or_parts _ _ (sym (list_any-append (λ b. b == byte) xs ys) ∙ e)

none-special : (xs : List Action) → AllByRecursion (Kept false) xs → Tells (texts xs) → AllByRecursion (λ (a : Action). ¬ IsSpecial a) xs
none-special [] kept told = tt
none-special (a ∷ xs) kept told =
    let s = lacks-parts 115 (text a) (texts xs) told.0 in
    let x = lacks-parts 120 (text a) (texts xs) told.1 in
    (told-plain a kept.0 (s.0, x.0), none-special xs kept.1 (s.1, x.1))

none-told : (list : List CsiParam) (final : ℕ) (xs : List Action) → Spellable list → IsFinal final → Actions list false final xs → Tells (texts xs) → NoneSpecial xs
none-told list final xs ok ends read told = All-from_recursion (λ (a : Action). ¬ IsSpecial a) xs (none-special xs (parsed-kept list false final xs ok ends read) told)

-- a normal form that tells its actions, and a sequence that has it
pub has-normal : (other normal text : List ℕ) → IsOneNormalised other text → Tells normal → normal ≡ text → ReadsAlike normal other
has-normal other normal text (list, final, ys, s, read, is) told same = λ actions d.
    let whole : normal ≡ texts ys = same ∙ is in
    let back = (round_trip_lem list false final s.spellable s.ends ys read).together (none-told list final ys s.spellable s.ends read (rw whole at told)) in
    rw (back.only actions (rw whole at d)) (decodes-one other list false final ys s read)

-- two sequences with one normal form that tells its actions
pub reads-alike : (bytes other : List ℕ) (list : List CsiParam) (final : ℕ) (xs : List Action) (normal text : List ℕ) → Seq bytes list final → Actions list false final xs → normal ≡ texts xs
    → IsOneNormalised other text → Tells normal → normal ≡ text → ReadsAlike bytes other
reads-alike bytes other list final xs normal text s read made one told same = λ actions d.
    let back = (round_trip_lem list false final s.spellable s.ends xs read).together (none-told list final xs s.spellable s.ends read (rw made at told)) in
    let mine : actions ≡ xs = one_decoding bytes false actions xs d (decodes-one bytes list false final xs s read) in
    rw mine (has-normal other normal text one told same xs (rw (sym made) at back.back))

-- what stands in the place of a sequence that doesn't stay
pub compacts : (bytes text : List ℕ) (list : List CsiParam) (final : ℕ) → Seq bytes list final → stays list final ≡ false → ReadsAlike bytes text → length text ≤ length bytes → Compacts bytes text
compacts bytes text list final s free alike short =
    record { alike = alike; short = short; kept = λ other last t stay. absurd (free_by bytes list final s free (other, last, t, stay)) }
