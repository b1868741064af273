-- What is noted of a control sequence, and the text of a style: digits and `:` in front of `m`, one sequence, which is taken for that style.
use Rattle.std.proofs.Common.{◌≡◌, ◌+◌, ◌-◌, ◌∙◌, ℕ, zero, suc, Bool, true, false, cond, List, [], ◌∷◌, ◌++◌, length, get_or, take, drop, refl, sym, ap, subst, append-nil, arith, ◌==◌, MatchBool, ◌≤◌, ◌<◌, ◌^◌, ◌⊎◌, length-append, inl, inr, append_assoc, rules, eqb-true, ◌&&◌, codes, nat_le, nat_lt, slice_get, decimal}
use Rattle.std.proofs.{lemmas.Bool.cases_Bool, lemmas.List.append_cancel_right, lemmas.List.length-drop, lemmas.List.take-append-le, lemmas.Fmt.digits_decimal}
use Rattle.std.proofs.{lemmas.Fmt.decimal_nonempty, lemmas.Str.Parse.IsNumeralModel, lemmas.Str.Parse.numerals_by_fold}
use Rattle.csicodec_clean.proofs.Common.{drop-append_seam, drop-append-le, ColorSpec, sgr_text, CsiParam, Seq, Action, Unspecified, IsSequence, Depth, Keeping, keeping, keeps, IsLeft, IsNoted, Group, Styles, group, Actions, IsTakenFor, has_unknown, and_parts, cond_both, nat_tests, AllByRecursion, Integer, P, Reads, SrgbaTuple, ColorInRange, SgrInRange, text, semicolon, ReadsAlone, parsed-kept, longest, hides}
use Rattle.csicodec_clean.proofs.{Rendered.attribute_most, Rendered.behind_none, Rendered.depth_first, Rendered.lasting, Rendered.note_plain, Chunks.front_read}
use Rattle.csicodec_clean.proofs.{Plain.all_both, Plain.all_parts, Plain.all_weaker}
use Rattle.csicodec_base.specs.{Shapes.Plane, Shapes.painted, declared.sgr.Sgr.Sgr, SgrText.palette_text, SgrText.true_color_text}
use Rattle.csicodec_actions.specs.{declared.cursor.Cursor.Cursor, Actions.Cursor as Move, Actions.Sgr as SgrAction}
use Rattle.csicodec_streams.specs.{Colors.IsColored, Colors.IsOpaque, Colors.color_list, Colors.plane_byte, Compose.EndsInSemicolon}
use Rattle.csicodec_clean.specs.Styled.{Rendition, Spelled, attribute, behind_styles, is_reset, spelled, style_texts}
use Rattle.csicodec_clean.specs.Private.Notes.{HasPlaces, IsSplit, HasText, IsNote, IsTaken, depth_byte, kept, note_of, places}
use Rattle.csicodec_clean.specs.{Saving.are_lasting, declared.styles.Passing.Passing}
use Rattle.csicodec_parser.specs.{Cut.Cut, Cut.body, Groups.has_odd, Groups.is_byte, Segments.ActionsIn, Segments.BodyActions, Segments.remainder}
use Rattle.csicodec_terminal.specs.Terminal.{is_open as leaves_out}
use Rattle.std.specs.Fmt.{digits}
use Rattle.csicodec_tokens.specs.{Digits.AreDigits, Digits.IsDigit, Digits.value, Digits.value_after, Sequence.Spells, Sequence.SpellsToken}
use Rattle.csicodec_tokens.proofs.Decimal.{length-decimal_u16}
use Rattle.csicodec_names.specs.declared.color.Intensity.TheVariants.{Normal}
use Rattle.csicodec_streams.proofs.Exactly.{one-sequence}
use Rattle.csicodec_looks.specs.declared.xterm.Depth.TheVariants as depth
use Rattle.csicodec_names.specs.declared.color.Underline.TheVariants as underline
use Rattle.csicodec_names.specs.declared.color.Blink.TheVariants as blink
use Rattle.csicodec_names.specs.declared.color.VerticalAlign.TheVariants as align
use Rattle.csicodec_names.specs.declared.color.ColorSpec.TheVariants as color
use Rattle.csicodec_base.specs.declared.sgr.Font.TheVariants as font
use Rattle.csicodec_base.specs.declared.sgr.Sgr.TheVariants as sgr
use Rattle.csicodec_actions.specs.Actions as action

same_depth : (d e : Depth) → depth_byte d ≡ depth_byte e → d ≡ e
same_depth d e h = grind arith

-- of actions that save nothing and bring nothing back
left_lasting : (p : Passing) (bytes old new : List ℕ) (actions : List Action) (before after : Spelled) → IsTakenFor bytes actions → are_lasting actions ≡ true
    → new ≡ old ++ style_texts (kept p.depth actions) → ((r : Rendition) → before ≡ spelled r → after ≡ spelled (behind_styles p r (kept p.depth actions)))
    → IsLeft p bytes before after old new
left_lasting p bytes old new actions before after is lasts longer behind = (
  actions,
  is,
  (style_texts (kept p.depth actions), longer, λ r begins. (let (styles, state) = lasting p r actions lasts in (ap style_texts (sym styles), behind r begins ∙ ap spelled (sym state)))),
)

-- from the note, and what was appended of it
pub recalled : (p : Passing) (bytes note wide more old new : List ℕ) (start len : ℕ) (before after : Spelled) → IsNoted bytes note → get_or note 0 0 ≡ depth_byte p.depth
    → start + len ≤ length note → HasText note start len → wide ≡ note ++ more → new ≡ old ++ take len (drop start wide) → IsTaken p note before after → IsLeft p bytes before after old new
recalled p bytes note wide more old new start len before after (e, actions, front, since, is, lasts, split, noted) byte fits text w longer taken =
    let same : e ≡ p.depth = same_depth e p.depth (sym (ap (λ l. get_or l 0 0) noted ∙ depth_first e front since) ∙ byte) in
    let long : length (drop start note) ≡ length note - start = length-drop start note in
    let own : take len (drop start wide) ≡ take len (drop start note) =
    ap (λ l. take len (drop start l)) w ∙ ap (take len) (drop-append-le start note more (omega (arith, fits))) ∙ take-append-le len (drop start note) more (omega (arith, fits, long)) in
    let all : take len (drop start wide) ≡ style_texts (kept e actions) = own ∙ text e front since noted ∙ ap style_texts (sym split.0) in
    left_lasting p bytes old new actions before after is lasts (subst (λ (x : Depth). new ≡ old ++ style_texts (kept x actions)) same (longer ∙ ap (λ t. old ++ t) all))
    (λ r begins. subst (λ (x : Depth). after ≡ spelled (behind_styles p r (kept x actions))) same (taken e front since (kept e actions) noted split r begins))

-- and where it is noted now
pub left_noted : (p : Passing) (bytes note old new : List ℕ) (actions : List Action) (front since : List Sgr) (before after : Spelled) → IsTakenFor bytes actions
    → are_lasting actions ≡ true → IsSplit (kept p.depth actions) front since → note ≡ note_of p.depth front since → new ≡ old ++ style_texts (kept p.depth actions)
    → IsTaken p note before after → IsLeft p bytes before after old new
left_noted p bytes note old new actions front since before after is lasts split noted longer taken =
    left_lasting p bytes old new actions before after is lasts longer (λ r begins. taken p.depth front since (kept p.depth actions) noted split r begins)

-- what is written of a text that was appended is its note
pub noted_now : (d : Depth) (actions : List Action) (old out made note told : List ℕ) (behind : ℕ) → out ≡ old ++ style_texts (kept d actions)
    → HasPlaces (kept d actions) behind told → made ≡ drop (length old) out
    → ((styles front since : List Sgr) → IsSplit styles front since → behind ≡ length (style_texts front) → told ≡ places since → made ≡ style_texts styles
    → note ≡ note_of d front since) → (front : List Sgr) × (since : List Sgr) × IsSplit (kept d actions) front since × (note ≡ note_of d front since)
noted_now d actions old out made note told behind longer (front, since, split, stands, is, few) own writes = (
  front,
  since,
  split,
  writes (kept d actions) front since split stands is (own ∙ ap (drop (length old)) longer ∙ drop-append_seam old (style_texts (kept d actions))),
)

-- what the rule gives for it
pub given : (k : Keeping) (bytes : List ℕ) (after : Spelled) (old new : List ℕ) → IsLeft k.passing bytes k.rendition after old new
    → (text : List ℕ) × IsSequence bytes × keeps.sequence k bytes text (keeping k.passing after k.linked k.begun) × (new ≡ old ++ text)
given k bytes after old new (actions, is, (text, longer, gives)) = (
  text,
  (is.0, is.1, is.2),
  (actions, is, λ r begins. (let (out, state) = gives r begins in (out, ap (λ (x : Spelled). keeping k.passing x k.linked k.begun) state))),
  longer,
)

-- where nothing is appended, as for a movement
pub nothing_left : (p : Passing) (bytes : List ℕ) (k : Spelled) (old : List ℕ) (actions : List Action) → IsTakenFor bytes actions → are_lasting actions ≡ true
    → kept p.depth actions ≡ [] → IsLeft p bytes k k old old
nothing_left p bytes k old actions is lasts none =
    left_lasting p bytes old old actions k k is lasts (rw none (sym (append-nil old))) (λ r begins. begins ∙ ap spelled (behind_none p r ∙ ap (behind_styles p r) (sym none)))

-- ---- a colour, where all stay

color_kept : (plane : Plane) (color : ColorSpec) → kept depth.Full (SgrAction (painted plane color) ∷ []) ≡ painted plane color ∷ []
color_kept plane color = grind arith

color_sets : (plane : Plane) (color : ColorSpec) → is_reset (painted plane color) ≡ false
color_sets plane color = grind arith

one_text : (s : Sgr) → style_texts (s ∷ []) ≡ 27 ∷ 91 ∷ sgr_text s
one_text s = append-nil (27 ∷ 91 ∷ sgr_text s)

color_split : (style : Sgr) (bytes rest : List ℕ) → IsColored bytes style rest → length (27 ∷ 91 ∷ sgr_text style) ≤ 32
    → IsSplit (kept depth.Full (SgrAction style ∷ [])) [] (style ∷ [])
color_split style bytes rest (plane, color, opaque, paints, stands) few =
    let size : length (style_texts (style ∷ [])) ≤ 32 = omega (arith, few, ap length (one_text style)) in
    (rw paints (color_kept plane color), ((rw paints (color_sets plane color), size), tt), inl refl)

take_short : (n : ℕ) (xs : List ℕ) → length (take n xs) ≤ n
take_short zero xs = omega arith
take_short (suc n) [] = omega arith
take_short (suc n) (x ∷ xs) = omega (arith, take_short n xs)

-- what is noted of it, by what begins with its text
pub color_noted : (bytes rest own text note : List ℕ) (style : Sgr) (len : ℕ) → IsColored bytes style rest → IsTakenFor own (SgrAction style ∷ [])
    → take (len + 1) text ≡ 27 ∷ 91 ∷ sgr_text style → len ≤ 19
    → note ≡ take (len + 3) (0 ∷ attribute style ∷ text) → (note ≡ note_of depth.Full [] (style ∷ [])) × IsNoted own note × (length (27 ∷ 91 ∷ sgr_text style) ≤ 32)
color_noted bytes rest own text note style len colored is told short noted =
    let few : length (27 ∷ 91 ∷ sgr_text style) ≤ 32 = omega (arith, ap length told, take_short (len + 1) text, short) in
    let longer : len + 3 ≡ suc (suc (len + 1)) = omega arith in
    let note_is : note ≡ note_of depth.Full [] (style ∷ []) = noted ∙ ap (λ n. take n (0 ∷ attribute style ∷ text)) longer
    ∙ ap (λ l. 0 ∷ attribute style ∷ l) (told ∙ sym (one_text style)) ∙ sym (note_plain depth.Full [] (style ∷ []) (omega (arith, attribute_most style))) in
    (note_is, (depth.Full, SgrAction style ∷ [], [], style ∷ [], is, refl, color_split style bytes rest colored few, note_is), few)

pub color_place : (bytes rest : List ℕ) (style : Sgr) → IsColored bytes style rest → length (27 ∷ 91 ∷ sgr_text style) ≤ 32 → (note : List ℕ)
    → note ≡ note_of depth.Full [] (style ∷ []) → IsNote note
color_place bytes rest style colored few note is = (depth.Full, [], style ∷ [], kept depth.Full (SgrAction style ∷ []), color_split style bytes rest colored few, is)

-- and what is left of it
pub color_left : (p : Passing) (bytes rest own note old new : List ℕ) (style : Sgr) (before after : Spelled) → p.depth ≡ depth.Full → IsColored bytes style rest
    → IsTakenFor own (SgrAction style ∷ []) → new ≡ old ++ 27 ∷ 91 ∷ sgr_text style → note ≡ note_of depth.Full [] (style ∷ [])
    → length (27 ∷ 91 ∷ sgr_text style) ≤ 32 → IsTaken p note before after → IsLeft p own before after old new
color_left p bytes rest own note old new style before after full colored is longer noted few taken =
    let split = color_split style bytes rest colored few in
    let one : kept p.depth (SgrAction style ∷ []) ≡ style ∷ [] = ap (λ (x : Depth). kept x (SgrAction style ∷ [])) full ∙ split.0 in
    left_lasting p own old new (SgrAction style ∷ []) before after is refl (longer ∙ ap (λ t. old ++ t) (sym (one_text style) ∙ ap style_texts (sym one)))
    (λ r begins. taken depth.Full [] (style ∷ []) (kept depth.Full (SgrAction style ∷ [])) noted split r begins ∙ ap (λ (x : Depth). spelled (behind_styles p r (kept x (SgrAction style ∷ [])))) (sym full))

-- ---- what the table reads of it, as terminals take it

pub closed_taken : (bytes : List ℕ) (list : List CsiParam) (final : ℕ) (actions : List Action) → Seq bytes list final
    → Actions list false final actions → has_unknown actions ≡ false → leaves_out (group list final) list ≡ false → IsTakenFor bytes actions
closed_taken bytes list final actions seq are known closed = (list, final, seq, (actions, are, rw (known, closed) refl))

no_style : (pieces : List Action) (body rest : List CsiParam) (final : ℕ) (to : Cursor) → Cut Styles body pieces rest → Move to ∷ [] ≡ pieces ++ remainder Styles rest false final → ⊥
no_style [] body [] final to cut e = absurd cc
no_style [] body (t ∷ ts) final to cut e = absurd cc
no_style (a ∷ pieces) body rest final to (block, more, is, one, others) e =
    let (s, p, same) = one.piece in
    let moves : Move to ≡ a = cc in
    absurd (cc (moves, same))

no_styles : (odd : Bool) (list body : List CsiParam) (final : ℕ) (to : Cursor)
    → MatchBool odd (Move to ∷ [] ≡ Unspecified list false final ∷ []) (BodyActions Styles list body false final (Move to ∷ [])) → ⊥
no_styles true list body final to e = absurd cc
no_styles false list [] final to e = absurd cc
no_styles false list (t ∷ ts) final to s = no_style s.pieces (t ∷ ts) s.rest final to s.cut s.all

move_closed : (g : Group) (list : List CsiParam) (final : ℕ) (to : Cursor) → ActionsIn g list false final (Move to ∷ []) → leaves_out g list ≡ false
move_closed Styles list final to h = absurd (no_styles (has_odd Styles list) list (body Styles list) final to h)
move_closed _ list final to h = refl

pub move_taken : (bytes : List ℕ) (list : List CsiParam) (final : ℕ) (to : Cursor) → Seq bytes list final → Actions list false final (Move to ∷ []) → IsTakenFor bytes (Move to ∷ [])
move_taken bytes list final to seq are = closed_taken bytes list final (Move to ∷ []) seq are refl (move_closed (group list final) list final to are)

moved_lasts : (to : Cursor) → 3 < length (text (Move to)) → are_lasting (Move to ∷ []) ≡ true
moved_lasts Cursor.SaveCursor h = absurd (omega (arith, h))
moved_lasts Cursor.RestoreCursor h = absurd (omega (arith, h))
moved_lasts to h = refl

moved_none : (d : Depth) (to : Cursor) → kept d (Move to ∷ []) ≡ []
moved_none d Cursor.SaveCursor = refl
moved_none d Cursor.RestoreCursor = refl
moved_none d to = refl

-- a position has more bytes than what saves the cursor, and what brings it back
pub position_left : (p : Passing) (bytes : List ℕ) (k : Spelled) (old : List ℕ) (list : List CsiParam) (final : ℕ) (to : Cursor) → Seq bytes list final
    → Actions list false final (Move to ∷ []) → bytes ≡ text (Move to) → 3 < length bytes → IsLeft p bytes k k old old
position_left p bytes k old list final to seq are is long =
    nothing_left p bytes k old (Move to ∷ []) (move_taken bytes list final to seq are) (moved_lasts to (subst (λ (l : List ℕ). 3 < length l) is long)) (moved_none p.depth to)

-- ---- The text of a style is digits and `:`, 60 at most, in front of `m`: one control sequence, which is taken for that style.

-- ---- bytes that are digits or `:`

abbrev pub IsCode : ℕ → Type 0
IsCode b = IsDigit b ⊎ (b ≡ 58)

abbrev pub AreCodes : List ℕ → Type 0
AreCodes bs = AllByRecursion IsCode bs

pub codes_parts : (xs ys : List ℕ) → AreCodes (xs ++ ys) → AreCodes xs × AreCodes ys
codes_parts = all_parts IsCode

own : IsNumeralModel AreDigits value
own = numerals_by_fold AreDigits (search rules) value_after (search rules)

number_codes : (n : ℕ) → n < 1000 → AreCodes (decimal n)
number_codes n h = let small : n < 2 ^ 64 = omega (arith, h) in all_weaker IsDigit IsCode (λ b d. inl d) (decimal n) (digits_decimal own n small)

some_digits : (n : ℕ) → n < 1000 → 0 < length (decimal n)
some_digits n h = let small : n < 2 ^ 64 = omega (arith, h) in decimal_nonempty n small

few_digits : (n : ℕ) → n < 1000 → length (decimal n) ≤ 5
few_digits n h = length-decimal_u16 n (omega (arith, h))

-- ---- the text of an attribute: such bytes, so many at most, and then the final byte

abbrev pub IsCoded : ℕ → List ℕ → Type 0
IsCoded most text = (body : List ℕ) × (text ≡ body ++ 109 ∷ []) × AreCodes body × (0 < length body) × (length body ≤ most)

wider : (k n : ℕ) (text : List ℕ) → k ≤ n → IsCoded k text → IsCoded n text
wider k n text h (body, is, codes, some, few) = (body, is, codes, some, omega (arith, h, few))

number_coded : (n : ℕ) → n < 1000 → IsCoded 5 (decimal n ++ codes "m")
number_coded n h = (decimal n, refl, number_codes n h, some_digits n h, few_digits n h)

then_coded : (n most : ℕ) (mark rest : List ℕ) → n < 1000 → AreCodes mark → IsCoded most rest → IsCoded (5 + (length mark + most)) (decimal n ++ (mark ++ rest))
then_coded n most mark rest h m (body, is, k, some, few) = (
  decimal n ++ (mark ++ body),
  ap (λ (t : List ℕ). decimal n ++ (mark ++ t)) is ∙ ap (λ (t : List ℕ). decimal n ++ t) (sym (append_assoc mark body (109 ∷ []))) ∙ sym (append_assoc (decimal n) (mark ++ body) (109 ∷ [])),
  all_both IsCode (decimal n) (mark ++ body) (number_codes n h) (all_both IsCode mark body m k),
  omega (arith, length-append (decimal n) (mark ++ body), some_digits n h),
  omega (arith, length-append (decimal n) (mark ++ body), length-append mark body, few_digits n h, few),
)

five : AreCodes (codes ":5:")
five = (inr refl, (inl (omega arith, omega arith), (inr refl, tt)))

palette_coded : (first i : ℕ) → first < 100 → i < 256 → IsCoded 60 (palette_text first i)
palette_coded first i f h =
    let named = decimal (first + 8) ++ (codes ":5:" ++ (decimal i ++ codes "m")) in
    let bright = decimal (i + first + 52) ++ codes "m" in
    let dark = decimal (i + first) ++ codes "m" in
    cond_both (nat_lt i 8) dark (cond (nat_lt i 16) bright named) (IsCoded 60) (λ _. wider 5 60 dark (omega arith) (number_coded (i + first) (omega (arith, f, h))))
    (λ _. cond_both (nat_lt i 16) bright named (IsCoded 60) (λ _. wider 5 60 bright (omega arith) (number_coded (i + first + 52) (omega (arith, f, h))))
    (λ _. wider 13 60 named (omega arith) (then_coded (first + 8) 5 (codes ":5:") (decimal i ++ codes "m") (omega (arith, f)) five (number_coded i (omega (arith, h))))))

colon : AreCodes (codes ":")
colon = (inr refl, tt)

color_coded : (code : ℕ) (c : SrgbaTuple) → code < 100 → ColorInRange (color.TrueColor c) → IsCoded 60 (true_color_text code c)
color_coded code c f (r, g, b, a) =
    let blue = decimal c.2 ++ codes "m" in
    let alpha = decimal c.2 ++ (codes ":" ++ (decimal c.3 ++ codes "m")) in
    let opaque = decimal c.0 ++ (codes ":" ++ (decimal c.1 ++ (codes ":" ++ blue))) in
    let clear = decimal c.0 ++ (codes ":" ++ (decimal c.1 ++ (codes ":" ++ alpha))) in
    let three : IsCoded 17 opaque =
    then_coded c.0 11 (codes ":") (decimal c.1 ++ (codes ":" ++ blue)) (omega (arith, r)) colon (then_coded c.1 5 (codes ":") blue (omega (arith, g)) colon (number_coded c.2 (omega (arith, b)))) in
    let four : IsCoded 23 clear = then_coded c.0 17 (codes ":") (decimal c.1 ++ (codes ":" ++ alpha)) (omega (arith, r)) colon
    (then_coded c.1 11 (codes ":") alpha (omega (arith, g)) colon (then_coded c.2 5 (codes ":") (decimal c.3 ++ codes "m") (omega (arith, b)) colon (number_coded c.3 (omega (arith, a))))) in
    let first = decimal code ++ (codes ":2::" ++ opaque) in
    let other = decimal code ++ (codes ":6::" ++ clear) in
    cond_both (c.3 == 255) first other (IsCoded 60)
    (λ _. wider 26 60 first (omega arith) (then_coded code 17 (codes ":2::") opaque (omega (arith, f)) (inr refl, (inl (omega arith, omega arith), (inr refl, (inr refl, tt)))) three))
    (λ _. wider 32 60 other (omega arith) (then_coded code 23 (codes ":6::") clear (omega (arith, f)) (inr refl, (inl (omega arith, omega arith), (inr refl, (inr refl, tt)))) four))

-- ---- a text that has no number of its own, by a test

abbrev is_code : ℕ → Bool
is_code b = nat_le 48 b && nat_le b 58

abbrev are_coded : List ℕ → Bool
are_coded [] = true
are_coded (b ∷ bs) = is_code b && are_coded bs

code : (b : ℕ) → is_code b ≡ true → IsCode b
code b h = grind (arith, nat_tests)

tested : (bs : List ℕ) → are_coded bs ≡ true → AreCodes bs
tested [] h = tt
tested (b ∷ bs) h = let both = and_parts (is_code b) (are_coded bs) h in (code b both.0, tested bs both.1)

abbrev front : List ℕ → List ℕ
front text = take (length text - 1) text

fixed : (t : List ℕ) → t ≡ front t ++ 109 ∷ [] → are_coded (front t) ≡ true → 0 < length (front t) → length (front t) ≤ 60 → IsCoded 60 t
fixed t is are some few = (front t, is, tested (front t) are, some, few)

-- ---- all of them

line_coded : (i : ℕ) → i < 256 → IsCoded 60 (codes "58:5:" ++ (decimal i ++ codes "m"))
unfolding digits
line_coded i h = wider 13 60 (codes "58:5:" ++ (decimal i ++ codes "m")) (omega arith)
    (then_coded 58 5 (codes ":5:") (decimal i ++ codes "m") (omega arith) five (number_coded i (omega (arith, h))))

pub coded : (s : Sgr) → SgrInRange s → hides s ≡ false → IsCoded 60 (sgr_text s)
coded (sgr.UnderlineColor (color.PaletteIndex i)) h k = line_coded i h
coded (sgr.UnderlineColor (color.TrueColor c)) h k = color_coded 58 c (omega arith) h
coded (sgr.Foreground (color.PaletteIndex i)) h k = palette_coded 30 i (omega arith) h
coded (sgr.Foreground (color.TrueColor c)) h k = color_coded 38 c (omega arith) h
coded (sgr.Background (color.PaletteIndex i)) h k = palette_coded 40 i (omega arith) h
coded (sgr.Background (color.TrueColor c)) h k = color_coded 48 c (omega arith) h
coded (sgr.Font (font.Alternate n)) h k = absurd cc
coded (sgr.Intensity Normal) h k = fixed _ refl refl (omega arith) (omega arith)
coded (sgr.Underline underline.None) h k = fixed _ refl refl (omega arith) (omega arith)
coded (sgr.Blink blink.None) h k = fixed _ refl refl (omega arith) (omega arith)
coded (sgr.VerticalAlign align.BaseLine) h k = fixed _ refl refl (omega arith) (omega arith)
coded (sgr.Italic true) h k = fixed _ refl refl (omega arith) (omega arith)
coded (sgr.Inverse true) h k = fixed _ refl refl (omega arith) (omega arith)
coded (sgr.Invisible true) h k = fixed _ refl refl (omega arith) (omega arith)
coded (sgr.StrikeThrough true) h k = fixed _ refl refl (omega arith) (omega arith)
coded (sgr.Overline true) h k = fixed _ refl refl (omega arith) (omega arith)
coded s h k = fixed (sgr_text s) refl refl (omega arith) (omega arith)

-- ---- a list that leaves its last parameter out ends in `;`, and so do its bytes

pub same_ends : (xs ys : List ℕ) (a b : ℕ) → xs ++ a ∷ [] ≡ ys ++ b ∷ [] → (xs ≡ ys) × (a ≡ b)
same_ends [] [] a b e = (refl, cc)
same_ends [] (y ∷ ys) a b e = absurd (omega (arith, ap length e, length-append ys (b ∷ [])))
same_ends (x ∷ xs) [] a b e = absurd (omega (arith, ap length e, length-append xs (a ∷ [])))
same_ends (x ∷ xs) (y ∷ ys) a b e =
    let others : xs ++ a ∷ [] ≡ ys ++ b ∷ [] = cc in
    let first : x ≡ y = cc in
    let more = same_ends xs ys a b others in
    (cc (first, more.0), more.1)

last_ends : (list : List CsiParam) → is_byte 59 (slice_get list (length list - 1)) ≡ true → EndsInSemicolon list
last_ends [] e = cc
last_ends (Integer z ∷ []) e = cc
last_ends (P b ∷ []) e = ([], rw (eqb-true b 59 e) refl)
last_ends (t ∷ u ∷ us) e =
    let next : length (t ∷ u ∷ us) - 1 ≡ suc (length (u ∷ us) - 1) = omega arith in
    let more = last_ends (u ∷ us) (rw next at e) in
    (t ∷ more.0, ap (λ (l : List CsiParam). t ∷ l) more.1)

pub none_open : (g : Group) (list : List CsiParam) → ¬ EndsInSemicolon list → leaves_out g list ≡ false
none_open Styles list unended = elim (cases_Bool (is_byte 59 (slice_get list (length list - 1)))) [
  | inl last ↦ absurd (unended (last_ends list last))
  | inr other ↦ other
]
none_open _ list unended = refl

pub ends_spelled : (body : List ℕ) (list : List CsiParam) → Spells body list → EndsInSemicolon list → (front : List ℕ) × (body ≡ front ++ 59 ∷ [])
ends_spelled body [] s ([], e) = absurd cc
ends_spelled body [] s (f ∷ front, e) = absurd cc
ends_spelled body (t ∷ []) (own, rest, e, is, none) ends = ([], e ∙ ap (λ (l : List ℕ). own ++ l) none ∙ append-nil own ∙ token t own is ends)
  where
    token : (t : CsiParam) (own : List ℕ) → SpellsToken own t → EndsInSemicolon (t ∷ []) → own ≡ 59 ∷ []
    token (P b) own is ([], f) = is ∙ ap (λ (x : ℕ). x ∷ []) cc
    token (Integer z) own is ([], f) = absurd cc
    token t own is (x ∷ [], f) = absurd (omega (arith, ap length f))
    token t own is (x ∷ y ∷ more, f) = absurd (omega (arith, ap length f))
ends_spelled body (t ∷ u ∷ us) (own, rest, e, is, others) (front, f) =
    let more = ends_spelled rest (u ∷ us) others (behind front f) in
    (own ++ more.0, e ∙ ap (λ (l : List ℕ). own ++ l) more.1 ∙ sym (append_assoc own more.0 (59 ∷ [])))
  where
    behind : (front : List CsiParam) → t ∷ u ∷ us ≡ front ++ semicolon ∷ [] → EndsInSemicolon (u ∷ us)
    behind [] f = absurd (omega (arith, ap length f))
    behind (x ∷ front) f = let more : u ∷ us ≡ front ++ semicolon ∷ [] = cc in (front, more)

ends_code : (xs bs front : List ℕ) → AreCodes bs → 0 < length bs → xs ++ bs ≡ front ++ 59 ∷ [] → ⊥
ends_code xs [] front h some e = omega (arith, some)
ends_code xs (b ∷ []) front h some e = let last = (same_ends xs front b 59 e).1 in absurd (grind arith)
ends_code xs (b ∷ c ∷ bs) front h some e = ends_code (xs ++ b ∷ []) (c ∷ bs) front h.1 (omega arith) (append_assoc xs (b ∷ []) (c ∷ bs) ∙ e)

pub unended : (body : List ℕ) (list : List CsiParam) → Spells body list → AreCodes body → ¬ EndsInSemicolon list
unended body list s are ends =
    let (front, e) = ends_spelled body list s ends in ends_code [] body front are (omega (arith, ap length e, length-append front (59 ∷ []))) e

-- ---- the list of a style, and that of a colour, leaves none out at its end

pub style_closed : (s : Sgr) (list : List CsiParam) (final : ℕ) → SgrInRange s → hides s ≡ false → Seq (27 ∷ 91 ∷ sgr_text s) list final
    → leaves_out (group list final) list ≡ false
style_closed s list final h k seq =
    let (body, is, are, some, few) = coded s h k in
    let ends = same_ends body seq.body 109 final (sym is ∙ ap (drop 2) seq.whole) in
    none_open (group list final) list (unended seq.body list seq.spelled (subst AreCodes ends.0 are))

ends_number : (xs front : List ℕ) (n : ℕ) → n < 256 → xs ++ decimal n ≡ front ++ 59 ∷ [] → ⊥
ends_number xs front n h e = let k : n < 1000 = omega (arith, h) in ends_code xs (decimal n) front (number_codes n k) (some_digits n k) e

ends_color : (xs front : List ℕ) (color : ColorSpec) → IsOpaque color → xs ++ color_list color ≡ front ++ 59 ∷ [] → ⊥
ends_color xs front color.Default h e = h
ends_color xs front (color.PaletteIndex i) h e = ends_number (xs ++ 53 ∷ 59 ∷ []) front i h (append_assoc xs (53 ∷ 59 ∷ []) (decimal i) ∙ e)
ends_color xs front (color.TrueColor c) (r, g, b, a) e =
    let parts = decimal c.0 ++ 59 ∷ (decimal c.1 ++ 59 ∷ []) in
    let behind : parts ++ decimal c.2 ≡ decimal c.0 ++ 59 ∷ (decimal c.1 ++ 59 ∷ decimal c.2) =
    append_assoc (decimal c.0) (59 ∷ (decimal c.1 ++ 59 ∷ [])) (decimal c.2) ∙ ap (λ (l : List ℕ). decimal c.0 ++ 59 ∷ l) (append_assoc (decimal c.1) (59 ∷ []) (decimal c.2)) in
    ends_number (xs ++ 50 ∷ 59 ∷ parts) front c.2 b (append_assoc xs (50 ∷ 59 ∷ parts) (decimal c.2) ∙ ap (λ (l : List ℕ). xs ++ 50 ∷ 59 ∷ l) behind ∙ e)

color_closed : (bytes rest : List ℕ) (style : Sgr) (list : List CsiParam) → IsColored bytes style rest → Reads bytes list 109 rest
    → leaves_out (group list 109) list ≡ false
color_closed bytes rest style list (plane, color, opaque, paints, stands) (front, seq, whole) =
    let head = plane_byte plane ∷ 56 ∷ 59 ∷ [] in
    let both : front ++ rest ≡ (27 ∷ 91 ∷ (head ++ (color_list color ++ 109 ∷ []))) ++ rest =
    sym whole ∙ stands ∙ ap (λ (l : List ℕ). 27 ∷ 91 ∷ (head ++ l)) (sym (append_assoc (color_list color) (109 ∷ []) rest)) in
    let own : front ≡ 27 ∷ 91 ∷ (head ++ (color_list color ++ 109 ∷ [])) = append_cancel_right front _ rest both in
    let ends : seq.body ++ 109 ∷ [] ≡ head ++ (color_list color ++ 109 ∷ []) = ap (drop 2) (sym seq.whole ∙ own) in
    let body : seq.body ≡ head ++ color_list color = (same_ends seq.body (head ++ color_list color) 109 109 ends).0 in
    none_open (group list 109) list (λ last. (let (to, e) = ends_spelled seq.body list seq.spelled last in ends_color head to color opaque (sym body ∙ e)))

pub color_taken : (len : ℕ) (bytes rest : List ℕ) (style : Sgr) (list : List CsiParam) → IsColored bytes style rest → Reads bytes list 109 rest
    → Actions list false 109 (SgrAction style ∷ []) → len ≡ length bytes - length rest → IsTakenFor (take len bytes) (SgrAction style ∷ [])
color_taken len bytes rest style list colored reads are is =
    closed_taken (take len bytes) list 109 (SgrAction style ∷ []) (front_read len bytes rest list 109 reads is) are refl (color_closed bytes rest style list colored reads)

-- ---- one control sequence

pub style_range : (s : Sgr) → ReadsAlone (action.Sgr s) false → SgrInRange s
style_range s r =
    let o = one-sequence (text (action.Sgr s)) false (action.Sgr s) r.back in
    (parsed-kept o.list false o.final (action.Sgr s ∷ []) o.is.spellable o.is.ends o.read).0.range

pub piece : (s : Sgr) → ReadsAlone (action.Sgr s) false → hides s ≡ false → IsSequence (text (action.Sgr s)) × (length (text (action.Sgr s)) ≤ longest)
piece s r shown =
    let o = one-sequence (text (action.Sgr s)) false (action.Sgr s) r.back in
    let (body, is, are, some, few) = coded s (style_range s r) shown in
    ((o.list, o.final, o.is), omega (arith, ap length is, length-append body (109 ∷ []), few))

-- and it is taken for the style
pub style_taken : (s : Sgr) → ReadsAlone (action.Sgr s) false → hides s ≡ false → IsTakenFor (text (action.Sgr s)) (action.Sgr s ∷ [])
style_taken s r shown =
    let o = one-sequence (text (action.Sgr s)) false (action.Sgr s) r.back in
    closed_taken (text (action.Sgr s)) o.list o.final (action.Sgr s ∷ []) o.is o.read refl (style_closed s o.list o.final (style_range s r) shown o.is)
