-- What the tests of `table.rt` find in front of bytes is what the one row says that fits them: how it begins, and that it stays, whatever follows.
pub use Rattle.csicodec_spans.specs.Private.TableBy.{in_string}
use Rattle.std.proofs.Common.{◌≡◌, ◌≢◌, ◌⊎◌, ◌<◌, ◌≤◌, ℕ, suc, Bool, true, false, List, [], ◌∷◌, ◌++◌, length, take, refl, subst, inl, inr, arith, eqb-true, ◌==◌, Some, sym, ap, ◌∙◌, ◌&&◌, nat_lt, slice_get, if◌then◌else◌}
use Rattle.std.proofs.{lemmas.Bool.Decides.nat_tests, lemmas.Bool.cases_Bool, lemmas.Bool.and_from}
use Rattle.std.specs.List.{AllByRecursion}
use Rattle.csicodec_spans.specs.Table.{Answer, More, Anew, Sequence, Undecided, within, openers, ModeRow, mode_table, every_mode, holds_in, begin_with, fits_front, ahead, HasOneRow}
use Rattle.csicodec_spans.specs.Private.TableBy.{is_within, opens_string, stays, ends, look, meant, is_dcs, intermediate, opened, escape}
use Rattle.csicodec_spans.specs.{declared.table.Kind.Kind, declared.table.Mode.Mode, declared.table.Ahead.Ahead, declared.table.Ahead.TheVariants.GoesOn}
use Rattle.csicodec_spans.specs.{declared.table.Ahead.TheVariants.Ends, declared.table.Ahead.TheVariants.New, declared.table.Ahead.TheVariants.Unsure}
use Rattle.csicodec_spans.specs.{declared.table.Ahead.TheVariants.Esc, declared.table.Ahead.TheVariants.Csi, Iteration.BeginsAs}
use Rattle.csicodec_spans.proofs.Apart.{one_row, said}

-- ESC stands at most at the front
abbrev pub OnlyFirst : List ℕ → Type 0
OnlyFirst [] = Unit {0}
OnlyFirst (b ∷ bs) = AllByRecursion (λ (c : ℕ). c ≢ 27) bs

abbrev pub is_str : Kind → Bool
is_str Kind.Str = true
is_str _ = false

-- one byte of a string that is open, and no ESC; or ESC and a byte, which is the `\` of ST only where a string is open
abbrev pub IsPiece : Mode → List ℕ → Type 0
IsPiece m bytes = ((c : ℕ) × (bytes ≡ c ∷ []) × ((c == 27) ≡ false) × (in_string m ≡ true)) ⊎ ((c : ℕ) × (bytes ≡ 27 ∷ c ∷ []) × (in_string m ≡ false → (c == 92) ≡ false))

-- a part of a string is such a piece, and behind any other no string is open; one of text is a byte, and an escape sequence begins with ESC
abbrev pub IsFit : Mode → Kind → List ℕ → Mode → Type 0
IsFit m Kind.Str bytes a = IsPiece m bytes
IsFit m Kind.Text bytes a = (in_string a ≡ false) × (length bytes ≡ 1)
IsFit m Kind.Esc bytes a = (in_string a ≡ false) × ((more : List ℕ) × (bytes ≡ 27 ∷ more))
IsFit m _ bytes a = in_string a ≡ false

-- n bytes of the kind, and this mode behind them
pub record Found (m : Mode) (k : Kind) (n : ℕ) (a : Mode) (bytes : List ℕ) : Type 0 where
  pub some : 0 < n
  pub within : n ≤ length bytes
  pub other : k ≢ Kind.Csi
  pub text : k ≡ Kind.Text → a ≡ Mode.Text
  pub fit : IsFit m k (take n bytes) a

abbrev pub Sound : Mode → List ℕ → Answer → Type 0
Sound m bytes (More k n a) = Found m k n a bytes × (OnlyFirst (take n bytes) ⊎ ((take n bytes ≡ 27 ∷ 27 ∷ []) × (k ≡ Kind.Str))) × (m ≡ Mode.Text → BeginsAs k (take n bytes))
Sound m bytes (Anew k n a) = Found m k n a bytes × OnlyFirst (take n bytes) × BeginsAs k (take n bytes)
Sound m bytes Sequence = (body : List ℕ) × (bytes ≡ 27 ∷ 91 ∷ body)
Sound m bytes Undecided = (length bytes < 3) × ((bytes ≡ []) ⊎ ((more : List ℕ) × (bytes ≡ 27 ∷ more)))

abbrev pub Told : Mode → List ℕ → Ahead → Type 0
Told m bytes f = Sound m bytes (meant m f)

-- ---- the first byte

no_text : (m : Mode) → in_string m ≡ true → m ≢ Mode.Text
no_text m string is = let e = subst (λ (x : Mode). in_string x ≡ true) is string in cc

-- a byte of a string, and one of what went wrong
string_byte : (m a : Mode) (b : ℕ) (bytes : List ℕ) → in_string m ≡ true → (b == 27) ≡ false → Sound m (b ∷ bytes) (More Kind.Str 1 a)
string_byte m a b bytes string e =
    (record { some = omega arith; within = omega arith; other = λ i. absurd cc; text = λ i. absurd cc; fit = inl (b, refl, e, string) }, inl tt, λ is. absurd (no_text m string is))

wrong_byte : (m a : Mode) (b : ℕ) (bytes : List ℕ) → in_string a ≡ false → m ≢ Mode.Text → Sound m (b ∷ bytes) (More Kind.Other 1 a)
wrong_byte m a b bytes shut other = (record { some = omega arith; within = omega arith; other = λ i. absurd cc; text = λ i. absurd cc; fit = shut }, inl tt, λ is. absurd (other is))

pub told_stays : (m : Mode) (b : ℕ) (bytes : List ℕ) → stays m b ≡ true → Told m (b ∷ bytes) (GoesOn 1)
told_stays Mode.Text b bytes e =
    (record { some = omega arith; within = omega arith; other = λ i. absurd cc; text = λ i. refl; fit = (refl, refl) }, inl tt, λ i. (b, [], refl, λ is. grind (arith, nat_tests)))
told_stays Mode.BadCsi b bytes e = wrong_byte Mode.BadCsi Mode.BadCsi b bytes refl (λ i. absurd cc)
told_stays Mode.BadEsc b bytes e = wrong_byte Mode.BadEsc Mode.BadEsc b bytes refl (λ i. absurd cc)
told_stays m b bytes e = string_byte m m b bytes refl (grind (arith, nat_tests))

pub told_ends : (m : Mode) (b : ℕ) (bytes : List ℕ) → ends m b ≡ true → Told m (b ∷ bytes) (Ends 1)
told_ends Mode.Osc b bytes e = string_byte Mode.Osc Mode.Text b bytes refl (rw (eqb-true b 7 e) refl)
told_ends Mode.BadCsi b bytes e = wrong_byte Mode.BadCsi Mode.Text b bytes refl (λ i. absurd cc)
told_ends Mode.BadEsc b bytes e = wrong_byte Mode.BadEsc Mode.Text b bytes refl (λ i. absurd cc)
told_ends _ b bytes e = absurd cc

pub told_left : (m : Mode) (b : ℕ) (bytes : List ℕ) → (b == 27) ≡ false → Told m (b ∷ bytes) (New 1 Mode.Text)
told_left m b bytes e = (record { some = omega arith; within = omega arith; other = λ i. absurd cc; text = λ i. refl; fit = (refl, refl) }, tt, (b, [], refl, λ is. grind (arith, nat_tests)))

-- ---- behind ESC

-- more of a string, behind ESC; and what begins anew there: a string, an escape sequence, or what goes wrong
pub string_two : (m a : Mode) (c : ℕ) (bytes : List ℕ) → in_string m ≡ true →
    OnlyFirst (27 ∷ c ∷ []) ⊎ ((27 ∷ c ∷ [] ≡ 27 ∷ 27 ∷ []) × (Kind.Str ≡ Kind.Str)) →
    Sound m (27 ∷ c ∷ bytes) (More Kind.Str 2 a)
string_two m a c bytes string only =
    (record { some = omega arith; within = omega arith; other = λ i. absurd cc; text = λ i. absurd cc; fit = inr (c, refl, λ shut. absurd cc) }, only, λ is. absurd (no_text m string is))

pub string_anew : (m a : Mode) (c : ℕ) (bytes : List ℕ) → within openers c ≡ true → Sound m (27 ∷ c ∷ bytes) (Anew Kind.Str 2 a)
string_anew m a c bytes e =
    (record { some = omega arith; within = omega arith; other = λ i. absurd cc; text = λ i. absurd cc; fit = inr (c, refl, λ shut. grind (arith, nat_tests)) }, (λ is. grind (arith, nat_tests), tt), (c, [], refl, e))

-- n bytes behind ESC that begin anew, and are no text
found_anew : (m a : Mode) (k : Kind) (n : ℕ) (bytes : List ℕ) → n ≤ length bytes → k ≢ Kind.Csi → k ≢ Kind.Text → IsFit m k (27 ∷ take n bytes) a → Found m k (suc n) a (27 ∷ bytes)
found_anew m a k n bytes le other plain fit = record { some = omega arith; within = omega (arith, le); other = other; text = λ i. absurd (plain i); fit = fit }

pub escape_anew : (m : Mode) (n : ℕ) (bytes : List ℕ) → n ≤ length bytes → AllByRecursion (λ (c : ℕ). c ≢ 27) (take n bytes) → Sound m (27 ∷ bytes) (Anew Kind.Esc (suc n) Mode.Text)
escape_anew m n bytes le free =
    (found_anew m Mode.Text Kind.Esc n bytes le (λ i. absurd cc) (λ i. absurd cc) (refl, (take n bytes, refl)), free, (take n bytes, refl))

pub wrong_anew : (m : Mode) (n : ℕ) (bytes : List ℕ) → n ≤ length bytes → AllByRecursion (λ (c : ℕ). c ≢ 27) (take n bytes) → Sound m (27 ∷ bytes) (Anew Kind.Other (suc n) Mode.BadEsc)
wrong_anew m n bytes le free = (found_anew m Mode.BadEsc Kind.Other n bytes le (λ i. absurd cc) (λ i. absurd cc) refl, free, (take n bytes, refl))

pub final : (c : ℕ) → is_within 48 126 c ≡ true → c ≢ 27
final c e is = grind (arith, nat_tests)

pub opener : (c : ℕ) → opens_string c ≡ true → within openers c ≡ true
opener c e = grind (arith, nat_tests)

-- ---- what is decided stays, whatever follows

-- the second is the first, unless that isn't sure
abbrev pub IsKept : Ahead → Ahead → Type 0
IsKept f g = (f ≡ Unsure) ⊎ (g ≡ f)

pub kept_look : (m : Mode) (bytes more : List ℕ) → IsKept (look m bytes) (look m (bytes ++ more))
kept_look m [] more = inl refl
kept_look m (b ∷ []) more = grind arith
kept_look m (b ∷ c ∷ []) more = grind arith
kept_look m (b ∷ c ∷ d ∷ bytes) more = inr refl

-- ---- What the tests of `table.rt` find in front of bytes is what the one row says that fits them.

-- text has no end
abbrev pub IsNoText : Mode → Ahead → Type 0
IsNoText m (Ends n) = m ≢ Mode.Text
IsNoText m _ = Unit {0}

pub record Agrees (m : Mode) (bytes : List ℕ) (f : Ahead) : Type 0 where
  pub one : HasOneRow m bytes
  pub same : ahead m bytes ≡ meant m f
  pub ends : IsNoText m f

by_row : {r : ModeRow} {m : Mode} {bytes : List ℕ} {f : Ahead} (i : ℕ) → slice_get mode_table i ≡ Some r → fits_front m bytes r ≡ true → r.answer ≡ meant m f → IsNoText m f → Agrees m bytes f
by_row {r} {m} {bytes} i at fit same ends = record { one = one_row i r m bytes at fit; same = said i r m bytes at fit ∙ same; ends = ends }

-- the one row says what was found, and it is so
abbrev Right : Mode → List ℕ → Ahead → Type 0
Right m bytes f = Agrees m bytes f × Told m bytes f

-- either way of a test
test : (m : Mode) (bytes : List ℕ) (b : Bool) (x y : Ahead) → (b ≡ true → Right m bytes x) → (b ≡ false → Right m bytes y) → Right m bytes (if b then x else y)
test m bytes true x y h k = h refl
test m bytes false x y h k = k refl

pub in_every : (m : Mode) → holds_in every_mode m ≡ true
in_every m = elim m as (λ x. holds_in every_mode x ≡ true) [ Mode.Text ↦ refl | _ ↦ refl ]

-- a row that holds in every mode
by_any : {r : ModeRow} {m : Mode} {bytes : List ℕ} {f : Ahead} (i : ℕ) →
    slice_get mode_table i ≡ Some r → r.modes ≡ every_mode → begin_with r.spots bytes ≡ true →
    r.answer ≡ meant m f → IsNoText m f → Agrees m bytes f
by_any {r} {m} {bytes} i at modes fit same ends = by_row i at (and_from (holds_in r.modes m) (begin_with r.spots bytes) (rw modes (in_every m)) fit) same ends

-- ---- the first byte

agrees_stays : (m : Mode) (b : ℕ) (bytes : List ℕ) → stays m b ≡ true → Agrees m (b ∷ bytes) (GoesOn 1)
agrees_stays Mode.Text b bytes e = by_row 0 refl (grind (arith, nat_tests)) refl tt
agrees_stays Mode.Osc b bytes e = by_row 2 refl (grind (arith, nat_tests)) refl tt
agrees_stays Mode.Dcs b bytes e = by_row 3 refl (grind (arith, nat_tests)) refl tt
agrees_stays Mode.Str b bytes e = by_row 4 refl (grind (arith, nat_tests)) refl tt
agrees_stays Mode.BadCsi b bytes e = by_row 5 refl (grind (arith, nat_tests)) refl tt
agrees_stays Mode.BadEsc b bytes e = by_row 7 refl (grind (arith, nat_tests)) refl tt

agrees_ends : (m : Mode) (b : ℕ) (bytes : List ℕ) → ends m b ≡ true → Agrees m (b ∷ bytes) (Ends 1)
agrees_ends Mode.Osc b bytes e = by_row 1 refl (grind (arith, nat_tests)) refl (λ text. absurd cc)
agrees_ends Mode.BadCsi b bytes e = by_row 6 refl (grind (arith, nat_tests)) refl (λ text. absurd cc)
agrees_ends Mode.BadEsc b bytes e = by_row 8 refl (grind (arith, nat_tests)) refl (λ text. absurd cc)
agrees_ends _ b bytes e = cc

-- CAN or SUB, or behind what went wrong a byte that is no ASCII
agrees_left : (m : Mode) (b : ℕ) (bytes : List ℕ) → stays m b ≡ false → ends m b ≡ false → (b == 27) ≡ false → Agrees m (b ∷ bytes) (New 1 Mode.Text)
agrees_left Mode.Text b bytes e f g = absurd (grind (arith, nat_tests))
agrees_left _ b bytes e f g = elim (cases_Bool (nat_lt b 128)) [
  | inl low ↦ by_row 10 refl (grind (arith, nat_tests)) refl tt
  | inr high ↦ by_row 9 refl (grind (arith, nat_tests)) refl tt
]

-- ---- behind ESC

agrees_intermediate : (m : Mode) (b : ℕ) (bytes : List ℕ) → is_within 32 47 b ≡ true → Right m (27 ∷ b ∷ bytes) (intermediate bytes)
agrees_intermediate m b [] e = (by_any 25 refl refl (grind (arith, nat_tests)) refl tt, (omega arith, inr (b ∷ [], refl)))
agrees_intermediate m b (c ∷ bytes) e =
    test m (27 ∷ b ∷ c ∷ bytes) (is_within 48 126 c) (Esc 3) (New 2 Mode.BadEsc)
    (λ f. (by_any 18 refl refl (grind (arith, nat_tests)) refl tt, escape_anew m 2 (b ∷ c ∷ bytes) (omega arith) ((λ is. grind (arith, nat_tests)), (final c f, tt))))
    (λ f. (by_any 19 refl refl (grind (arith, nat_tests)) refl tt, wrong_anew m 1 (b ∷ c ∷ bytes) (omega arith) ((λ is. grind (arith, nat_tests)), tt)))

-- behind what is no `\` of an open string, nor a second ESC in a DCS
agrees_opened : (m : Mode) (b : ℕ) (bytes : List ℕ) → (in_string m && b == 92) ≡ false → (is_dcs m && b == 27) ≡ false → Right m (27 ∷ b ∷ bytes) (opened b bytes)
agrees_opened m b bytes st quote =
    let t = test m (27 ∷ b ∷ bytes) in
    t (b == 91) Csi _ (λ e. (by_any 11 refl refl (grind (arith, nat_tests)) refl tt, (bytes, rw (eqb-true b 91 e) refl)))
    (λ csi. t (b == 93) (New 2 Mode.Osc) _ (λ e. (by_any 12 refl refl (grind (arith, nat_tests)) refl tt, string_anew m Mode.Osc b bytes (rw (eqb-true b 93 e) refl)))
    (λ osc. t (b == 80) (New 2 Mode.Dcs) _ (λ e. (by_any 13 refl refl (grind (arith, nat_tests)) refl tt, string_anew m Mode.Dcs b bytes (rw (eqb-true b 80 e) refl)))
    (λ dcs. t (opens_string b) (New 2 Mode.Str) _ (λ e. (by_any 14 refl refl (grind (arith, nat_tests)) refl tt, string_anew m Mode.Str b bytes (opener b e)))
    (λ str. t (is_within 48 126 b) (Esc 2) _ (λ e. (agrees_final m b bytes st csi osc dcs str e, escape_anew m 1 (b ∷ bytes) (omega arith) (final b e, tt)))
    (λ no. t (is_within 32 47 b) (intermediate bytes) (New 1 Mode.BadEsc) (agrees_intermediate m b bytes)
    (λ e. (agrees_wrong m b bytes quote no e, wrong_anew m 0 (b ∷ bytes) (omega arith) tt)))))))
  where
    closes : (m : Mode) (b : ℕ) (bytes : List ℕ) → (in_string m && b == 92) ≡ false → (b == 92) ≡ true → Agrees m (27 ∷ b ∷ bytes) (Esc 2)
    closes Mode.Osc b bytes st e = cc
    closes Mode.Dcs b bytes st e = cc
    closes Mode.Str b bytes st e = cc
    closes m b bytes st e = by_row 16 refl (grind (arith, nat_tests)) refl tt

    agrees_final : (m : Mode) (b : ℕ) (bytes : List ℕ) → (in_string m && b == 92) ≡ false →
        (b == 91) ≡ false → (b == 93) ≡ false → (b == 80) ≡ false → opens_string b ≡ false →
        is_within 48 126 b ≡ true
        → Agrees m (27 ∷ b ∷ bytes) (Esc 2)
    agrees_final m b bytes st csi osc dcs str e =
        elim (cases_Bool (b == 92)) [ inl is ↦ closes m b bytes st is | inr other ↦ by_any 17 refl refl (grind (arith, nat_tests)) refl tt ]

    twice : (m : Mode) (b : ℕ) (bytes : List ℕ) → (is_dcs m && b == 27) ≡ false → (b == 27) ≡ true → Agrees m (27 ∷ b ∷ bytes) (New 1 Mode.BadEsc)
    twice Mode.Dcs b bytes q e = cc
    twice m b bytes q e = by_row 21 refl (grind (arith, nat_tests)) refl tt

    agrees_wrong : (m : Mode) (b : ℕ) (bytes : List ℕ) → (is_dcs m && b == 27) ≡ false → is_within 48 126 b ≡ false → is_within 32 47 b ≡ false → Agrees m (27 ∷ b ∷ bytes) (New 1 Mode.BadEsc)
    agrees_wrong m b bytes quote final e =
        elim (cases_Bool (b == 27)) [ inl is ↦ twice m b bytes quote is | inr apart ↦ by_any 22 refl refl (grind (arith, nat_tests)) refl tt ]

agrees_escape : (m : Mode) (bytes : List ℕ) → Right m (27 ∷ bytes) (escape m bytes)
agrees_escape m [] = (by_any 24 refl refl refl refl tt, (omega arith, inr ([], refl)))
agrees_escape m (b ∷ bytes) =
    let t = test m (27 ∷ b ∷ bytes) in
    t (in_string m && b == 92) (Ends 2) _ (st m b bytes)
    (λ no. t (is_dcs m && b == 27) (GoesOn 2) (opened b bytes) (quote m b bytes) (agrees_opened m b bytes no))
  where
    st : (m : Mode) (b : ℕ) (bytes : List ℕ) → (in_string m && b == 92) ≡ true → Right m (27 ∷ b ∷ bytes) (Ends 2)
    st Mode.Text b bytes e = absurd cc
    st Mode.BadCsi b bytes e = absurd cc
    st Mode.BadEsc b bytes e = absurd cc
    st m b bytes e =
        (by_row 15 refl (grind (arith, nat_tests)) refl (λ text. absurd cc), string_two m Mode.Text b bytes refl (inl (λ is. grind (arith, nat_tests), tt)))

    quote : (m : Mode) (b : ℕ) (bytes : List ℕ) → (is_dcs m && b == 27) ≡ true → Right m (27 ∷ b ∷ bytes) (GoesOn 2)
    quote Mode.Dcs b bytes e =
        (by_row 20 refl (grind (arith, nat_tests)) refl tt, string_two Mode.Dcs Mode.Dcs b bytes refl (inr (rw (eqb-true b 27 e) refl, refl)))
    quote _ b bytes e = absurd cc

-- ---- any bytes

right : (m : Mode) (bytes : List ℕ) → Right m bytes (look m bytes)
right m [] = (by_any 23 refl refl refl refl tt, (omega arith, inl refl))
right m (b ∷ bytes) =
    let t = test m (b ∷ bytes) in
    t (stays m b) (GoesOn 1) _ (λ e. (agrees_stays m b bytes e, told_stays m b bytes e))
    (λ stays. t (ends m b) (Ends 1) _ (λ e. (agrees_ends m b bytes e, told_ends m b bytes e))
    (λ ends. t (b == 27) (escape m bytes) (New 1 Mode.Text)
    (λ e. subst (λ (x : ℕ). Right m (x ∷ bytes) (escape m bytes)) (sym (eqb-true b 27 e)) (agrees_escape m bytes))
    (λ e. (agrees_left m b bytes stays ends e, told_left m b bytes e))))

pub agrees : (m : Mode) (bytes : List ℕ) → Agrees m bytes (look m bytes)
agrees m bytes = (right m bytes).0

pub only_row : (m : Mode) (bytes : List ℕ) → HasOneRow m bytes
only_row m bytes = (agrees m bytes).one

-- the table says what was found
pub found : (m : Mode) (bytes : List ℕ) (f : Ahead) → look m bytes ≡ f → ahead m bytes ≡ meant m f
found m bytes f e = (agrees m bytes).same ∙ ap (meant m) e

pub sound : (m : Mode) (bytes : List ℕ) → Sound m bytes (ahead m bytes)
sound m bytes = subst (Sound m bytes) (sym (agrees m bytes).same) (right m bytes).1

-- what is decided stays, whatever follows
pub kept : (m : Mode) (bytes more : List ℕ) → (ahead m bytes ≡ Undecided) ⊎ (ahead m (bytes ++ more) ≡ ahead m bytes)
kept m bytes more =
    elim (kept_look m bytes more) [ inl none ↦ inl (found m bytes Unsure none) | inr same ↦ inr (found m (bytes ++ more) _ same ∙ sym (found m bytes _ refl)) ]

-- ESC and `[` begin a sequence in every mode
pub opens : (m : Mode) (bytes : List ℕ) → ahead m (27 ∷ 91 ∷ bytes) ≡ Sequence
opens m bytes = said 11 _ m (27 ∷ 91 ∷ bytes) refl (and_from (holds_in every_mode m) true (in_every m) refl)

-- text goes on with every byte but ESC
pub text_goes_on : (b : ℕ) (bytes : List ℕ) → b ≢ 27 → ahead Mode.Text (b ∷ bytes) ≡ More Kind.Text 1 Mode.Text
text_goes_on b bytes other = said 0 _ Mode.Text (b ∷ bytes) refl (grind (arith, nat_tests))
