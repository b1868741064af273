-- What is written of a key in any encoding is read as what that says of it: the records of Win32-input-mode, and all together.
use Rattle.std.proofs.Common.{◌≡◌, ℕ, ◌+◌, ◌*◌, ◌/◌, ◌%◌, ◌<◌, List, [], ◌∷◌, Option, None, Some, refl, sym, ap, ◌∙◌, arith, subst, eqb-true, lt-ltb, ltb-true, Bool, true, false, not, ◌==◌, ◌&&◌, ◌||◌, nat_lt, option_and_then, option_map, inl, inr, ◌++◌, encode_utf8, decimal}
use Rattle.std.proofs.{lemmas.Bool.agree_below, lemmas.Bool.agree_below_at, lemmas.Bool.and_parts, lemmas.Bool.cases_Bool, lemmas.Bool.and_from}
use Rattle.std.proofs.{lemmas.Option.same_Some, lemmas.Str.encode_ascii}
use Rattle.std.specs.Option.{option_or}
use Rattle.csicodec_keys.specs.Win32.{char_record, control_unit, down_of, held_in, is_enhanced, key_record, read_record, read_win32, record_list, record_of, row_record, state_of, typed_key, typed_unit, unit_of, unit_text, win32_code, win32_key, win32_row}
use Rattle.csicodec_keys.specs.Forms.{by, key_alone, other_key, read_csi, said, said_key, told_by, but_release, form_of, legacy_form, other_form, row_form, rxvt_form, xterm_form, xterm_held, form_bytes}
use Rattle.csicodec_keys.specs.{declared.code.KeyCode.KeyCode, declared.key.Encoding.Encoding, declared.tables.Row.Row, declared.win32.Record.Record}
use Rattle.csicodec_keys.specs.{Characters.is_typed, Fields.Says, Fields.read_list, Fields.written_list, Keys.Stroke, Keys.is_stroke, Rows.row_at, Rows.row_of}
use Rattle.csicodec_keys.specs.{Tables.rows, declared.key.KeyEvent.KeyEvent, declared.writing.KeySpelling.KeySpelling, Sent.IsFront, Sent.IsToldAs}
use Rattle.csicodec_keys.specs.{declared.rows.Table.Table}
use Rattle.csicodec_keys.proofs.Fronts.{is_end, alt-front, linux-front, list-front, shift-front, ss3-front, text-front}
use Rattle.csicodec_keys.proofs.{AnyTable.of-rows, AnyTable.same-row, AnyTable.allowed, AnyTable.four, AnyTable.guarded, AnyTable.made, AnyTable.three}
use Rattle.csicodec_keys.proofs.{EachTable.is_win32, EachTable.each-read, EachTable.Fine, EachTable.is_small, EachTable.is_listed, EachTable.is_sound}
use Rattle.csicodec_keys.proofs.{Legacy.in-range, Legacy.kitty-fine, Legacy.legacy-fine, Legacy.linux-fine, Legacy.other-fine, Legacy.rxvt-fine}
use Rattle.csicodec_keys.proofs.{Lists.good-list, Lists.good-record}
use lib.Utf8.{scalar, scalars}
use Rattle.csicodec_tokens.specs.Param.{spells}
use Rattle.csicodec_events.specs.{declared.input.InputEvent.InputEvent, declared.event.Event.Event}

-- no row has virtual key 0
no-row : (b : Bool) → win32_row 0 b ≡ None
unfolding row_at rows
no-row true = refl
no-row false = refl

-- ---- a record is read as it is

pub small-parts : (r : Record) → is_small r ≡ true
    → (nat_lt r.vk 4294967296 ≡ true) × (nat_lt r.uc 4294967296 ≡ true) × (nat_lt r.kd 4294967296 ≡ true) × (nat_lt r.cs 4294967296 ≡ true)
small-parts r h = four (nat_lt r.vk 4294967296) (nat_lt r.uc 4294967296) (nat_lt r.kd 4294967296) (nat_lt r.cs 4294967296) h

-- it is no list of another encoding, which has no modifiers 0
not-listed : (r : Record) → is_small r ≡ true → read_list (record_list r) ≡ None
not-listed r h = rw (small-parts r h).0 refl

read-back : (r : Record) → is_small r ≡ true → read_record (record_list r) ≡ Some r
read-back r h = let p = small-parts r h in rw (p.0, p.1, p.2, p.3) refl

-- what other encodings make of a list
abbrev others : Says → Option (Encoding × Stroke)
others says = option_or (by (told_by says 95) (said_key says 95)) (by Encoding.ModifyOtherKeys (other_key says 95 says.text))

told-read : (r : Record) (k : KeyCode) → is_small r ≡ true → win32_code (win32_row r.vk (is_enhanced r.cs)) (typed_unit r.uc) ≡ Some k
    → key_alone (read_csi (record_list r) 95) ≡ Some (typed_key r.cs r.kd (typed_unit r.uc) k)
told-read r k h e =
    ap (λ o. key_alone (option_or (option_and_then others o) (by Encoding.Win32 (read_win32 (record_list r) 95)))) (not-listed r h)
    ∙ (ap (λ o. key_alone (by Encoding.Win32 (option_and_then win32_key o))) (read-back r h) ∙ ap (λ o. key_alone (by Encoding.Win32 (option_map (typed_key r.cs r.kd (typed_unit r.uc)) o))) e)

-- ---- what it types

control-low : (k : KeyCode) (held : ℕ) → control_unit k held < 32
control-low k held = elim k as (λ x. control_unit x held < 32) [ KeyCode.Char c ↦ grind arith | _ ↦ omega arith ]

control-typed : (c : ℕ) → c < 32 → is_typed c ≡ false
control-typed c h = grind arith

-- its unit is one, and gives the text
record Types (text : List ℕ) (uc : ℕ) : Type 0 where
  small : uc < 65536
  gives : unit_text (typed_unit uc) ≡ text

unit-types : (k : KeyCode) (held uc : ℕ) (text : List ℕ) → unit_of k held text ≡ Some uc → Types text uc
unit-types k held uc [] e =
    let low : uc < 32 = subst (λ n. n < 32) (same_Some (control_unit k held) uc e) (control-low k held) in
    record { small = omega (arith, low); gives = rw (control-typed uc low) refl }
unit-types k held uc (c ∷ []) e = allowed (Types (c ∷ [])) (is_typed c && nat_lt c 65536) c uc e (λ h.
    let p = and_parts (is_typed c) (nat_lt c 65536) h in
    record { small = ltb-true c 65536 p.1; gives = rw p.0 refl })
unit-types k held uc (c ∷ d ∷ cs) e = cc

-- ---- the modifiers

abbrev comes_back : ℕ → Bool
comes_back n = not (n / 8 % 8 == 0) || (held_in (state_of (n % 256) + 256 * (n / 256)) == n % 256)

all-back : agree_below comes_back (λ n. true) 512 ≡ true
all-back = refl

held-back : (enhanced held : ℕ) → enhanced < 2 → held < 256 → held / 8 % 8 ≡ 0 → held_in (state_of held + 256 * enhanced) ≡ held
held-back enhanced held small low none =
    let n = held + 256 * enhanced in
    let bits : n / 8 % 8 ≡ 0 = omega (arith, small, low, none) in
    let low_part : n % 256 ≡ held = omega (arith, small, low) in
    let high_part : n / 256 ≡ enhanced = omega (arith, small, low) in
    let here : comes_back n ≡ true = agree_below_at comes_back (λ n. true) 512 n all-back (omega (arith, small, low)) in
    eqb-true (held_in (state_of held + 256 * enhanced)) held (rw (bits, low_part, high_part) at here)

-- ---- the key of a row

row-coded : (k : KeyCode) (r : Row) (c : Option ℕ) → row_of (rows Table.Win32) k 0 ≡ Some r → win32_code (win32_row (r.number % 256) (r.number / 256 % 2 == 1)) c ≡ Some k
row-coded k r c is =
    of-rows is_win32 (λ j _ x. win32_code (win32_row (x.number % 256) (x.number / 256 % 2 == 1)) c ≡ Some j) (λ (x : Row). x) Table.Win32 k 0 r each-read.4 (λ q h.
    let (p, at, code, held) = same-row (win32_row (q.number % 256) (q.number / 256 % 2 == 1)) q h in rw at (ap Some code)) (ap (option_map (λ (x : Row). x)) is)

said-same : (s : Stroke) (cs : ℕ) (c : Option ℕ) → held_in cs ≡ s.held → unit_text c ≡ s.text → typed_key cs (down_of s.event) c s.code ≡ said Encoding.Win32 s
said-same s cs c held text = rw (held, text) refl

-- the key of a record whose virtual key, or whose character, is that of the key
told-fine : (s : Stroke) (vk uc enhanced : ℕ) → s.held < 256 → s.held / 8 % 8 ≡ 0 → vk < 4294967296 → uc < 65536 → enhanced < 2
    → win32_code (win32_row vk (enhanced == 1)) (typed_unit uc) ≡ Some s.code → unit_text (typed_unit uc) ≡ s.text
    → Fine s.text (said Encoding.Win32 s) (KeySpelling.Win32 (record { vk = vk; uc = uc; kd = down_of s.event; cs = state_of s.held + 256 * enhanced }))
told-fine s vk uc enhanced low none key unit two coded text =
    let r : Record = record { vk = vk; uc = uc; kd = down_of s.event; cs = state_of s.held + 256 * enhanced } in
    let state : state_of s.held < 256 = omega arith in
    let down : down_of s.event < 2 = grind arith in
    let same : is_enhanced r.cs ≡ (enhanced == 1) = ap (λ n. n == 1) (omega (arith, state, two)) in
    let small : is_small r ≡ true =
    rw (lt-ltb vk 4294967296 key, lt-ltb uc 4294967296 (omega (arith, unit)), lt-ltb r.kd 4294967296 (omega (arith, down)), lt-ltb r.cs 4294967296 (omega (arith, state, two))) refl in
    record {
      read = told-read r s.code small (rw same coded) ∙ ap Some (said-same s r.cs (typed_unit uc) (held-back enhanced s.held two low none) text);
      sound = small;
    }

row-fine : (s : Stroke) (r : Row) (uc : ℕ) → s.held < 256 → s.held / 8 % 8 ≡ 0 → row_of (rows Table.Win32) s.code 0 ≡ Some r → unit_of s.code s.held s.text ≡ Some uc
    → Fine s.text (said Encoding.Win32 s) (KeySpelling.Win32 (row_record r.number (down_of s.event) (state_of s.held) uc))
row-fine s r uc low none is unit =
    let types = unit-types s.code s.held uc s.text unit in
    told-fine s (r.number % 256) uc (r.number / 256 % 2) low none (omega arith) types.small (omega arith) (row-coded s.code r (typed_unit uc) is) types.gives

-- ---- a key that has no row

char-fine : (s : Stroke) (k : KeyCode) (text : List ℕ) (r : Record) → s.held < 256 → s.held / 8 % 8 ≡ 0 → s.code ≡ k → s.text ≡ text
    → char_record k (down_of s.event) (state_of s.held) text ≡ Some r → Fine s.text (said Encoding.Win32 s) (KeySpelling.Win32 r)
char-fine s (KeyCode.Char c) [] r low none same is e = cc
char-fine s (KeyCode.Char c) (d ∷ []) r low none same is e =
    allowed (λ x. Fine s.text (said Encoding.Win32 s) (KeySpelling.Win32 x)) ((c == d) && is_typed c && nat_lt c 65536) (record { vk = 0; uc = c; kd = down_of s.event; cs = state_of s.held }) r e (λ h.
    let p = and_parts ((c == d) && is_typed c) (nat_lt c 65536) h in
    let q = and_parts (c == d) (is_typed c) p.0 in
    let unit : typed_unit c ≡ Some c = rw q.1 refl in
    let coded : win32_code (win32_row 0 false) (typed_unit c) ≡ Some s.code =
    ap (λ o. win32_code o (typed_unit c)) (no-row false) ∙ (ap (option_map (λ x. KeyCode.Char x)) unit ∙ ap Some (sym same)) in
    let text : unit_text (typed_unit c) ≡ s.text = ap unit_text unit ∙ (ap (λ n. n ∷ []) (eqb-true c d q.0) ∙ sym is) in
    let plain : state_of s.held + 256 * 0 ≡ state_of s.held = omega arith in
    subst (λ n. Fine s.text (said Encoding.Win32 s) (KeySpelling.Win32 (record { vk = 0; uc = c; kd = down_of s.event; cs = n }))) plain
    (told-fine s 0 c 0 low none (omega arith) (ltb-true c 65536 p.1) (omega arith) coded text))
char-fine s (KeyCode.Char c) (d ∷ x ∷ xs) r low none same is e = cc
char-fine s _ text r low none same is e = cc

-- ---- both

pub record-fine : (s : Stroke) (r : Record) → s.held < 256 → record_of s ≡ Some r → Fine s.text (said Encoding.Win32 s) (KeySpelling.Win32 r)
record-fine s r low e =
    let g = guarded (s.held / 8 % 8 == 0) (key_record (row_of (rows Table.Win32) s.code 0) s (down_of s.event)) r e in
    by_row (eqb-true (s.held / 8 % 8) 0 g.0) (row_of (rows Table.Win32) s.code 0) refl g.1
  where
    by_row : s.held / 8 % 8 ≡ 0 → (o : Option Row) → row_of (rows Table.Win32) s.code 0 ≡ o → key_record o s (down_of s.event) ≡ Some r → Fine s.text (said Encoding.Win32 s) (KeySpelling.Win32 r)
    by_row none (Some row) at made_of =
        made (λ x. Fine s.text (said Encoding.Win32 s) (KeySpelling.Win32 x)) (row_record row.number (down_of s.event) (state_of s.held)) (unit_of s.code s.held s.text) r made_of
        (λ uc is. row-fine s row uc low none at is)
    by_row none None at made_of = char-fine s s.code s.text r low none refl refl made_of

-- ---- What is written of a key is read as what its encoding says of it, and told as the event and the list that it is read of.

-- ---- read

-- by what xterm's encoding says of modifiers
eight : (s : Stroke) (f : KeySpelling) (g : ℕ → Option KeySpelling) (P : Type 0) → (s.held % 8 < 8 → g (s.held % 8) ≡ Some f → P) → xterm_form s g ≡ Some f → P
eight s f g P trip e =
    let u = released s.event (option_and_then g (xterm_held s.held)) f e in
    elim (cases_Bool (nat_lt (s.held % 64) 8)) [
      | inl some ↦ trip (omega arith) (rw some at u)
      | inr none ↦ let no : ◌≡◌ {A = Option KeySpelling} None (Some f) = rw none at u in cc
    ]
  where
    released : (e : KeyEvent) (o : Option KeySpelling) (f : KeySpelling) → but_release e o ≡ Some f → o ≡ Some f
    released KeyEvent.Press o f e = e
    released KeyEvent.Repeat o f e = e
    released KeyEvent.Release o f e = cc

pub trip : (e : Encoding) (s : Stroke) (f : KeySpelling) → is_stroke s ≡ true → form_of e s ≡ Some f → Fine s.text (said e s) f
trip Encoding.Legacy s f h e = eight s f (legacy_form s) (Fine s.text (said Encoding.Legacy s) f) (λ low made. legacy-fine s (s.held % 8) f low made) e
trip Encoding.ModifyOtherKeys s f h e = eight s f (other_form s.code) (Fine s.text (said Encoding.ModifyOtherKeys s) f) (λ low made. other-fine s.code (s.held % 8) s.text f low made) e
trip Encoding.Kitty s f h e = kitty-fine s f (in-range s h) e
trip Encoding.Win32 s f h e = made (Fine s.text (said Encoding.Win32 s)) (λ r. KeySpelling.Win32 r) (record_of s) f e (λ r is. record-fine s r (in-range s h).held is)
trip Encoding.Rxvt s f h e = eight s f (rxvt_form s.code) (Fine s.text (said Encoding.Rxvt s) f) (λ low made. rxvt-fine s.code (s.held % 8) s.text f made) e
trip Encoding.Linux s f h e = eight s f (row_form Table.Linux s.code) (Fine s.text (said Encoding.Linux s) f) (λ low made. linux-fine s.code (s.held % 8) s.text f made) e

-- ---- told

told-list : (n held : ℕ) (e : KeyEvent) (text : List ℕ) (control : ℕ) → scalars text ≡ true → is_listed n held control ≡ true
    → IsFront (27 ∷ 91 ∷ (spells (written_list n held e text) ++ encode_utf8 control)) (InputEvent.Output (Event.Csi control)) (written_list n held e text)
told-list n held e text control s h =
    let p = three (nat_lt n 4294967296) (nat_lt held 256) (is_end control) h in
    list-front (written_list n held e text) control (good-list n held e text (ltb-true n 4294967296 p.0) (ltb-true held 256 p.1) s) p.2

told : (f : KeySpelling) (text : List ℕ) → scalars text ≡ true → is_sound f ≡ true → IsToldAs f text (form_bytes f text)
told (KeySpelling.Text c) text s h = text-front c (grind arith) (λ e. grind arith)
told (KeySpelling.Alt c) text s h = alt-front c h
told (KeySpelling.Ss3 c) text s h = ss3-front c h
told (KeySpelling.Linux c) text s h = linux-front c h
told (KeySpelling.Rxvt n) text s h = subst (λ (t : List ℕ). IsFront (27 ∷ 91 ∷ (decimal n ++ (t ++ []))) (InputEvent.Rxvt n) []) (sym (encode_ascii 36 (omega arith))) (shift-front (decimal n) n h)
told KeySpelling.Escape text s h = λ limit. (refl, refl, refl, refl)
told (KeySpelling.Csi n held control) text s h = told-list n held KeyEvent.Press [] control refl h
told (KeySpelling.Other n held) text s h =
    let p = and_parts (scalar n) (nat_lt held 256) h in told-list 27 held KeyEvent.Press (n ∷ []) 126 (and_from (scalar n) true p.0 refl) (and_from (nat_lt held 256) true p.1 refl)
told (KeySpelling.Typed n held e control) text s h = told-list n held e text control s h
told (KeySpelling.Win32 r) text s h =
    let p = small-parts r h in
    list-front (record_list r) 95 (good-record r.vk r.uc r.kd r.cs (ltb-true r.vk 4294967296 p.0) (ltb-true r.uc 4294967296 p.1) (ltb-true r.kd 4294967296 p.2) (ltb-true r.cs 4294967296 p.3)) refl

pub written_told : (e : Encoding) (s : Stroke) (f : KeySpelling) → is_stroke s ≡ true → form_of e s ≡ Some f → IsToldAs f s.text (form_bytes f s.text)
written_told e s f h made = told f s.text (in-range s h).text (trip e s f h made).sound
