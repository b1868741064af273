-- What kitty's encoding, xterm's, rxvt's, Linux' console's and modifyOtherKeys write of a key is read as what each says of it.
use Rattle.std.proofs.Common.{◌≡◌, ℕ, ◌<◌, ◌≤◌, length, Option, None, Some, refl, ap, ◌∙◌, ltb-true, leb-true, lt-ltb, true, not, ◌&&◌, nat_le, nat_lt, is_none, option_and_then, option_map, ◌-◌, List, [], ◌∷◌, inl, inr, arith, subst, eqb-true, ltb-false, false, ◌==◌}
use Rattle.std.proofs.{lemmas.Bool.and_from, lemmas.Bool.and_parts, lemmas.Bool.cases_Bool, lemmas.Bool.not-true, lemmas.Bool.and_left, lemmas.Bool.and_right}
use Rattle.std.proofs.{lemmas.Option.same_Some}
use Rattle.std.specs.Option.{option_or}
use lib.Utf8.{scalar_fits, scalars, scalar}
use Rattle.csicodec_keys.specs.Forms.{by, csi_row, form_of, key_alone, kitty_char, kitty_row, other_key, read_listed, said_key, told_by, alt_control, as_form, char_form, legacy_form, legacy_said, pressed, row_form, text_form, text_of, typed_or, typing, with_alt, char_number, numbered, read_form, other_form, other_number, rxvt_form}
use Rattle.csicodec_keys.specs.{declared.code.KeyCode.KeyCode, declared.key.Encoding.Encoding, declared.tables.Row.Row}
use Rattle.csicodec_keys.specs.{declared.writing.KeySpelling.KeySpelling, Characters.is_typed, Characters.is_alt, Fields.Says, Fields.written_list}
use Rattle.csicodec_keys.specs.{Fields.is_plain, Keys.Stroke, Keys.is_code, Keys.is_stroke, Rows.row_of, Rows.row_at, Tables.rows, Win32.read_win32}
use Rattle.csicodec_keys.specs.{declared.key.KeyEvent.KeyEvent, declared.rows.Table.Table, SameKeys.same_code}
use Rattle.csicodec_keys.proofs.EachTable.{each-read, is_char, is_csi, is_read, all-back, alt_back, comes_back, is_alone, is_key, is_no_text, is_other, is_pressed, is_short, Fine, typed-scalar, alt-free, alt-typed, is_sound, typed-text}
use Rattle.csicodec_keys.proofs.AnyTable.{is_same, of-rows, same-row, allowed, either, none-is, three, made, unless}
use Rattle.csicodec_keys.proofs.{Lists.list-read, Lists.plain-parts, Fronts.is_end, SameKeys.same-code}

-- the ranges of a key
pub record InRange (s : Stroke) : Type 0 where
  pub held : s.held < 256
  pub text : scalars s.text ≡ true
  pub short : length s.text ≤ 32

pub in-range : (s : Stroke) → is_stroke s ≡ true → InRange s
in-range s h =
    let a = and_parts (is_code s.code && nat_lt s.held 256 && scalars s.text) (nat_le (length s.text) 32) h in
    let p = and_parts (is_code s.code && nat_lt s.held 256) (scalars s.text) a.0 in
    record { held = ltb-true s.held 256 (and_parts (is_code s.code) (nat_lt s.held 256) p.0).1; text = p.1; short = leb-true (length s.text) 32 a.1 }

-- what is read first is read
pub first-read : (o p : Option (Encoding × Stroke)) (k : Stroke) → key_alone o ≡ Some k → key_alone (option_or o p) ≡ Some k
first-read None p k e = cc
first-read (Some x) p k e = e

-- a list that says this key
said-fine : (s : Stroke) (n control : ℕ) → InRange s → nat_lt n 4294967296 ≡ true → is_end control ≡ true
    → said_key (record { number = n; held = s.held; event = s.event; text = s.text }) control ≡ Some s → Fine s.text s (KeySpelling.Typed n s.held s.event control)
said-fine s n control i small end said =
    let list = written_list n s.held s.event s.text in
    let x : Says = record { number = n; held = s.held; event = s.event; text = s.text } in
    record {
      read = first-read (read_listed list control) (by Encoding.Win32 (read_win32 list control)) s
          (ap (λ o. key_alone (option_and_then (λ (x : Says). option_or (by (told_by x control) (said_key x control)) (by Encoding.ModifyOtherKeys (other_key x control x.text))) o))
          (list-read n s.held s.event s.text small i.held i.text i.short)
          ∙ ap (λ o. key_alone (option_or (by (told_by x control) o) (by Encoding.ModifyOtherKeys (other_key x control s.text)))) said);
      sound = and_from (nat_lt n 4294967296) (nat_lt s.held 256 && is_end control) small (and_from (nat_lt s.held 256) (is_end control) (lt-ltb s.held 256 i.held) end);
    }

-- what is said of this key, of another one
abbrev pub said_as : Stroke → KeyCode → Stroke
said_as s k = record { code = k; held = s.held; event = s.event; text = s.text }

-- a row without modifiers of its own, with those of the list
pub row-with : (r : Row) (s : Stroke) → InRange s → is_read r ≡ true → r.held ≡ 0 → Fine s.text (said_as s r.code) (kitty_row s r)
row-with r s i h none =
    let p = three (nat_lt r.number 4294967296) (is_end r.control) (is_same (csi_row r.number r.control) r) h in
    let (q, at, code, held) = same-row (csi_row r.number r.control) r p.2 in
    said-fine (said_as s r.code) r.number r.control (record { held = i.held; text = i.text; short = i.short }) p.0 p.1 (rw (at, held ∙ none, code) refl)

typed-fine : (s : Stroke) (k : KeyCode) (f : KeySpelling) → InRange s → kitty_char s k ≡ Some f → Fine s.text (said_as s k) f
typed-fine s (KeyCode.Char c) f i e = allowed (Fine s.text (said_as s (KeyCode.Char c))) (is_typed c && is_none (csi_row c 117)) (KeySpelling.Typed c s.held s.event 117) f e (λ h.
    let p = and_parts (is_typed c) (is_none (csi_row c 117)) h in
    said-fine (said_as s (KeyCode.Char c)) c 117 (record { held = i.held; text = i.text; short = i.short }) (lt-ltb c 4294967296 (scalar_fits c (typed-scalar c p.0))) refl
    (rw (none-is (csi_row c 117) p.1, p.0) refl))
typed-fine s _ f i e = cc

pub kitty-fine : (s : Stroke) (f : KeySpelling) → InRange s → form_of Encoding.Kitty s ≡ Some f → Fine s.text s f
kitty-fine s f i e =
    let P = λ (k : KeyCode) (n : ℕ) (x : KeySpelling). n ≡ 0 → Fine s.text (said_as s k) x in
    let shared_fine = λ (r : Row) (h : is_csi r ≡ true). row-with r s i (and_parts (not (is_char r.code)) (is_read r) h).1 in
    either (Fine s.text s f) (option_map (kitty_row s) (row_of (rows Table.Kitty) s.code 0)) _ f e
    (λ own. of-rows is_read P (kitty_row s) Table.Kitty s.code 0 f each-read.1 (λ r h. row-with r s i h) own refl)
    (λ more. either (Fine s.text s f) (option_map (kitty_row s) (row_of (rows Table.Csi) s.code 0)) (kitty_char s s.code) f more
    (λ shared. of-rows is_csi P (kitty_row s) Table.Csi s.code 0 f each-read.2 shared_fine shared refl) (typed-fine s s.code f i))

-- ---- What xterm's encoding, modifyOtherKeys, rxvt and Linux' console write of a key is read as what they say of it.

-- ---- rows of a key alone

press-is : (k : KeyCode) (held : ℕ) (o : Option Stroke) → is_pressed k held o ≡ true → o ≡ Some (pressed k held)
press-is k held None h = cc
press-is k held (Some s) h =
    let p = three (same_code s.code k) (s.held == held) (is_plain 0 s.event s.text) h in
    let q = plain-parts 0 s.event s.text p.2 in
    same s.code s.held s.event s.text (same-code s.code k p.0) (eqb-true s.held held p.1) q.1 q.2
  where
    same : (c : KeyCode) (n : ℕ) (e : KeyEvent) (t : List ℕ) → c ≡ k → n ≡ held → e ≡ KeyEvent.Press → t ≡ []
        → Some (record { code = c; held = n; event = e; text = t }) ≡ Some (pressed k held)
    same c n e t is down goes types = rw (is, down, goes, types) refl

-- a form that says nothing of a text is read alike with any
short-read : (f : KeySpelling) (text : List ℕ) → is_short f ≡ true → read_form f text ≡ read_form f []
short-read (KeySpelling.Typed n held e control) text h = cc
short-read _ text h = refl

form-fine : (f : KeySpelling) (k : KeyCode) (held : ℕ) (text : List ℕ) → is_key k held f ≡ true → Fine text (pressed k held) f
form-fine f k held text h =
    let p = three (is_sound f) (is_short f) (is_pressed k held (read_form f [])) h in
    record { read = short-read f text p.1 ∙ press-is k held (read_form f []) p.2; sound = p.0 }

-- what is said of the key of a row is a press of it
pub row-fine : (t : Table) (k : KeyCode) (held : ℕ) (text : List ℕ) (s : Stroke) (f : KeySpelling)
    → is_alone t ≡ true → ((is_char k && nat_lt held 2) ≡ false → s ≡ pressed k held)
    → row_form t k held ≡ Some f → Fine text s f
row-fine t k held text s f alone said e =
    of-rows (comes_back t) (λ c n x. ((is_char c && nat_lt n 2) ≡ false → s ≡ pressed c n) → Fine text s x)
    (as_form t) t k held f (all-back t alone) (λ r h said.
    let p = and_parts (is_no_text r) (is_key r.code r.held (as_form t r)) h in
    rw (said (not-true (is_char r.code && nat_lt r.held 2) p.0))
    (form-fine (as_form t r) r.code r.held text p.1)) e said

-- ---- xterm

-- but for a character with no more than shift, it says the key and what is held down
said-pressed : (c : KeyCode) (held : ℕ) (text : List ℕ) → (is_char c && nat_lt held 2) ≡ false → legacy_said c held text ≡ pressed c held
said-pressed (KeyCode.Char c) held text h = rw h refl
said-pressed _ held text h = refl

with-alt : (held n : ℕ) → 2 ≤ held → held < 8 → n ≡ held - 2 → with_alt n ≡ held
with-alt held n low high e = grind arith

two-held : (c : KeyCode) (held : ℕ) (text : List ℕ) → 2 ≤ held → legacy_said c held text ≡ pressed c held
two-held c held text h = said-pressed c held text (let high : nat_lt held 2 ≡ false = grind arith in and_right (is_char c) (nat_lt held 2) high)

alt-fine : (c : KeyCode) (held : ℕ) (text : List ℕ) (f : KeySpelling) → held < 8 → alt_control c held ≡ Some f → Fine text (legacy_said c held text) f
alt-fine c held text f high e =
    let u = unless (nat_lt held 2) (option_map (λ (r : Row). KeySpelling.Alt r.control) (row_of (rows Table.Control) c (held - 2))) f e in
    let low : 2 ≤ held = ltb-false held 2 u.0 in
    of-rows alt_back (λ k n x. n ≡ held - 2 → Fine text (legacy_said k held text) x) (λ (r : Row). KeySpelling.Alt r.control) Table.Control c (held - 2) f each-read.0 (λ r h n.
    rw (two-held r.code held text low) (subst (λ m. Fine text (pressed r.code m) (KeySpelling.Alt r.control)) (with-alt held r.held low high n) (form-fine (KeySpelling.Alt r.control) r.code (with_alt r.held) text h))) u.1 refl

-- text is what a key types
text-is : (c held d : ℕ) (text : List ℕ) → text_of c held text ≡ Some d → typed_or c text ≡ d
text-is c held d [] e = allowed (λ x. c ≡ x) (held == 0) c d e (λ none. refl)
text-is c held d (x ∷ []) e = same_Some x d e
text-is c held d (x ∷ y ∷ ys) e = cc

text-fine : (o : Option ℕ) (c : ℕ) (text : List ℕ) (f : KeySpelling) → ((d : ℕ) → o ≡ Some d → c ≡ d) → text_form o ≡ Some f → Fine text (typing c) f
text-fine None c text f same e = cc
text-fine (Some d) c text f same e =
    allowed (Fine text (typing c)) (is_typed d) (KeySpelling.Text d) f e (λ h. record { read = rw (same d refl, h) refl; sound = typed-text d h })

char-fine : (c : KeyCode) (held : ℕ) (text : List ℕ) (f : KeySpelling) → char_form c held text ≡ Some f → Fine text (legacy_said c held text) f
char-fine (KeyCode.Char c) held text f e = elim (cases_Bool (nat_lt held 2)) [
  | inl low ↦ rw low (text-fine (text_of c held text) (typed_or c text) text f (λ d is. text-is c held d text is) (rw low at e))
  | inr high ↦ allowed (Fine text (legacy_said (KeyCode.Char c) held text)) ((held == 2) && is_alt c) (KeySpelling.Alt c) f (rw high at e) (λ h.
      let p = and_parts (held == 2) (is_alt c) h in
      record { read = rw (alt-typed c p.1, eqb-true held 2 p.0) refl; sound = alt-free c p.1 })
]
char-fine KeyCode.Escape held text f e =
    allowed (Fine text (legacy_said KeyCode.Escape held text)) (held == 0) KeySpelling.Escape f e (λ h. record { read = rw (eqb-true held 0 h) refl; sound = refl })
char-fine _ held text f e = cc

-- a row whose modifiers are in its list
listed-fine : (c : KeyCode) (held : ℕ) (text : List ℕ) (f : KeySpelling) → held < 8 → option_map (λ (r : Row). KeySpelling.Csi r.number held r.control) (row_of (rows Table.Csi) c 0) ≡ Some f
    → Fine text (legacy_said c held text) f
listed-fine c held text f low e = of-rows is_csi (λ k n x. n ≡ 0 → Fine text (legacy_said k held text) x) (λ (r : Row). KeySpelling.Csi r.number held r.control) Table.Csi c 0 f each-read.2 (λ r h none.
    let p = and_parts (not (is_char r.code)) (is_read r) h in
    let w = row-with r (pressed r.code held) (record { held = omega (arith, low); text = refl; short = omega arith }) p.1 none in
    rw (said-pressed r.code held text (and_left (is_char r.code) (nat_lt held 2) (not-true (is_char r.code) p.0))) (record { read = w.read; sound = w.sound })) e refl

pub legacy-fine : (s : Stroke) (held : ℕ) (f : KeySpelling) → held < 8 → legacy_form s held ≡ Some f → Fine s.text (legacy_said s.code held s.text) f
legacy-fine s held f h e =
    let c = s.code in
    let said = legacy_said c held s.text in
    let P = Fine s.text said f in
    let row = λ (t : Table) (alone : is_alone t ≡ true).
    row-fine t c held s.text said f alone (said-pressed c held s.text) in
    either P (row_form Table.Control c held) _ f e (row Table.Control refl)
    (λ e. either P (alt_control c held) _ f e (alt-fine c held s.text f h)
    (λ e. either P (row_form Table.Ss3 c held) _ f e (row Table.Ss3 refl)
    (λ e. either P (char_form c held s.text) _ f e (char-fine c held s.text f)
    (λ e. either P (row_form Table.Csi c held) _ f e (row Table.Csi refl)
    (listed-fine c held s.text f h)))))

-- ---- rxvt and Linux' console

pub linux-fine : (k : KeyCode) (held : ℕ) (text : List ℕ) (f : KeySpelling)
    → row_form Table.Linux k held ≡ Some f → Fine text (pressed k held) f
linux-fine k held text f = row-fine Table.Linux k held text (pressed k held) f refl (λ _. refl)

pub rxvt-fine : (k : KeyCode) (held : ℕ) (text : List ℕ) (f : KeySpelling) → rxvt_form k held ≡ Some f → Fine text (pressed k held) f
rxvt-fine k held text f e =
    let s = pressed k held in
    either (Fine text s f) (row_form Table.Rxvt k held) _ f e (row-fine Table.Rxvt k held text s f refl (λ _. refl))
    (row-fine Table.RxvtSs3 k held text s f refl (λ _. refl))

-- ---- modifyOtherKeys

record Numbered (k : KeyCode) (n : ℕ) : Type 0 where
  is : numbered n ≡ Some k
  character : scalar n ≡ true

char-numbered : (k : KeyCode) (n : ℕ) → char_number k ≡ Some n → Numbered k n
char-numbered (KeyCode.Char c) n e = allowed (Numbered (KeyCode.Char c)) (is_typed c && is_none (row_at (rows Table.Other) c 126)) c n e (λ h.
    let p = and_parts (is_typed c) (is_none (row_at (rows Table.Other) c 126)) h in
    record { is = rw (none-is (row_at (rows Table.Other) c 126) p.1, p.0) refl; character = typed-scalar c p.0 })
char-numbered _ n e = cc

other-numbered : (k : KeyCode) (n : ℕ) → other_number k ≡ Some n → Numbered k n
other-numbered k n e = either (Numbered k n) (option_map (λ (r : Row). r.number) (row_of (rows Table.Other) k 0)) (char_number k) n e
    (of-rows is_other (λ c _. Numbered c) (λ (r : Row). r.number) Table.Other k 0 n each-read.3 (λ r h.
    let p = and_parts (scalar r.number) (is_same (row_at (rows Table.Other) r.number 126) r) h in
    let (q, at, code, held) = same-row (row_at (rows Table.Other) r.number 126) r p.1 in
    record { is = rw at (ap Some code); character = p.0 })) (char-numbered k n)

-- no row has 27 before `~`
none-said : (held : ℕ) (text : List ℕ) → said_key (record { number = 27; held = held; event = KeyEvent.Press; text = text }) 126 ≡ None
unfolding row_at rows
none-said held text = refl

pub other-fine : (k : KeyCode) (held : ℕ) (text : List ℕ) (f : KeySpelling) → held < 8 → other_form k held ≡ Some f → Fine text (pressed k held) f
other-fine k held text f h e =
    let u = unless (held == 0) (option_map (λ n. KeySpelling.Other n held) (other_number k)) f e in
    made (Fine text (pressed k held)) (λ n. KeySpelling.Other n held) (other_number k) f u.1 (λ n number.
    let is = other-numbered k n number in
    let says : Says = record { number = 27; held = held; event = KeyEvent.Press; text = n ∷ [] } in
    let list = list-read 27 held KeyEvent.Press (n ∷ []) refl (omega (arith, h)) (and_from (scalar n) true is.character refl) (omega arith) in
    record {
      read =
          first-read (read_listed (written_list 27 held KeyEvent.Press (n ∷ [])) 126) (by Encoding.Win32 (read_win32 (written_list 27 held KeyEvent.Press (n ∷ [])) 126)) (pressed k held)
          (ap (λ o. key_alone (option_and_then (λ (x : Says). option_or (by (told_by x 126) (said_key x 126)) (by Encoding.ModifyOtherKeys (other_key x 126 x.text))) o)) list
          ∙ (ap (λ o. key_alone (option_or (by (told_by says 126) o) (by Encoding.ModifyOtherKeys (other_key says 126 (n ∷ []))))) (none-said held (n ∷ []))
          ∙ ap (λ o. key_alone (by Encoding.ModifyOtherKeys (option_map (λ (c : KeyCode). pressed c held) o))) is.is));
      sound = and_from (scalar n) (nat_lt held 256) is.character (lt-ltb held 256 (omega (arith, h)));
    })
