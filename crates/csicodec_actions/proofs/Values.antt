-- What numbers count as: by the code, and back from what is written; the codes of reports of the mouse first.
use Rattle.std.proofs.{Common.◌/◌, Common.◌≤◌, Common.◌^◌, Common.◌%◌, lemmas.Bool.cases_Bool, lemmas.Bool.and_parts, lemmas.Bool.lt-ltb, lemmas.Nat.and_le_r}
use Rattle.std.proofs.{lemmas.Nat.and_assoc, lemmas.Nat.and_shr, lemmas.Nat.and_mask, lemmas.Int.to_z-of_z, lemmas.Int.ints}
use Rattle.std.specs.{Prelude.negsuc, Prelude.IsTrue, Prelude.nat_abs, Int.RustNames.bit_and, Option.is_some}
use Rattle.csicodec_names.specs.EnumNumbers.{cursor_style_number, erase_in_display_number, erase_in_line_number, tabulation_clear_number, tabulation_control_number, cursor_styles, tabulation_controls, tabulation_clears, erases_in_display, erases_in_line}
use Rattle.csicodec_names.specs.{declared.flags.Modifiers.Modifiers, Numbered.with_number, declared.device.DeviceAttributeCodes.DeviceAttributeCodes}
use Rattle.csicodec_names.specs.{ModeNumbers.dec_codes, ModeNumbers.terminal_codes, ModeNumbers.terminal_mode_number, FlagBits.kitty_bits}
use Rattle.csicodec_actions.specs.Kinds.{AreHeld, IsReport, Style, Clear, Dec, Terminal, Resource, Flags, Way, Pops, Word, read, below, short, code_or, IsOneBased, IsOwn, GoodDec, GoodItem, GoodTerminal, kitty_mode_number, kitty_modes, path_number, paths}
use Rattle.csicodec_actions.specs.{Mouse.button_code, Mouse.button_bits, Mouse.pressed, Mouse.released, Mouse.reported, Mouse.report_code}
use Rattle.csicodec_actions.specs.{declared.mouse.MouseButton.MouseButton, declared.mode.DecPrivateMode.DecPrivateMode, declared.mode.TerminalMode.TerminalMode}
use Rattle.csicodec_actions.specs.{XtSmGraphics.item_of, Modes.dec_number, Modes.terminal_number, Modes.resource_number, Modes.resources}
use Rattle.csicodec_actions.specs.{declared.mode.XtermKeyModifierResource.XtermKeyModifierResource, declared.path.CharacterPath.CharacterPath}
use Rattle.csicodec_actions.specs.{declared.keyboard.KittyKeyboardMode.KittyKeyboardMode, declared.xtsmgraphics.XtSmGraphicsItem.XtSmGraphicsItem}
use Rattle.csicodec_actions.proofs.Common.{◌≡◌, ℕ, zero, suc, ◌<◌, List, [], ◌∷◌, Some, refl, inl, inr, arith, rules, pos, Option, None, sym, ap, ◌∙◌, subst, eqb-true, eq-eqb, same_Some, ℤ, ◌==◌, ◌&&◌, ◌||◌, not, Bool, true, false, ◌↔◌, is_number, device_attribute_codes, device_attribute_number, dec_mode_number, is_release, Count, Last, Control, InDisplay, InLine, Path, Pressed, Released, GraphicsItem, Kind, Any, Value, number, IsSaid, Good, Integer, IsSpellable, is_number-pos, none-found, attributes}
use Rattle.csicodec_actions.proofs.Found.{map-some}
use mir.{Syntax.w64, Val.SFits, Val.of_z, Val.to_z}
use Rattle.csicodec_tokens.specs.{Digits.largest, OneBased.number_or, OneBased.most}
use Rattle.csicodec_names.proofs.Coded.{listed-number, Coded, small, styles, controls, clears, lines, displays, decs, terminals}

abbrev all_below : ℕ → (ℕ → Bool) → Bool
all_below zero f = true
all_below (suc k) f = f k && all_below k f

at_each : (k : ℕ) (f : ℕ → Bool) (n : ℕ) → n < k → all_below k f ≡ true → f n ≡ true
at_each zero f n h e = absurd (omega arith)
at_each (suc k) f n h e = grind (arith, at_each k f n)

-- the bits of the button and of the modifiers lie apart
abbrev lie_apart : MouseButton → ℕ → Bool
lie_apart b m =
    let code = report_code (b, record { bits = m }) in
    not (bit_and m 14 == m) || (button_bits (bit_and code 99) == button_code b && bit_and code 28 / 2 == m)

apart : (b : MouseButton) → all_below 16 (lie_apart b) ≡ true
apart b = elim b as (λ x. all_below 16 (lie_apart x) ≡ true) [ MouseButton.None ↦ refl | _ ↦ refl ]

pub report-back : (buttons : List MouseButton) (b : MouseButton) (m : Modifiers) → with_number button_code buttons (pos (button_code b)) ≡ Some b → AreHeld m
    → reported buttons (pos (report_code (b, m))) ≡ Some (b, m)
report-back buttons b m one held =
    let small = and_le_r m.bits 14 in
    let test : lie_apart b m.bits ≡ true = at_each 16 (lie_apart b) m.bits (omega (arith, small, held)) (apart b) in
    let both = and_parts _ _ (rw (eq-eqb (bit_and m.bits 14) m.bits held) at test) in
    let code : button_bits (bit_and (report_code (b, m)) 99) ≡ button_code b = eqb-true _ _ both.0 in
    let bits : bit_and (report_code (b, m)) 28 / 2 ≡ m.bits = eqb-true _ _ both.1 in
    rw (code, one, bits) refl

held-bits : (n : ℕ) → bit_and (bit_and n 28 / 2) 14 ≡ bit_and n 28 / 2
held-bits n =
    let half : bit_and n 28 / 2 ≡ bit_and (n / 2) 14 = and_shr n 28 1 in
    rw half (and_assoc 14 (n / 2) 14)

-- the code of each button that is found is found
abbrev AllFound : List MouseButton → List MouseButton → Type 0
AllFound buttons [] = Unit {0}
AllFound buttons (b ∷ bs) = (with_number button_code buttons (pos (button_code b)) ≡ Some b) × AllFound buttons bs

pub pressed-found : AllFound pressed pressed
pressed-found = search rules depth 40

pub released-found : AllFound released released
released-found = search rules depth 40

among : (buttons bs : List MouseButton) (z : ℤ) (b : MouseButton) → AllFound buttons bs → with_number button_code bs z ≡ Some b → with_number button_code buttons (pos (button_code b)) ≡ Some b
among buttons [] z b all e = cc
among buttons (c ∷ cs) z b all e = elim (cases_Bool (is_number (button_code c) z)) [
  | inl here ↦ (let same : c ≡ b = same_Some c b (rw here at e) in rw (← same) all.0)
  | inr later ↦ among buttons cs z b all.1 (rw later at e)
]

pub report-read : (buttons : List MouseButton) (z : ℤ) (v : MouseButton × Modifiers) → AllFound buttons buttons → reported buttons z ≡ Some v → IsReport buttons v
report-read buttons (pos n) v all e =
    let m = map-some (λ b. (b, record { bits = bit_and n 28 / 2 })) (with_number button_code buttons (pos (button_bits (bit_and n 99)))) v e in
    rw (← m.2) (record { one = among buttons buttons _ m.0 all m.1; held = held-bits n })
report-read buttons (negsuc n) v all e = cc

code-small : (b : MouseButton) → button_code b < 68
code-small b = elim b as (λ x. button_code x < 68) [ MouseButton.None ↦ omega arith | _ ↦ omega arith ]

pub report-small : (v : MouseButton × Modifiers) → report_code v < 100
report-small v = let code = code-small v.0 in grind (arith, code)

-- a button that is read before M is no release, and what else is read before m is no button
pub release-pressed : (b : MouseButton) → with_number button_code pressed (pos (button_code b)) ≡ Some b → is_release b ≡ false
release-pressed b e = (elim b as (λ x. with_number button_code pressed (pos (button_code x)) ≡ Some x → is_release x ≡ false) [ MouseButton.None ↦ λ h. search rules | _ ↦ λ h. search rules ]) e

pub none-released : (b : MouseButton) → with_number button_code released (pos (button_code b)) ≡ Some b → is_release b ≡ false → with_number button_code pressed (pos (button_code b)) ≡ Some b
none-released b e f =
    (elim b as (λ x. with_number button_code released (pos (button_code x)) ≡ Some x → is_release x ≡ false → with_number button_code pressed (pos (button_code x)) ≡ Some x) [
      | MouseButton.None ↦ λ h g. search rules
      | _ ↦ λ h g. search rules
    ]) e f

-- ---- what is found by its number

pub ways : Coded kitty_mode_number kitty_modes
ways = record { each = λ r. elim r as (λ x. with_number kitty_mode_number kitty_modes (pos (kitty_mode_number x)) ≡ Some x) [ KittyKeyboardMode.AssignAll ↦ refl | _ ↦ refl ] }

pub tracks : Coded path_number paths
tracks = record { each = λ r. elim r as (λ x. with_number path_number paths (pos (path_number x)) ≡ Some x) [ CharacterPath.ImplementationDefault ↦ refl | _ ↦ refl ] }

pub keys : Coded resource_number resources
keys = record { each = λ r. elim r as (λ x. with_number resource_number resources (pos (resource_number x)) ≡ Some x) [ XtermKeyModifierResource.Keyboard ↦ refl | _ ↦ refl ] }

-- ---- how the code tells a number that nothing with a name has

pub unnamed-told : {C : Type 0} (number : C → ℕ) (z : ℤ) → SFits w64 z → (o : Option C) → ((x : C) → (o ≡ Some x) ↔ (to_z w64 (of_z w64 z) ≡ pos (number x))) → (b : Bool) → is_some o ≡ not b
    → IsTrue b ↔ ((x : C) → z ≡ pos (number x) → ⊥)
unnamed-told number z fits None found true e = (λ t. λ x is. (let here = (found x).1 (to_z-of_z w64 z fits ∙ is) in cc), λ own. refl)
unnamed-told number z fits None found false e = cc
unnamed-told number z fits (Some x) found true e = cc
unnamed-told number z fits (Some x) found false e = (λ t. cc, λ own. absurd (own x (sym (to_z-of_z w64 z fits) ∙ (found x).0 refl)))

pub own-told : {C : Type 0} (number : C → ℕ) (n : ℕ) (z : ℤ) → n < 65536 → z ≡ pos n → SFits w64 z → (o : Option C) → ((x : C) → (o ≡ Some x) ↔ (to_z w64 (of_z w64 z) ≡ pos (number x))) → (b : Bool)
    → is_some o ≡ not b → IsTrue b ↔ IsOwn number n
own-told number n z small same fits o found b e =
    let told = unnamed-told number z fits o found b e in (
      λ t. record { fits = small; own = λ x is. told.0 t x (same ∙ ap pos is) },
      λ own. told.1 (λ x is. own.own x (ap nat_abs (sym same ∙ is))),
    )

-- ---- the values that are written as numbers that count as them

pub one-fits : IsOneBased 1
one-fits = record { above = omega arith; fits = omega arith }

pub most-fits : IsOneBased most
most-fits = record { above = omega arith; fits = omega arith }

-- ---- what is written is read back

number_or-good : (default n : ℕ) → IsOneBased n → number_or default (Integer (pos n)) ≡ Some n
number_or-good default zero h = absurd (omega (arith, h.above))
number_or-good default (suc n) h = rw (lt-ltb (suc n) (2 ^ 32) h.fits) refl

-- the mode of any number of 16 bits, by a code or by itself, is written as this number
numbered : {C M : Type 0} (number : C → ℕ) (all : List C) (coded : C → M) (own : ℕ → M)
    (written : M → ℕ) → ((c : C) → written (coded c) ≡ number c) → ((k : ℕ) → written (own k) ≡ k) →
    (n : ℕ) → n < 65536
    → (m : M) × (code_or coded own (with_number number all (pos n)) (short (pos n)) ≡ Some m) × (written m ≡ n)
numbered number all coded own written by_code by_number n fits = go (with_number number all (pos n)) refl
  where
    go : (o : Option _) → with_number number all (pos n) ≡ o → (m : _) × (code_or coded own (with_number number all (pos n)) (short (pos n)) ≡ Some m) × (written m ≡ n)
    go (Some c) found = (coded c, rw found refl, by_code c ∙ sym (ap nat_abs (listed-number number all (pos n) c found)))
    go None none = (own n, rw (none, lt-ltb n 65536 fits) refl, by_number n)

pub dec-numbered : (n : ℕ) → n < 65536 → (m : DecPrivateMode) × (read Dec (pos n) ≡ Some m) × (dec_number m ≡ n)
unfolding read
dec-numbered n fits = numbered dec_mode_number dec_codes (λ c. DecPrivateMode.Code c) (λ k. DecPrivateMode.Unspecified k) dec_number (λ c. refl) (λ k. refl) n fits

pub terminal-numbered : (n : ℕ) → n < 65536 → (m : TerminalMode) × (read Terminal (pos n) ≡ Some m) × (terminal_number m ≡ n)
unfolding read
terminal-numbered n fits = numbered terminal_mode_number terminal_codes (λ c. TerminalMode.Code c) (λ k. TerminalMode.Unspecified k) terminal_number (λ c. refl) (λ k. refl) n fits

own-good : {C M : Type 0} (number : C → ℕ) (all : List C) (coded : C → M) (own : ℕ → M) (n : ℕ) → IsOwn number n → code_or coded own (with_number number all (pos n)) (short (pos n)) ≡ Some (own n)
own-good number all coded own n h = rw (none-found number all (pos n) (λ x same. h.own x (ap nat_abs same)), lt-ltb n 65536 h.fits) refl

-- no item with a name has another number
not-number : (k : ℕ) (z : ℤ) → (z ≡ pos k → ⊥) → is_number k z ≡ false
not-number k z other = elim (cases_Bool (is_number k z)) [ inl here ↦ absurd (other (is_number-pos k z here)) | inr none ↦ none ]

pub read-good : (k : Kind) (v : Value k) → Good k v → read k (number k v) ≡ Some v
unfolding read
read-good Count n h = number_or-good 1 n h
read-good Last n h = number_or-good most n h
read-good Any z h = refl
read-good Style c h = styles.each c
read-good Control c h = controls.each c
read-good Clear c h = clears.each c
read-good InDisplay c h = displays.each c
read-good InLine c h = lines.each c
read-good Dec (DecPrivateMode.Code c) h = rw (decs.each c) refl
read-good Dec (DecPrivateMode.Unspecified n) h = own-good dec_mode_number dec_codes _ (λ k. DecPrivateMode.Unspecified k) n h
read-good Terminal (TerminalMode.Code c) h = rw (terminals.each c) refl
read-good Terminal (TerminalMode.Unspecified n) h = own-good terminal_mode_number terminal_codes _ (λ k. TerminalMode.Unspecified k) n h
read-good Resource r h = keys.each r
read-good Flags f h =
    let small : kitty_bits f % 32 ≡ kitty_bits f = omega (arith, h) in
    rw (lt-ltb (kitty_bits f) 65536 (omega (arith, h)), and_mask (kitty_bits f) 5, small) refl
read-good Way m h = ways.each m
read-good Path p h = tracks.each p
read-good Pops n h = rw (lt-ltb n (2 ^ 32) h) refl
read-good Word n h = rw (lt-ltb n 65536 h) refl
read-good Pressed v h = report-back pressed v.0 v.1 h.one h.held
read-good Released v h = report-back released v.0 v.1 h.one h.held
read-good GraphicsItem (XtSmGraphicsItem.Unspecified z) h = rw (not-number 1 z h.1.0, not-number 2 z h.1.1, not-number 3 z h.1.2) refl
read-good GraphicsItem i h = refl

-- ---- what is read is written back

number_or-fits : (default : ℕ) (z : ℤ) (n : ℕ) → IsOneBased default → number_or default (Integer z) ≡ Some n → IsOneBased n
number_or-fits default z n fits e = grind arith

below-fits : (bound : ℕ) (z : ℤ) (n : ℕ) → below bound z ≡ Some n → (z ≡ pos n) × (n < bound)
below-fits bound z n e = grind arith

-- a mode that is read
owned : {C M : Type 0} (number : C → ℕ) (all : List C) (coded : C → M) (own : ℕ → M) → Coded number all → (Q : M → Type 0) → ((c : C) → Q (coded c)) → ((n : ℕ) → IsOwn number n → Q (own n))
    → (z : ℤ) (m : M) → code_or coded own (with_number number all z) (short z) ≡ Some m → Q m
owned number all coded own is Q by_code by_number z m e = go (with_number number all z) (short z) refl refl e
  where
    go : (c : Option _) (s : Option ℕ) → with_number number all z ≡ c → short z ≡ s → code_or coded own c s ≡ Some m → Q m
    go (Some c) s found small e = subst Q (same_Some _ _ e) (by_code c)
    go None None found small e = cc
    go None (Some n) found small e =
        let fits = below-fits 65536 z n small in
        subst Q (same_Some _ _ e) (by_number n (record {
          fits = fits.1;
          own = λ c same. (let here : z ≡ pos (number c) = fits.0 ∙ ap pos same in let each = is.each c in cc (found, here, each));
        }))

item-read : (z : ℤ) → IsSaid z → GoodItem (item_of z)
item-read (pos n) said = grind arith
item-read (negsuc n) said = grind arith

pub dec-read : (z : ℤ) (m : DecPrivateMode) → read Dec z ≡ Some m → GoodDec m
unfolding read
dec-read z m e = owned dec_mode_number dec_codes _ _ decs GoodDec (λ c. tt) (λ n h. h) z m e

pub terminal-read : (z : ℤ) (m : TerminalMode) → read Terminal z ≡ Some m → GoodTerminal m
unfolding read
terminal-read z m e = owned terminal_mode_number terminal_codes _ _ terminals GoodTerminal (λ c. tt) (λ n h. h) z m e

pub good-read : (k : Kind) (z : ℤ) (v : Value k) → IsSpellable (Integer z) → read k z ≡ Some v → Good k v
unfolding read
good-read Count z n ok e = number_or-fits 1 z n one-fits e
good-read Last z n ok e = number_or-fits most z n most-fits e
good-read Any z y ok e = let same : z ≡ y = same_Some _ _ e in rw (← same) (record { above = ok.0; fits = ok.1 })
good-read Style z c ok e = tt
good-read Dec z m ok e = dec-read z m e
good-read Terminal z m ok e = terminal-read z m e
good-read Flags z f ok e = let m = map-some _ (short z) f e in let small = and_le_r m.0 31 in rw (← m.2) (omega (arith, small))
good-read Pops z n ok e = (below-fits (2 ^ 32) z n e).1
good-read Word z n ok e = (below-fits 65536 z n e).1
good-read Pressed z v ok e = report-read pressed z v pressed-found e
good-read Released z v ok e = report-read released z v released-found e
good-read GraphicsItem z i ok e = rw (← same_Some _ _ e) (item-read z (record { above = ok.0; fits = ok.1 }))
good-read _ z _ ok e = tt

-- ---- a number that is written can be spelled

said : (n : ℕ) → n ≤ largest → IsSaid (pos n)
said n fits = record { above = omega (arith, ints); fits = omega (arith, ints) }

pub zero-said : IsSaid (pos 0)
zero-said = said 0 (omega arith)

pub attribute-said : (c : DeviceAttributeCodes) → IsSaid (pos (device_attribute_number c))
attribute-said c = said (device_attribute_number c) (small device_attribute_number device_attribute_codes attributes largest (search (rules, arith) depth 60) c)

pub number-said : (k : Kind) (v : Value k) → Good k v → IsSaid (number k v)
number-said Count n h = said n (omega (arith, h.fits))
number-said Last n h = said n (omega (arith, h.fits))
number-said Any z h = h
number-said Style c h = said (cursor_style_number c) (small cursor_style_number cursor_styles styles largest (search (rules, arith) depth 60) c)
number-said Control c h = said (tabulation_control_number c) (small tabulation_control_number tabulation_controls controls largest (search (rules, arith) depth 60) c)
number-said Clear c h = said (tabulation_clear_number c) (small tabulation_clear_number tabulation_clears clears largest (search (rules, arith) depth 60) c)
number-said InDisplay c h = said (erase_in_display_number c) (small erase_in_display_number erases_in_display displays largest (search (rules, arith) depth 60) c)
number-said InLine c h = said (erase_in_line_number c) (small erase_in_line_number erases_in_line lines largest (search (rules, arith) depth 60) c)
number-said Dec (DecPrivateMode.Code c) h = said (dec_mode_number c) (small dec_mode_number dec_codes decs largest (search (rules, arith) depth 60) c)
number-said Dec (DecPrivateMode.Unspecified n) h = said n (omega (arith, h.fits))
number-said Terminal (TerminalMode.Code c) h = said (terminal_mode_number c) (small terminal_mode_number terminal_codes terminals largest (search (rules, arith) depth 60) c)
number-said Terminal (TerminalMode.Unspecified n) h = said n (omega (arith, h.fits))
number-said Flags f h = said (kitty_bits f) (omega (arith, h))
number-said Way m h = said (kitty_mode_number m) (small kitty_mode_number kitty_modes ways largest (search (rules, arith) depth 60) m)
number-said Path p h = said (path_number p) (small path_number paths tracks largest (search (rules, arith) depth 60) p)
number-said Pops n h = said n (omega (arith, h))
number-said Word n h = said n (omega (arith, h))
number-said Pressed v h = let small = report-small v in said (report_code v) (omega (arith, small))
number-said Released v h = let small = report-small v in said (report_code v) (omega (arith, small))
number-said Resource r h = said (resource_number r) (small resource_number resources keys largest (search (rules, arith) depth 60) r)
number-said GraphicsItem XtSmGraphicsItem.NumberOfColorRegisters h = said 1 (omega arith)
number-said GraphicsItem XtSmGraphicsItem.SixelGraphicsGeometry h = said 2 (omega arith)
number-said GraphicsItem XtSmGraphicsItem.RegisGraphicsGeometry h = said 3 (omega arith)
number-said GraphicsItem (XtSmGraphicsItem.Unspecified z) h = h.0

-- any number counts as itself
pub read_any : (z : ℤ) → read Any z ≡ Some z
unfolding read
read_any z = refl
