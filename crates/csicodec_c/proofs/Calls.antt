-- Calls that clean untrusted text step by step, in turn.
use Rattle.std.proofs.Common.{◌≡◌, ◌≤◌, ℕ, Bool, true, false, cond, List, [], ◌∷◌, ◌++◌, length, take, drop, refl, sym, ap, subst, ◌∙◌, arith}
use Rattle.std.proofs.Math.Seq.{take-append_seam}
use Rattle.std.specs.{Prelude.◌==◌, Prelude.◌+◌, Prelude.◌*◌, Prelude.◌/◌, Prelude.◌%◌, List.concat}
use Rattle.csicodec_spans.specs.declared.table.Mode.{Mode}
use Rattle.csicodec_looks.specs.{declared.sets.Set.Set, declared.xterm.Depth.Depth}
use Rattle.csicodec_clean.specs.{declared.reading.Reading.Reading, declared.step.Pause.Pause, Cleaned.RuleOf, Cleaned.Strips, Cleaned.drops, Cleaned.longest}
use Rattle.csicodec_clean.specs.{Steps.AreStepped, Steps.Steps, Steps.bare, Steps.beginning, Steps.ending, Styled.StylesIn, Styled.resumed, Styled.keeps}
use Rattle.csicodec_clean.specs.{Styled.in_steps}
use Rattle.csicodec_clean.proofs.Streams.{cleaned_steps, stripped_steps}
use Rattle.csicodec_c.specs.Step.{AreCalls, IsCleanStep, IsEnd, IsStep, IsStripStep, numbers, reading_number, set_number, zeros}
use Rattle.csicodec_c.specs.{declared.step.Cleaned.Cleaned, declared.step.Cleaning.Cleaning, declared.strip.Stripped.Stripped, Filter.mode_number, Strip.bit}
use Rattle.csicodec_c.specs.{Strip.depth_number}
use Rattle.csicodec_structs.specs.Room.{Fills}
use Rattle.csicodec_looks.specs.declared.sets.Set.TheVariants as sets

-- ---- numbers are of one state

abbrev mode_of : ℕ → Mode
mode_of n = cond (n == 0) Mode.Text (cond (n == 1) Mode.Osc (cond (n == 2) Mode.Dcs (cond (n == 3) Mode.Str (cond (n == 4) Mode.BadCsi Mode.BadEsc))))

mode_back : (m : Mode) → mode_of (mode_number m) ≡ m
mode_back Mode.Text = refl
mode_back other = refl

bit_back : (b : Bool) → (bit b == 1) ≡ b
bit_back true = refl
bit_back false = refl

abbrev depth_of : ℕ → Depth
depth_of n = cond (n == 0) Depth.Full (cond (n == 1) Depth.Palette Depth.Ansi)

depth_back : (d : Depth) → depth_of (depth_number d) ≡ d
depth_back Depth.Full = refl
depth_back Depth.Palette = refl
depth_back Depth.Ansi = refl

bit_low : (b : Bool) → bit b ≤ 1
bit_low true = omega arith
bit_low false = omega arith

abbrev set_of : ℕ → Set
set_of n = cond (n == 0) sets.Ascii (cond (n == 1) sets.Graphics sets.British)

set_back : (s : Set) → set_of (set_number s) ≡ s
set_back sets.Ascii = refl
set_back other = refl

set_low : (s : Set) → set_number s ≤ 2
set_low sets.Ascii = omega arith
set_low other = omega arith

abbrev reading_of : ℕ → Reading
reading_of n = record { titled = n % 2 == 1; sets = record { g0 = set_of (n / 4 % 4); g1 = set_of (n / 16); shifted = n / 2 % 2 == 1 } }

module _ (t u g h n : ℕ) (small : t ≤ 1) (low : u ≤ 1) (few : g ≤ 2) (e : n ≡ t + (2 * u + (4 * g + 16 * h))) where
  title_part : n % 2 ≡ t
  title_part = omega arith

  shift_part : n / 2 % 2 ≡ u
  shift_part = omega arith

  g0_part : n / 4 % 4 ≡ g
  g0_part = omega arith

  g1_part : n / 16 ≡ h
  g1_part = omega arith

reading_back : (r : Reading) → reading_of (reading_number r) ≡ r
reading_back r =
    let t = bit r.titled in
    let u = bit r.sets.shifted in
    let g = set_number r.sets.g0 in
    let h = set_number r.sets.g1 in
    let n = reading_number r in
    let small = bit_low r.titled in
    let low = bit_low r.sets.shifted in
    let few = set_low r.sets.g0 in
    rw (title_part t u g h n small low few refl, shift_part t u g h n small low few refl, g0_part t u g h n small low few refl, g1_part t u g h n small low few refl)
    rw (bit_back r.titled, bit_back r.sets.shifted, set_back r.sets.g0, set_back r.sets.g1) refl

abbrev pause_of : Cleaning → Pause
pause_of c = record { mode = mode_of c.mode; reading = reading_of c.titled; styled = c.styled == 1; held = c.held }

pause_back : (p : Pause) → pause_of (numbers p) ≡ p
pause_back p = rw (mode_back p.mode, reading_back p.reading, bit_back p.styled) refl

same_pause : (state : Cleaning) (p q : Pause) → state ≡ numbers p → state ≡ numbers q → p ≡ q
same_pause state p q e f = sym (pause_back p) ∙ ap pause_of (sym e ∙ f) ∙ pause_back q

-- what room shows of a text that fits
shows : (old new made : List ℕ) (n : ℕ) → Fills old new made → n ≡ length made → n ≤ length old → take n new ≡ made
shows old new made n fills e low =
    let fits : length made ≤ length old = omega (arith, e, low) in
    ap (λ (i : ℕ). take i new) e ∙ ap (λ (t : List ℕ). take (length made) t) (fills.0 fits) ∙ take-append_seam made (drop (length made) old)

-- ---- calls in turn are steps in turn

module _ {S : Type 0} (Gives : RuleOf S) (rule : Bool → S) (IsCall : Cleaning → List ℕ → List ℕ → List ℕ → Cleaned → Type 0) where
  calls_stepped : ((s : Cleaning) (b o n : List ℕ) (a : Cleaned) → IsCall s b o n a → IsStep Gives rule s b o n a)
      → (chunks : List (List ℕ)) (state : Cleaning) (p : Pause) (again all : List ℕ) (last : Cleaning) (left : List ℕ)
      → state ≡ numbers p → AreCalls IsCall state again chunks all last left → (q : Pause) × (last ≡ numbers q) × AreStepped Gives rule p again chunks all q left
  calls_stepped f [] state p again all last left is (none, same, e) = (p, same ∙ is, (none, refl, e))
  calls_stepped f (chunk ∷ chunks) state p again all last left is (answer, old, new, others, call, room, e, rest) =
      let bytes = again ++ chunk in
      let s = f state bytes old new answer call in
      let one : s.before ≡ p = same_pause state s.before p s.began is in
      let used : s.used ≡ answer.used = sym (ap (λ (a : Cleaned). a.used) s.tells) in
      let (q, ends, stepped) = calls_stepped f chunks answer.state s.after (drop answer.used bytes) others last left (ap (λ (a : Cleaned). a.state) s.tells) rest in
      let step = subst (λ (i : ℕ). Steps Gives (rule p.styled) p bytes s.text (rule s.after.styled) s.after (drop i bytes)) used (rw (← one) s.steps) in
      let shown : all ≡ s.text ++ others = e ∙ ap (λ (t : List ℕ). t ++ others) (shows old new s.text answer.needed s.fills (ap (λ (a : Cleaned). a.needed) s.tells) room) in
      (q, ends, (s.after, drop answer.used bytes, s.text, others, step, shown, stepped))

none_styled : (chunks : List (List ℕ)) (state : Cleaning) (again all : List ℕ) (last : Cleaning) (left : List ℕ) → AreCalls IsStripStep state again chunks all last left → last.styled ≡ state.styled
none_styled [] state again all last left (none, same, e) = ap (λ (s : Cleaning). s.styled) same
none_styled (chunk ∷ chunks) state again all last left (answer, old, new, others, call, room, e, rest) =
    none_styled chunks answer.state (drop answer.used (again ++ chunk)) others last left rest ∙ call.1

-- what is put at the end
ended : (last : Cleaning) (left old new : List ℕ) (answer : Stripped) (q : Pause) → last ≡ numbers q → IsEnd last left old new answer
    → answer.needed ≤ length old → take answer.needed new ≡ ending q left
ended last left old new answer q is end room =
    let (pause, begun, same) = end.is in
    shows old new end.text answer.needed end.fills (ap (λ (a : Stripped). a.needed) end.tells) room ∙ same ∙ ap (λ (p : Pause). ending p left) (same_pause last pause q begun is)

pub stripped_calls : (chunks : List (List ℕ)) (all left old new : List ℕ) (last : Cleaning) (answer : Stripped)
    → AreCalls IsStripStep zeros [] chunks all last left → IsEnd last left old new answer → answer.needed ≤ length old
    → Strips longest (concat chunks) (all ++ take answer.needed new)
stripped_calls chunks all left old new last answer calls end room =
    let (q, is, stepped) = calls_stepped drops (λ _. bare) IsStripStep (λ s b o n a h. h.0) chunks zeros beginning [] all last left refl calls in
    let none : q.styled ≡ false = sym (bit_back q.styled) ∙ ap (λ (n : ℕ). n == 1) (sym (ap (λ (s : Cleaning). s.styled) is) ∙ none_styled chunks zeros [] all last left calls) in
    subst (λ (t : List ℕ). Strips longest (concat chunks) (all ++ t)) (sym (ended last left old new answer q is end room)) (stripped_steps chunks all left q stepped none)

in_depth : (d : Depth) (s : Cleaning) (b o n : List ℕ) (a : Cleaned) → IsCleanStep (depth_number d) s b o n a → IsStep keeps (resumed d) s b o n a
in_depth d s b o n a (other, same, step) =
    let one : other ≡ d = sym (depth_back other) ∙ ap depth_of (sym same) ∙ depth_back d in
    subst (λ (x : Depth). IsStep keeps (resumed x) s b o n a) one step

pub cleaned_calls : (d : Depth) (chunks : List (List ℕ)) (all left old new : List ℕ) (last : Cleaning) (answer : Stripped)
    → AreCalls (IsCleanStep (depth_number d)) zeros [] chunks all last left → IsEnd last left old new answer
    → answer.needed ≤ length old → StylesIn (in_steps d) (concat chunks) (all ++ take answer.needed new)
cleaned_calls d chunks all left old new last answer calls end room =
    let (q, is, stepped) = calls_stepped keeps (resumed d) (IsCleanStep (depth_number d)) (in_depth d) chunks zeros beginning [] all last left refl calls in
    subst (λ (t : List ℕ). StylesIn (in_steps d) (concat chunks) (all ++ t)) (sym (ended last left old new answer q is end room)) (cleaned_steps d chunks all left q stepped)
