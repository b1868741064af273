-- What a command reads of a content is written as it, and what is written of it is read; and the table, by which each content says one thing.
use Rattle.std.proofs.Common.{◌≡◌, ℕ, zero, suc, ◌+◌, ◌-◌, List, [], ◌∷◌, ◌++◌, Option, None, Some, refl, inl, inr, length, take, drop, arith, ◌<◌, ◌≤◌, get_or, sym, ap, ◌∙◌, subst, append_assoc}
use Rattle.std.proofs.{lemmas.Bool.cases_Bool, lemmas.Bool.and_parts, lemmas.Bool.Decides.nat_tests, lemmas.Option.option_and_then_some}
use Rattle.std.proofs.{lemmas.Option.same_Some, lemmas.Slice.Eq.bytes_eq-Decides, lemmas.List.drop_all, lemmas.List.drop_more, lemmas.List.take_more}
use Rattle.std.specs.{Prelude.◌==◌, Prelude.◌&&◌, Prelude.◌||◌, Prelude.Bool, Prelude.true, Prelude.false, Prelude.not, Prelude.position, Prelude.slice_get}
use Rattle.std.specs.{Prelude.option_map, Cmp.Lexicographic.pointwise, List.list_all, List.flat_map, Option.option_or}
use Rattle.csicodec_osc.specs.Osc.{Ask, Body, Both, Tail, asked, asked_text, fits, is_asked, is_field, is_message, tail_of, tail_text, IsWritable, Known, Said, Says, Unknown, written}
use Rattle.csicodec_osc.specs.{declared.command.Command.Command, Commands.form, Commands.number, Forms.Form, Forms.OneText, Forms.Message, Forms.Several}
use Rattle.csicodec_osc.specs.{Forms.TwoTexts, Forms.TextAsked, Private.Reading.behind, Private.Reading.halves, Private.Reading.read_body}
use Rattle.csicodec_osc.specs.{Private.Reading.read_by, Private.Reading.first_read, declared.command.TheConstants.COMMANDS, Escaped.escaped}
use Rattle.csicodec_osc.proofs.Places.{lies-at, place_in}

-- ---- the first `;`

pub halves-of : (a b : List ℕ) → is_field a ≡ true → halves 59 (a ++ 59 ∷ b) ≡ Some (a, b)
halves-of [] b h = refl
halves-of (x ∷ a) b h = grind (arith, nat_tests, halves-of a b)

pub halves_is : (text : List ℕ) (cut : List ℕ × List ℕ) → halves 59 text ≡ Some cut
    → (is_field cut.0 ≡ true) × (text ≡ cut.0 ++ 59 ∷ cut.1)
halves_is [] cut e = cc
halves_is (x ∷ text) cut e = grind (arith, nat_tests, halves_is text)

pub no_halves : (text : List ℕ) → halves 59 text ≡ None → is_field text ≡ true
no_halves [] e = refl
no_halves (b ∷ text) e = grind (arith, nat_tests, no_halves text)

-- by the place of the first such byte
pub none_cut : (at : ℕ) (bytes : List ℕ) → None ≡ position (λ b. b == at) bytes
    → None ≡ halves at bytes
none_cut at [] e = refl
none_cut at (b ∷ bytes) e = grind (arith, nat_tests, none_cut at bytes)

pub cut_at : (at : ℕ) (bytes : List ℕ) (place : ℕ) → Some place ≡ position (λ b. b == at) bytes
    → Some (take place bytes, drop (place + 1) bytes) ≡ halves at bytes
cut_at at [] place e = cc
cut_at at (b ∷ bytes) zero e = grind (arith, nat_tests)
cut_at at (b ∷ bytes) (suc m) e = grind (arith, nat_tests, cut_at at bytes m)

-- ---- a number in front

pub no_front : (number content : List ℕ) → pointwise (λ a b. a == b) (take (length number) content) number ≡ false → behind number content ≡ None
no_front [] content h = cc
no_front (n ∷ number) [] h = refl
no_front (n ∷ number) (b ∷ content) h = grind (arith, nat_tests, no_front number content)

pub front : (number content : List ℕ) → pointwise (λ a b. a == b) (take (length number) content) number ≡ true → behind number content ≡ behind [] (drop (length number) content)
front [] content h = refl
front (n ∷ number) [] h = cc
front (n ∷ number) (b ∷ content) h = grind (arith, nat_tests, front number content)

-- ---- bodies

asked-of : (o : Option (List ℕ)) → is_asked o ≡ true → asked (asked_text o) ≡ o
asked-of None h = refl
asked-of (Some value) h = grind arith

asked-is : (text : List ℕ) → (asked_text (asked text) ≡ text) × (is_asked (asked text) ≡ true)
asked-is text = grind (arith, bytes_eq-Decides text (63 ∷ []))

pub body-of : (f : Form) (body : Body) → fits f body ≡ true → read_body f (tail_of body) ≡ Some body
body-of OneText (Tail (Some text)) h = refl
body-of Message (Tail (Some text)) h = rw h refl
body-of Several (Tail o) h = refl
body-of TwoTexts (Both a b) h = rw (halves-of a b h) refl
body-of TextAsked (Ask a o) h = grind (arith, halves-of a (asked_text o), asked-of o)
body-of _ _ h = cc

pub body-is : (f : Form) (o : Option (List ℕ)) (body : Body) → read_body f o ≡ Some body → (tail_of body ≡ o) × (fits f body ≡ true)
body-is Several o body e = grind arith
body-is OneText (Some text) body e = grind arith
body-is Message (Some text) body e = grind arith
body-is TwoTexts (Some text) body e = grind (arith, halves_is text)
body-is TextAsked (Some text) body e = grind (arith, halves_is text, asked-is)
body-is _ _ body e = cc

-- ---- a number, and what stands behind it

behind-of : (number : List ℕ) (o : Option (List ℕ)) → behind number (number ++ tail_text o) ≡ Some o
behind-of [] None = refl
behind-of [] (Some text) = refl
behind-of (n ∷ number) o = grind (arith, nat_tests, behind-of number o)

behind-is : (number content : List ℕ) (o : Option (List ℕ)) → behind number content ≡ Some o → number ++ tail_text o ≡ content
behind-is [] [] o e = grind arith
behind-is [] (b ∷ bytes) o e = grind (arith, nat_tests)
behind-is (n ∷ number) [] o e = cc
behind-is (n ∷ number) (b ∷ bytes) o e = grind (arith, nat_tests, behind-is number bytes o)

-- ---- a command

pub record Reads (k : Command) (body : Body) (content : List ℕ) : Type 0 where
  pub has_form : fits (form k) body ≡ true
  pub text : number k ++ tail_text (tail_of body) ≡ content

pub read-is : (k : Command) (content : List ℕ) (body : Body) → read_by k content ≡ Some body → Reads k body content
read-is k content body e =
    option_and_then_some (read_body (form k)) (behind (number k) content) body e
    (λ o begins reads. (let (tail, fit) = body-is (form k) o body reads in record { has_form = fit; text = rw tail (behind-is (number k) content o begins) }))

pub read-of : (k : Command) (body : Body) → fits (form k) body ≡ true → read_by k (number k ++ tail_text (tail_of body)) ≡ Some body
read-of k body h = rw (behind-of (number k) (tail_of body)) (body-of (form k) body h)

-- ---- two commands

-- a content of one number could begin with the other
abbrev pub could_begin : List ℕ → List ℕ → Bool
could_begin [] [] = true
could_begin [] (b ∷ other) = b == 59
could_begin (n ∷ number) [] = 59 == n
could_begin (n ∷ number) (b ∷ other) = b == n && could_begin number other

apart : (number other : List ℕ) (o : Option (List ℕ)) → could_begin number other ≡ false → behind number (other ++ tail_text o) ≡ None
apart [] [] o h = cc
apart [] (b ∷ other) o h = rw h refl
apart (n ∷ number) [] None h = refl
apart (n ∷ number) [] (Some text) h = rw h refl
apart (n ∷ number) (b ∷ other) o h = grind (arith, nat_tests, apart number other o)

-- the other's texts leave out what makes the number of its own
abbrev pub leaves_out : Form → Option (Option (List ℕ)) → Bool
leaves_out Message (Some (Some more)) = not (is_message more)
leaves_out _ _ = false

-- the command reads nothing that is written of the other one
abbrev pub passes : Command → Command → Bool
passes k other = not (could_begin (number k) (number other)) || leaves_out (form other) (behind (number other) (number k))

no-message : (more text : List ℕ) → not (is_message more) ≡ true → is_message text ≡ true → behind more text ≡ None
no-message [] text out h = cc
no-message (n ∷ more) [] out h = refl
no-message (n ∷ []) (b ∷ []) out h = grind (arith, nat_tests)
no-message (n ∷ []) (b ∷ c ∷ text) out h = grind (arith, nat_tests)
no-message (n ∷ c ∷ more) (b ∷ []) out h = grind (arith, nat_tests)
no-message (n ∷ c ∷ more) (b ∷ d ∷ text) out h = grind (arith, nat_tests)

left-out : (number other more text : List ℕ) → behind other number ≡ Some (Some more) → not (is_message more) ≡ true → is_message text ≡ true → behind number (other ++ 59 ∷ text) ≡ None
left-out [] [] more text begins out h = cc
left-out [] (b ∷ other) more text begins out h = cc
left-out (n ∷ number) [] more text begins out h = grind (arith, nat_tests, no-message number text)
left-out (n ∷ number) (b ∷ other) more text begins out h = grind (arith, nat_tests, left-out number other more text)

by-form : (f : Form) (k : Command) (other : List ℕ) (body : Body) (b : Option (Option (List ℕ))) → behind other (number k) ≡ b → leaves_out f b ≡ true → fits f body ≡ true
    → read_by k (other ++ tail_text (tail_of body)) ≡ None
by-form Message k other (Tail (Some text)) (Some (Some more)) begins out h = rw (left-out (number k) other more text begins out h) refl
by-form Message k other body (Some (Some more)) begins out h = cc
by-form _ k other body b begins out h = cc

pub passed : (k other : Command) (body : Body) → passes k other ≡ true → fits (form other) body ≡ true → read_by k (number other ++ tail_text (tail_of body)) ≡ None
passed k other body h fit = elim (cases_Bool (could_begin (number k) (number other))) [
  | inl could ↦ by-form (form other) k (number other) body (behind (number other) (number k)) refl (rw could at h) fit
  | inr never ↦ rw (apart (number k) (number other) (tail_of body) never) refl
]

-- ---- The table: each content says one thing.

-- ---- each command reads nothing of those behind it

abbrev all_pass : List Command → Bool
all_pass [] = true
all_pass (k ∷ commands) = list_all (passes k) commands && all_pass commands

in-order : all_pass COMMANDS ≡ true
in-order = refl

-- ---- what is written is read

passed-at : (k : Command) (commands : List Command) (i : ℕ) (other : Command) (body : Body) → list_all (passes k) commands ≡ true → slice_get commands i ≡ Some other → fits (form other) body ≡ true
    → read_by k (number other ++ tail_text (tail_of body)) ≡ None
passed-at k (c ∷ commands) zero other body h at fit = passed k other body (rw (same_Some c other at) at (and_parts (passes k c) (list_all (passes k) commands) h).0) fit
passed-at k (c ∷ commands) (suc i) other body h at fit = passed-at k commands i other body (and_parts (passes k c) (list_all (passes k) commands) h).1 at fit
passed-at k _ _ other body h at fit = cc

decides : (commands : List Command) (i : ℕ) (k : Command) (body : Body) → all_pass commands ≡ true → slice_get commands i ≡ Some k → fits (form k) body ≡ true
    → first_read commands (number k ++ tail_text (tail_of body)) ≡ Some (Known k body)
decides (c ∷ commands) zero k body h at fit = rw (same_Some c k at, read-of k body fit) refl
decides (c ∷ commands) (suc i) k body h at fit =
    let p = and_parts (list_all (passes c) commands) (all_pass commands) h in rw (passed-at c commands i k body p.0 at fit) (decides commands i k body p.1 at fit)
decides _ _ k body h at fit = cc

pub reads-back : (k : Command) (body : Body) → fits (form k) body ≡ true → first_read COMMANDS (number k ++ tail_text (tail_of body)) ≡ Some (Known k body)
reads-back k body fit = decides COMMANDS (place_in COMMANDS (number k)) k body in-order (lies-at k) fit

-- ---- what is read is written

pub says : (k : Command) (content : List ℕ) (s : Said) → Some s ≡ option_map (Known k) (read_by k content) → Says content s
says k content s e = go (read_by k content) refl e
  where
    go : (o : Option Body) → read_by k content ≡ o → Some s ≡ option_map (Known k) o → Says content s
    go None read f = cc
    go (Some body) read f =
        let r = read-is k content body read in
        subst (λ x. Says content x) (sym (same_Some s (Known k body) f)) (record { written_as = r.text; writable = r.has_form })

pub none-says : (content : List ℕ) → first_read COMMANDS content ≡ None → Says content (Unknown content)
none-says content none = record {
  written_as = refl;
  writable = λ k body fit text. (let read = reads-back k body fit in let wrong : None ≡ Some (Known k body) = sym none ∙ rw text at read in cc);
}

-- the loop's step: the command at a place doesn't read the content
pub next-read : (commands : List Command) (i : ℕ) (d : Command) (content : List ℕ) → i < length commands → None ≡ option_map (Known (get_or commands i d)) (read_by (get_or commands i d) content)
    → first_read (drop i commands) content ≡ first_read (drop (i + 1) commands) content
next-read commands i d content low none = rw (drop_more commands i d low, ← none) refl

-- and its end
pub none-left : (i : ℕ) (content : List ℕ) → length COMMANDS ≤ i → first_read (drop i COMMANDS) content ≡ None
none-left i content all = rw (drop_all i COMMANDS all) refl

-- ---- the laws

first-says : (commands : List Command) (content : List ℕ) (s : Said) → first_read commands content ≡ Some s → Says content s
first-says [] content s e = cc
first-says (k ∷ commands) content s e = go (read_by k content) (λ t f. says k content t f) (λ f. first-says commands content s f) e
  where
    go : (o : Option Body) → ((t : Said) → Some t ≡ option_map (Known k) o → Says content t)
        → (first_read commands content ≡ Some s → Says content s) → option_or (option_map (Known k) o) (first_read commands content) ≡ Some s → Says content s
    go None here later f = later f
    go (Some body) here later f = here s (sym f)

pub each_says : (content : List ℕ) → (s : Said) × Says content s
each_says content = go (first_read COMMANDS content) refl
  where
    go : (o : Option Said) → first_read COMMANDS content ≡ o → (s : Said) × Says content s
    go None e = (Unknown content, none-says content e)
    go (Some s) e = (s, first-says COMMANDS content s e)

pub one : (s t : Said) → IsWritable s → Says (written s) t → t ≡ s
one (Known j other) (Known k body) h says = same_Some (Known k body) (Known j other) (rw (← reads-back k body says.writable, says.written_as) (reads-back j other h))
one (Unknown bytes) (Known k body) h says = absurd (h k body says.writable says.written_as)
one (Known k body) (Unknown bytes) h says = absurd (says.writable k body h (sym says.written_as))
one (Unknown others) (Unknown bytes) h says = ap Unknown says.written_as

-- ---- Bytes that are shown as themselves.

-- one byte more in front
pub plain_more : (xs : List ℕ) (i : ℕ) → i < length xs → escaped (get_or xs i 0) ≡ get_or xs i 0 ∷ []
    → flat_map escaped xs ≡ take i xs ++ flat_map escaped (drop i xs) → flat_map escaped xs ≡ take (i + 1) xs ++ flat_map escaped (drop (i + 1) xs)
plain_more xs i less plain before = rw (before, drop_more xs i 0 less, take_more xs i 0 less, plain) (simp append_assoc)
