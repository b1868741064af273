-- Lines one after the other, and what they stand for.
use Rattle.std.proofs.Common.{◌⊎◌}
use Rattle.csicodec_listing.proofs.Common.{◌≡◌, inl, inr, ℕ, ◌+◌, ◌-◌, ◌^◌, ◌<◌, ◌≤◌, ◌==◌, zero, suc, min, Bool, true, false, not, List, [], ◌∷◌, ◌++◌, take, length, Result, Ok, Err, cond, refl, sym, ap, subst, ◌∙◌, append_assoc, append-nil, length-append, arith, and_parts, false_from_ne_true, le-ltb, lt-ltb, not-true, take_all, concat, list_all, Fault, TooLong, Refusal, IsTold, of_line}
use Rattle.csicodec_listing.proofs.Shown.{read_back}
use Rattle.csicodec_listing.specs.Lines.{AreKept, AreShown, Assembles, GiveAll, Gives, IsFirst, IsLineOf, IsRefused, Passes, Refuses, assembled, before, counted, ended, last_line, lines_from, most, of_bounded, of_lines, one_more}
use Rattle.csicodec_listing.specs.Object.{HasMany, IsRefusalOf}
use Rattle.memchr.specs.Find.{Nowhere, is_byte}
use Rattle.memchr.specs.Find as find

abbrev Answer : Type 0
Answer = Result (List ℕ) Fault

-- ---- what lines stand for

before-is : (p q : Answer) (x y : List ℕ) → p ≡ Ok x → q ≡ Ok y → before p q ≡ Ok (x ++ y)
before-is p q x y e f = rw (e, f) refl

-- what lines give, and others behind them
gives_then : (xs ys : List (List ℕ)) (a b : List ℕ) → GiveAll xs a → GiveAll ys b → GiveAll (xs ++ ys) (a ++ b)
gives_then [] ys a b none h = rw none h
gives_then (l ∷ xs) ys a b (x, y, e, short, gives, all) h =
    (x, y ++ b, ap (λ (s : List ℕ). s ++ b) e ∙ append_assoc x y b, short, gives, gives_then xs ys y b all h)

pub bounded : (line : List ℕ) → length line ≤ most → of_bounded line ≡ of_line line
bounded line short = rw (le-ltb most (length line) short) refl

pub too_long : (line : List ℕ) → most < length line → of_bounded line ≡ Err TooLong
too_long line long = rw (lt-ltb most (length line) long) refl

-- a line that isn't too long is refused as it is by itself
pub refused_bounded : (f : Fault) (line : List ℕ) → length line ≤ most → (of_line line ≡ Err f) ⊎ HasMany f line → (of_bounded line ≡ Err f) ⊎ HasMany f line
refused_bounded f line short (inl told) = inl (bounded line short ∙ told)
refused_bounded f line short (inr many) = inr many

pub refusal_of : (e : Refusal) (line : List ℕ) → IsTold e (of_line line) → IsRefusalOf e line
refusal_of (Refusal.Line f) line told = inl told
refusal_of Refusal.Memory line told = tt

-- ---- bytes that come

pub passes_then : (a b c x y t u : List ℕ) (k l : List (List ℕ)) → Passes a x k t b → Passes b y l u c
    → Passes a (x ++ y) (k ++ l) (t ++ u) c
passes_then a b c x y t u k l p q = record {
  lines = λ more. ap (λ (s : List ℕ). lines_from a s) (append_assoc x y more) ∙ p.lines (y ++ more)
      ∙ ap (λ (s : List (List ℕ)). k ++ s) (q.lines more) ∙ sym (append_assoc k l (lines_from c more));
  all = gives_then k l t u p.all q.all;
}

pub passes_end : (line text : List ℕ) → length line ≤ most → Gives line text → Passes line (10 ∷ []) (line ∷ []) text []
passes_end line text short gives = record { lines = λ more. refl; all = (text, [], sym (append-nil text), short, gives, refl) }

-- the last line, unless it is empty
pub last_gives : (line text : List ℕ) → (length line == 0) ≡ false → length line ≤ most → Gives line text → GiveAll (last_line line) text
last_gives [] text some short gives = cc some
last_gives (l ∷ line) text some short gives = (text, [], sym (append-nil text), short, gives, refl)

pub last_refused : (e : Refusal) (line : List ℕ) → (length line == 0) ≡ false → length line ≤ most → IsRefusalOf e line → IsFirst e (last_line line)
last_refused Refusal.Memory line some short told = tt
last_refused (Refusal.Line f) [] some short told = cc some
last_refused (Refusal.Line f) (l ∷ line) some short told = (l ∷ line, [], refl, refused_bounded f (l ∷ line) short told)

-- the first of the lines that go on with a line is no shorter
begins_at : (t : Bool) (line bytes : List ℕ) (own : List (List ℕ))
    → ((next : List ℕ) × (rest : List (List ℕ)) × (own ≡ next ∷ rest) × (length line ≤ length next))
    → (next : List ℕ) × (rest : List (List ℕ)) × (cond t (line ∷ lines_from [] bytes) own ≡ next ∷ rest) × (length line ≤ length next)
begins_at true line bytes own h = (line, lines_from [] bytes, refl, omega arith)
begins_at false line bytes own h = h

begins : (bytes line : List ℕ) → 0 < length line → (next : List ℕ) × (rest : List (List ℕ)) × (lines_from line bytes ≡ next ∷ rest) × (length line ≤ length next)
begins [] [] some = absurd (omega arith)
begins [] (l ∷ line) some = (l ∷ line, [], refl, omega arith)
begins (b ∷ bytes) line some =
    let longer : length (line ++ b ∷ []) ≡ length line + 1 = length-append line (b ∷ []) in
    let (next, rest, e, le) = begins bytes (line ++ b ∷ []) (omega (arith, longer)) in
    begins_at (b == 10) line bytes (lines_from (line ++ b ∷ []) bytes) (next, rest, e, omega (arith, longer, le))

-- bytes without an LF
abbrev pub Runs : List ℕ → Type 0
Runs run = list_all (λ b. not (b == 10)) run ≡ true

pub run_parts : (b : ℕ) (run : List ℕ) → Runs (b ∷ run) → ((b == 10) ≡ false) × Runs run
run_parts b run h =
    let parts = and_parts (not (b == 10)) (list_all (λ c. not (c == 10)) run) h in
    (not-true (b == 10) parts.0, parts.1)

-- they go on with a line
run_on : (run line more : List ℕ) → Runs run → lines_from line (run ++ more) ≡ lines_from (line ++ run) more
run_on [] line more h = ap (λ (s : List ℕ). lines_from s more) (sym (append-nil line))
run_on (b ∷ run) line more h =
    let (other, within) = run_parts b run h in
    rw other (run_on run (line ++ b ∷ []) more within ∙ ap (λ (s : List ℕ). lines_from s more) (append_assoc line (b ∷ []) run))

pub passes_run : (line run : List ℕ) → Runs run → Passes line run [] [] (line ++ run)
passes_run line run h = record { lines = λ more. run_on run line more h; all = refl }

pub refused_long : (line run : List ℕ) → Runs run → most < length line + length run → IsRefused (Refusal.Line TooLong) line run
refused_long line run h long = λ more.
    let (next, rest, e, le) = begins more (line ++ run) (omega (arith, length-append line run, long)) in
    (next, rest, run_on run line more h ∙ e, inl (too_long next (omega (arith, length-append line run, le, long))))

-- a line that bytes refuse is refused whatever comes then
pub refused_then : (e : Refusal) (line bytes more rest : List ℕ) → rest ≡ bytes ++ more → IsRefused e line bytes → IsRefused e line rest
refused_then e line bytes more rest split refuses = λ behind. rw (split, append_assoc bytes more behind) (refuses (more ++ behind))

-- the end of a line that is refused
pub refused_by : (e : Refusal) (line : List ℕ) → length line ≤ most → IsRefusalOf e line → IsRefused e line (10 ∷ [])
refused_by (Refusal.Line f) line short told = λ more. (line, lines_from [] more, refl, refused_bounded f line short told)
refused_by Refusal.Memory line short told = λ more. tt

-- no byte ahead of the first LF is one
pub none_before : (n : ℕ) (bytes : List ℕ) → Nowhere (find.Passes (is_byte 10) bytes) 0 n → Runs (take n bytes)
none_before zero bytes never = refl
none_before (suc n) [] never = refl
none_before (suc n) (b ∷ bytes) never =
    let other = false_from_ne_true (b == 10) (never 0 (omega arith) (omega arith)) in
    rw other (none_before n bytes (λ k low high found. never (suc k) (omega arith) (omega (arith, high)) found))

pub all_other : (bytes : List ℕ) → Nowhere (find.Passes (is_byte 10) bytes) 0 (length bytes) → Runs bytes
all_other bytes never = subst Runs (take_all (length bytes) bytes (omega arith)) (none_before (length bytes) bytes never)

-- ---- how many lines are over

pub counted_then : (before : ℕ) (over later : List (List ℕ)) → counted before (over ++ later) ≡ counted (counted before over) later
counted_then before [] later = refl
counted_then before (line ∷ over) later = counted_then (one_more before) over later

counted_all : (over : List (List ℕ)) (before : ℕ) → before ≤ 2 ^ 64 - 1 → counted before over ≡ min (before + length over) (2 ^ 64 - 1)
counted_all [] before fits = omega (arith, fits)
counted_all (line ∷ over) before fits =
    let others : counted (one_more before) over ≡ min (one_more before + length over) (2 ^ 64 - 1) = counted_all over (one_more before) (omega arith) in
    others ∙ omega arith

pub numbered : (over : List (List ℕ)) → counted 0 over ≡ min (length over) (2 ^ 64 - 1)
numbered over = counted_all over 0 (omega arith) ∙ omega arith

-- ---- what passed so far

-- a front of the bytes passed, and the rest is left
pub record Goes (first line bytes rest : List ℕ) (before over : ℕ) (old out : List ℕ) : Type 0 where
  pub front : List ℕ
  pub lines : List (List ℕ)
  pub text : List ℕ
  pub parts : bytes ≡ front ++ rest
  pub passes : Passes first front lines text line
  pub counts : over ≡ counted before lines
  pub appends : out ≡ old ++ text

-- the line goes on
pub one_run : {first line bytes rest old out next : List ℕ} {before over now : ℕ} (run behind : List ℕ) → Goes first line bytes rest before over old out
    → rest ≡ run ++ behind → Runs run → next ≡ line ++ run → now ≡ over → Goes first next bytes behind before now old out
one_run {first} {line} {old = old} {before = before} run behind g split within held same = record {
  front = g.front ++ run;
  lines = g.lines ++ [];
  text = g.text ++ [];
  parts = g.parts ∙ ap (λ (s : List ℕ). g.front ++ s) split ∙ sym (append_assoc g.front run behind);
  passes = rw held (passes_then first line (line ++ run) g.front run g.text [] g.lines [] g.passes (passes_run line run within));
  counts = same ∙ g.counts ∙ sym (counted_then before g.lines []);
  appends = g.appends ∙ ap (λ (s : List ℕ). old ++ s) (sym (append-nil g.text));
}

-- the line is over
pub one_end : {first line bytes behind old out last longer : List ℕ} {before over now : ℕ} → Goes first line bytes (10 ∷ behind) before over old out → length line ≤ most
    → last ≡ [] → now ≡ one_more over → (more : List ℕ) × Gives line more × (longer ≡ out ++ more) → Goes first last bytes behind before now old longer
one_end {first} {line} {behind = behind} {old = old} {before = before} g short begins_anew one (more, told, ended) = record {
  front = g.front ++ 10 ∷ [];
  lines = g.lines ++ line ∷ [];
  text = g.text ++ more;
  parts = g.parts ∙ sym (append_assoc g.front (10 ∷ []) behind);
  passes = rw begins_anew (passes_then first line [] g.front (10 ∷ []) g.text more g.lines (line ∷ []) g.passes (passes_end line more short told));
  counts = one ∙ ap one_more g.counts ∙ sym (counted_then before g.lines (line ∷ []));
  appends = ended ∙ ap (λ (s : List ℕ). s ++ more) g.appends ∙ append_assoc old g.text more;
}

-- all bytes passed
pub at_end : {first line bytes old out : List ℕ} {before over : ℕ} → Goes first line bytes [] before over old out
    → (lines : List (List ℕ)) × (text : List ℕ) × Passes first bytes lines text line × (over ≡ counted before lines) × (out ≡ old ++ text)
at_end {first} {line} g =
    let e = sym (g.parts ∙ append-nil g.front) in
    (g.lines, g.text, subst (λ (s : List ℕ). Passes first s g.lines g.text line) e g.passes, g.counts, g.appends)

-- what is left is refused
pub at_refusal : {first line bytes rest old out next later : List ℕ} {before over now : ℕ} (e : Refusal) → Goes first line bytes rest before over old out
    → IsRefused e line rest → next ≡ line → now ≡ over → later ≡ out
    → (front left text : List ℕ) × (lines : List (List ℕ)) × (bytes ≡ front ++ left) × Passes first front lines text next
    × IsRefused e next left × (now ≡ counted before lines) × (later ≡ old ++ text)
at_refusal {rest = rest} e g refuses same steady kept =
    (g.front, rest, g.text, g.lines, g.parts, rw same g.passes, rw same refuses, steady ∙ g.counts, kept ∙ g.appends)

-- ---- whole texts

pub whole : (bytes text rest line : List ℕ) (over : List (List ℕ)) → Passes [] bytes over text line → GiveAll (last_line line) rest
    → Assembles bytes (text ++ rest)
whole bytes text rest line over p last =
    let parts = ap (λ (s : List ℕ). lines_from [] s) (sym (append-nil bytes)) ∙ p.lines [] in
    subst (λ (ls : List (List ℕ)). GiveAll ls (text ++ rest)) (sym parts) (gives_then over (last_line line) text rest p.all last)

one_line_more : (n : ℕ) → one_more (min n (2 ^ 64 - 1)) ≡ one_more n
one_line_more n = omega arith

-- what is left of a text goes on with a line that is refused
pub refuses_at : (f : Fault) (front rest text line : List ℕ) (over : List (List ℕ)) → Passes [] front over text line
    → IsFirst (Refusal.Line f) (lines_from line rest) → Refuses (one_more (counted 0 over)) f (front ++ rest) text
refuses_at f front rest text line over p (whole, others, e, told) = record {
  ahead = over;
  line = whole;
  behind = others;
  split = p.lines rest ∙ ap (λ (ls : List (List ℕ)). over ++ ls) e;
  stand = p.all;
  counted = ap one_more (numbered over) ∙ one_line_more (length over);
  refused = told;
}

pub refused : (f : Fault) (front rest text line more : List ℕ) (over : List (List ℕ)) → Passes [] front over text line
    → IsRefused (Refusal.Line f) line rest → Refuses (one_more (counted 0 over)) f (front ++ rest ++ more) text
refused f front rest text line more over p refuses =
    subst (λ (all : List ℕ). Refuses (one_more (counted 0 over)) f all text) (sym (append_assoc front rest more))
    (refuses_at f front (rest ++ more) text line over p (refuses more))

pub kept_lines : (lines : List (List ℕ)) (text : List ℕ) → AreKept lines → GiveAll lines text → of_lines lines ≡ Ok text
kept_lines [] text are none = rw none refl
kept_lines (line ∷ lines) text (other, are) (x, y, e, short, inl is, all) =
    before-is (of_bounded line) (of_lines lines) x y (bounded line short ∙ is) (kept_lines lines y are all) ∙ ap Ok (sym e)
kept_lines (line ∷ lines) text (other, are) (x, y, e, short, inr (small, refused, fit), all) = absurd (other refused)

-- ---- what `explain --json` shows

shown_is : (line piece : List ℕ) → IsLineOf line piece → of_bounded line ≡ Ok piece
shown_is line piece is = bounded line is.short ∙ rw (is.utf8, is.is_read) (read_back is.value piece is.fit is.shows)

pub unedited : (lines pieces : List (List ℕ)) → AreShown lines pieces → assembled (ended lines) ≡ Ok (concat pieces)
unedited [] pieces none = rw none refl
unedited (line ∷ lines) pieces shown =
    let (piece, others, e, is, later) = shown in
    ap of_lines (run_on line [] (10 ∷ ended lines) is.within)
    ∙ before-is (of_bounded line) (assembled (ended lines)) piece (concat others) (shown_is line piece is) (unedited lines others later)
    ∙ ap (λ (p : List (List ℕ)). Ok (concat p)) (sym e)
