-- Where lines end, and a log as it comes.
use Rattle.std.proofs.Common.{◌≡◌, ◌+◌, ◌<◌, ℕ, Bool, true, false, not, cond, List, [], ◌∷◌, ◌++◌, length, take, drop, ◌==◌, inl, inr, refl, sym, ap, subst, ◌∙◌, append_assoc, append-nil, take-append-drop, arith}
use Rattle.std.proofs.lemmas.Bool.{cases_Bool, cond_both}
use Rattle.std.specs.List.{prefix_len, concat}
use Rattle.csicodec_looks.specs.Bytes.{behind}
use Rattle.csicodec_clean.specs.{Cleaned.Ends, Stream.AreTaken, Stream.Takes}
use Rattle.csicodec_clean.proofs.{Told.behind_one, Chunks.ends as at_end, Chunks.taken_on, Chunks.takes_none, Chunks.takes_on}
use Rattle.csicodec_lines.specs.{Lines.ends_line, Lines.joins, Lines.lines_from, Lines.lines_of, Private.Steps.IsWithin, Stream.Passes}
use Rattle.csicodec_lines.proofs.Common.{nat_tests, AllByRecursion, EndOf, RuleOf, longest, start_of, ByLines, is_within, Lines, Ending, begun, ended, GoesOn, Transforms}
use Rattle.csicodec_lines.proofs.Texts.{ended_on, joined_on, of_on}

-- ---- where a line is cut

-- the end of a line stands in front, or nothing
abbrev pub BeginsWithEnd : List ℕ → Type 0
BeginsWithEnd [] = Unit {0}
BeginsWithEnd (b ∷ bytes) = ends_line b ≡ true

pub begins_with_end : (bs : List ℕ) → BeginsWithEnd (behind is_within bs)
begins_with_end [] = tt
begins_with_end (b ∷ bs) = elim (cases_Bool (ends_line b)) [
  | inl is ↦ subst BeginsWithEnd (ap (λ (ends : Bool). drop (cond (not ends) (1 + prefix_len is_within bs) 0) (b ∷ bs)) (sym is)) is
  | inr other ↦ subst BeginsWithEnd (sym (behind_one is_within b bs (ap not other))) (begins_with_end bs)
]

pub whole : (bs front rest : List ℕ) → front ≡ take (prefix_len is_within bs) bs → rest ≡ behind is_within bs → bs ≡ front ++ rest
whole bs front rest e f = rw (e, f) (sym (take-append-drop (prefix_len is_within bs) bs))

-- ---- bytes more

one_within : (returned : Bool) (b : ℕ) (line more : List ℕ) → IsWithin b → lines_from returned line (b ∷ more) ≡ lines_from false (line ++ b ∷ []) more
one_within returned b line more e = grind (arith, nat_tests)

-- bytes that end no line go on with it
pub all_within_on : (returned : Bool) (bs line more : List ℕ) → 0 < length bs → AllByRecursion IsWithin bs → lines_from returned line (bs ++ more) ≡ lines_from false (line ++ bs) more
all_within_on returned [] line more some h = absurd (omega (arith, some))
all_within_on returned (b ∷ []) line more some h = one_within returned b line more h.0
all_within_on returned (b ∷ c ∷ bs) line more some h =
    one_within returned b line (c ∷ (bs ++ more)) h.0 ∙ rw (append_assoc line (b ∷ []) (c ∷ bs)) at (all_within_on false (c ∷ bs) (line ++ b ∷ []) more (omega arith) h.1)

-- one that ends it
pub one_end : (returned : Bool) (b : ℕ) (line more : List ℕ) → joins returned b ≡ false → ends_line b ≡ true → lines_from returned line (b ∷ more) ≡ line ∷ lines_from (b == 13) [] more
one_end returned b line more j e = grind (arith, nat_tests)

-- one that joins the end before it
pub one_joins : (returned : Bool) (b : ℕ) (line more : List ℕ) → joins returned b ≡ true → lines_from returned line (b ∷ more) ≡ lines_from false line more
one_joins returned b line more j = grind (arith, nat_tests)

-- whatever comes, the line goes on, and others may follow
pub record Behind (line : List ℕ) (lines : List (List ℕ)) : Type 0 where
  pub more : List ℕ
  pub others : List (List ℕ)
  pub all : lines ≡ (line ++ more) ∷ others

pub line_on : (returned : Bool) (line bs : List ℕ) → Behind line (lines_from returned line bs)
line_on returned line [] = record { more = []; others = []; all = rw append-nil refl }
line_on returned line (b ∷ bs) =
    let within = line_on false (line ++ b ∷ []) bs in
    let ended = line ∷ lines_from (b == 13) [] bs in
    let on = lines_from false (line ++ b ∷ []) bs in
    cond_both (joins returned b) (lines_from false line bs) (cond (ends_line b) ended on) (Behind line) (λ _. line_on false line bs)
    (λ _. cond_both (ends_line b) ended on (Behind line) (λ _. record { more = []; others = lines_from (b == 13) [] bs; all = rw append-nil refl })
    (λ _. record { more = b ∷ within.more; others = within.others; all = rw (within.all, append_assoc) refl }))

-- ---- A log as it comes.

module _ {S P : Type 0} (Begins : P → S) (Gives : RuleOf S) (Closes : EndOf S) where
  abbrev Step : Lines S P → List ℕ → List ℕ → Lines S P → Type 0
  Step = Passes Begins Gives Closes

  -- nothing came yet
  pub passes_none : (by : P) → Step (begun Begins by) [] [] (begun Begins by)
  passes_none by = record {
    by = refl;
    over = [];
    texts = [];
    line = [];
    own = [];
    lines = λ more. refl;
    each = refl;
    takes = takes_none Gives (Begins by);
    all = refl;
  }

  -- bytes that end no line
  pub goes_within : (old new : Lines S P) (bytes more : List ℕ) → 0 < length bytes → AllByRecursion IsWithin bytes → new.by ≡ old.by → new.returned ≡ false → Takes Gives old.line bytes more new.line
      → GoesOn Step old bytes more new
  goes_within old new bytes more some within by returned takes first read text p = record {
    by = by ∙ p.by;
    over = p.over;
    texts = p.texts;
    line = p.line ++ bytes;
    own = p.own ++ more;
    lines = λ later. rw (append_assoc read bytes later, p.lines (bytes ++ later), all_within_on old.returned bytes p.line later some within, returned) refl;
    each = p.each;
    takes = takes_on Gives (start_of (Begins first.by)) old.line new.line p.line bytes p.own more p.takes takes;
    all = rw p.all (append_assoc (ended p.texts) p.own more);
  }

  -- where the lines are the same
  pub goes_same : (old new : Lines S P) (bytes : List ℕ) → ((line more : List ℕ) → lines_from old.returned line (bytes ++ more) ≡ lines_from new.returned line more) → new.by ≡ old.by
      → new.line ≡ old.line → GoesOn Step old bytes [] new
  goes_same old new bytes same by line first read text p = record {
    by = by ∙ p.by;
    over = p.over;
    texts = p.texts;
    line = p.line;
    own = p.own;
    lines = λ later. rw (append_assoc read bytes later, p.lines (bytes ++ later), same p.line later) refl;
    each = p.each;
    takes = rw line p.takes;
    all = append-nil text ∙ p.all;
  }

  -- one that joins the end before it
  pub goes_joining : (old new : Lines S P) (b : ℕ) → joins old.returned b ≡ true → new.by ≡ old.by → new.returned ≡ false → new.line ≡ old.line → GoesOn Step old (b ∷ []) [] new
  goes_joining old new b joining by returned line = goes_same old new (b ∷ []) (λ own more. rw returned (one_joins old.returned b own more joining)) by line

  -- one that ends a line
  pub goes_over : (old new : Lines S P) (b : ℕ) (rest : List ℕ) → joins old.returned b ≡ false → ends_line b ≡ true → Ending Gives Closes old rest → new.by ≡ old.by → new.returned ≡ (b == 13)
      → new.line ≡ start_of (Begins old.by) → GoesOn Step old (b ∷ []) (rest ++ 10 ∷ []) new
  goes_over old new b rest joining ends (close, closes, shown) by returned line first read text p =
      let own = p.own ++ rest in
      let whole = at_end Gives Closes (Begins first.by) p.line p.own close old.line p.takes closes in
      let one : Ends Gives Closes longest (Begins first.by) p.line own = rw shown whole in
      record {
        by = by ∙ p.by;
        over = p.over ++ p.line ∷ [];
        texts = p.texts ++ own ∷ [];
        line = [];
        own = [];
        lines = λ later. rw (append_assoc read (b ∷ []) later, p.lines (b ∷ later), one_end old.returned b p.line later joining ends, returned) (sym (append_assoc p.over (p.line ∷ []) _));
        each = of_on (Ends Gives Closes longest (Begins first.by)) p.over p.texts p.line own p.each one;
        takes = rw (line, p.by) (takes_none Gives (Begins first.by));
        all = rw (p.all, append-nil, ended_on p.texts own) (simp append_assoc);
      }

  -- the end
  pub by_lines : (first last : Lines S P) (bytes text rest : List ℕ) → first.returned ≡ false → Step first bytes text last → Ending Gives Closes last rest
      → ByLines (Ends Gives Closes longest (Begins first.by)) bytes (text ++ rest)
  by_lines first last bytes text rest fresh p (close, closes, shown) =
      let Out = Ends Gives Closes longest (Begins first.by) in
      let own = p.own ++ rest in
      let whole = at_end Gives Closes (Begins first.by) p.line p.own close last.line p.takes closes in
      let one : Out p.line own = rw shown whole in
      let lines : lines_of bytes ≡ p.over ++ p.line ∷ [] = rw (fresh, append-nil) at (p.lines []) in
      record {
        texts = p.texts ++ own ∷ [];
        each = rw lines (of_on Out p.over p.texts p.line own p.each one);
        all = rw (p.all, joined_on p.texts own) (append_assoc (ended p.texts) p.own rest);
      }

  pub transformed : (first : Lines S P) (bytes text : List ℕ) → first.returned ≡ false → Transforms Step (Ending Gives Closes) first bytes text
      → ByLines (Ends Gives Closes longest (Begins first.by)) bytes text
  transformed first bytes text fresh (last, sure, rest, passed, ending, split) = rw split (by_lines first last bytes sure rest fresh passed ending)

  pub any_chunks : (by : P) (chunks : List (List ℕ)) (text rest : List ℕ) (last : Lines S P) → AreTaken (GoesOn Step) (begun Begins by) chunks text last → Ending Gives Closes last rest
      → ByLines (Ends Gives Closes longest (Begins by)) (concat chunks) (text ++ rest)
  any_chunks by chunks text rest last taken ending =
      let first = begun Begins by in
      let passed = taken_on Step (GoesOn Step) first (λ bytes text old new chunk more p goes. goes first bytes text p) [] [] first last chunks text (passes_none by) taken in
      by_lines first last (concat chunks) text rest refl passed ending
