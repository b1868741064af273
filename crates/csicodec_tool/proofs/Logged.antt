-- A log as it comes.
use Rattle.csicodec_tool.proofs.Common.{Bool, true, false, ◌≡◌, ◌==◌, not, ℕ, List, [], ◌∷◌, ◌++◌, Option, None, Some, refl, sym, ap, subst, ◌∙◌, append_assoc, append-nil, list_all-append, IfSome, GoesOn, Sends, Transforms, shown_text, Between, start_of, Keeping, StylesIn, first_kept, keeps, resets, Passing, ended, Marking, Log, IsLine, IsLogged, IsLoggedFront, EndsLog, Finishes, GoesIn, IsBegun, IsIn, LogAs, PassesLog, Pushes}
use Rattle.csicodec_clean.proofs.{Chunks.ends as at_end, Chunks.takes_none, Chunks.takes_on, Plain.all_both, Styled.styles as styled_as}
use Rattle.csicodec_lines.proofs.Texts.{ended_on, of_on}
use Rattle.csicodec_looks.specs.declared.marking.Marking.TheVariants.{Plain, Styled}
use Rattle.csicodec_overwrite.specs.Stream.{Now, begun_as}
use Rattle.csicodec_overwrite.proofs.Written.{passes_none, passes_on, shows}

-- ---- the line that isn't over

-- how it is written
abbrev pub marking_of : Option Passing → Marking
marking_of None = Plain
marking_of (Some p) = Styled

marking_in : (styles : Option Passing) (at : Now) (c : Between Keeping) (line own : List ℕ) → IsIn styles at c line own → at.marking ≡ marking_of styles
marking_in None at c line own passes = passes.marking
marking_in (Some p) at c line own (painted, passes, takes) = passes.marking

-- nothing has come of it
pub begun_in : (styles : Option Passing) (at : Now) (c : Between Keeping) → at ≡ begun_as (marking_of styles)
    → IfSome styles (λ p. c ≡ start_of (first_kept p)) → IsIn styles at c [] []
begun_in None at c now fresh = rw now (passes_none (begun_as Plain) refl)
begun_in (Some p) at c now fresh =
    ([], rw now (passes_none (begun_as Styled) refl), rw fresh (takes_none keeps (first_kept p)))

-- it goes on
part_in : (styles : Option Passing) (at new : Now) (c d : Between Keeping) (line own part text : List ℕ) → IsIn styles at c line own
    → Pushes styles at c part text new d → IsIn styles new d (line ++ part) (own ++ text)
part_in None at new c d line own part text before passes = passes_on (begun_as Plain) at new line part own text before passes
part_in (Some p) at new c d line own part text (painted, before, taken) (more, passes, takes) = (
  painted ++ more,
  passes_on (begun_as Styled) at new line part painted more before passes,
  takes_on keeps (start_of (first_kept p)) c d painted more own text taken takes,
)

-- it is over
end_in : (styles : Option Passing) (at : Now) (c : Between Keeping) (line own rest : List ℕ) → IsIn styles at c line own
    → Finishes styles at c rest → IsLogged styles line (own ++ rest)
end_in None at c line own rest before ends = shows Plain line own rest at before ends
end_in (Some p) at c line own rest (painted, before, taken) (more, text, close, last, ends, takes, closes, all) =
    let left = shown_text last.held ++ close in
    let whole = takes_on keeps (start_of (first_kept p)) c last painted more own text taken takes in (
      painted ++ more,
      shows Styled line painted more at before ends,
      subst (StylesIn p (painted ++ more)) (append_assoc own text left ∙ ap (λ (t : List ℕ). own ++ t) (sym all))
          (styled_as p _ (painted ++ more) ((own ++ text) ++ left) refl
          (at_end keeps resets (first_kept p) (painted ++ more) (own ++ text) close last whole closes)),
    )

-- what stands in it is more than is sure of it
told_front : (styles : Option Passing) (at : Now) (c : Between Keeping) (line own : List ℕ) → IsIn styles at c line own
    → (more : List ℕ) × IsLoggedFront styles line (own ++ more)
told_front None at c line own passes = (_, shows Plain line own _ at passes refl)
told_front (Some p) at c line own (painted, passes, takes) = (
  _,
  (
    painted,
    _,
    shows Styled line painted _ at passes refl,
    styled_as p _ painted _ refl
        (at_end keeps resets (first_kept p) painted own _ c takes refl),
  ),
)

whole_front : (styles : Option Passing) (line text : List ℕ) → IsLogged styles line text → IsLoggedFront styles line text
whole_front None line text h = h
whole_front (Some p) line text (painted, paints, styled) = (painted, [], rw (append-nil painted) paints, styled)

-- ---- all lines

-- the last of them, and what they are where it goes on
last_of : (t : Bool) (Each Last Other : List ℕ → List ℕ → Type 0) (bytes text : List ℕ) → LogAs t Each Last bytes text
    → (line : List ℕ) × (own : List ℕ) × Last line own × ((part more : List ℕ) → (t ≡ true → IsLine part) → Other (line ++ part) (own ++ more)
    → LogAs t Each Other (bytes ++ part) (text ++ more))
last_of false Each Last Other bytes text last = (bytes, text, last, λ part more is other. other)
last_of true Each Last Other bytes text log = (
  log.rest,
  log.own,
  log.behind,
  λ part more is other. record {
    lines = log.lines;
    rest = log.rest ++ part;
    are_lines = log.are_lines;
    is_line = list_all-append (λ (b : ℕ). not (b == 10)) log.rest part ∙ rw (log.is_line, is refl) refl;
    split = ap (λ (t : List ℕ). t ++ part) log.split ∙ append_assoc (ended log.lines) log.rest part;
    texts = log.texts;
    own = log.own ++ more;
    each = log.each;
    behind = other;
    all = ap (λ (t : List ℕ). t ++ more) log.all ∙ append_assoc (ended log.texts) log.own more;
  },
)

-- nothing came yet
pub log_begun : (log : Log) → IsIn log.styles log.line log.cleaner [] [] → PassesLog log [] [] log
log_begun log begun = ((refl, refl), by log.each)
  where
    by : (t : Bool) → LogAs t (IsLogged log.styles) (IsIn log.styles log.line log.cleaner) [] []
    by false = begun
    by true = record { lines = []; rest = []; are_lines = tt; is_line = refl; split = refl; texts = []; own = []; each = refl; behind = begun; all = refl }

part_log : (t : Bool) (styles : Option Passing) (at new : Now) (c d : Between Keeping) (part more bytes text : List ℕ) → (t ≡ true → IsLine part)
    → Pushes styles at c part more new d → LogAs t (IsLogged styles) (IsIn styles at c) bytes text
    → LogAs t (IsLogged styles) (IsIn styles new d) (bytes ++ part) (text ++ more)
part_log t styles at new c d part more bytes text is pushes log =
    let (line, own, last, put) = last_of t (IsLogged styles) (IsIn styles at c) (IsIn styles new d) bytes text log in
    put part more is (part_in styles at new c d line own part more last pushes)

-- a part of the line
pub part_on : (old new : Log) (part more : List ℕ) → (old.each ≡ true → IsLine part) → GoesIn old part more new → GoesOn PassesLog old part more new
part_on old new part more is ((each, styles), pushes) first bytes text ((kept, same), log) = (
  (each ∙ kept, styles ∙ same),
  part_log first.each first.styles old.line new.line old.cleaner new.cleaner part more bytes text (λ t. is (kept ∙ t))
      (subst (λ (p : Option Passing). Pushes p old.line old.cleaner part more new.line new.cleaner) same pushes) log,
)

-- one line more
ended_more : (texts : List (List ℕ)) (own rest : List ℕ) → (ended texts ++ own) ++ (rest ++ 10 ∷ []) ≡ ended (texts ++ (own ++ rest) ∷ []) ++ []
ended_more texts own rest =
    append_assoc (ended texts) own (rest ++ 10 ∷ []) ∙ ap (λ (t : List ℕ). ended texts ++ t) (sym (append_assoc own rest (10 ∷ [])))
    ∙ sym (ended_on texts (own ++ rest)) ∙ sym (append-nil (ended (texts ++ (own ++ rest) ∷ [])))

over_log : (t : Bool) (styles : Option Passing) (at new : Now) (c d : Between Keeping) (rest bytes text : List ℕ) → t ≡ true → Finishes styles at c rest
    → new ≡ begun_as at.marking → IfSome styles (λ p. d ≡ start_of (first_kept p)) → LogAs t (IsLogged styles) (IsIn styles at c) bytes text
    → LogAs t (IsLogged styles) (IsIn styles new d) (bytes ++ 10 ∷ []) (text ++ (rest ++ 10 ∷ []))
over_log false styles at new c d rest bytes text each ends now fresh last = cc each
over_log true styles at new c d rest bytes text each ends now fresh log = record {
  lines = log.lines ++ log.rest ∷ [];
  rest = [];
  are_lines = all_both IsLine log.lines (log.rest ∷ []) log.are_lines (log.is_line, tt);
  is_line = refl;
  split = ap (λ (t : List ℕ). t ++ 10 ∷ []) log.split ∙ ended_more log.lines log.rest [] ∙ ap (λ (t : List ℕ). ended (log.lines ++ t ∷ []) ++ []) (append-nil log.rest);
  texts = log.texts ++ (log.own ++ rest) ∷ [];
  own = [];
  each = of_on (IsLogged styles) log.lines log.texts log.rest (log.own ++ rest) log.each (end_in styles at c log.rest log.own rest log.behind ends);
  behind = begun_in styles new d (now ∙ ap begun_as (marking_in styles at c log.rest log.own log.behind)) fresh;
  all = ap (λ (t : List ℕ). t ++ (rest ++ 10 ∷ [])) log.all ∙ ended_more log.texts log.own rest;
}

-- the end of the line, and a newline
pub line_over : (old new : Log) (rest : List ℕ) → old.each ≡ true → EndsLog old rest → IsBegun old new → GoesOn PassesLog old (10 ∷ []) (rest ++ 10 ∷ []) new
line_over old new rest is ends ((each, styles), now, fresh) first bytes text ((kept, same), log) = (
  (each ∙ kept, styles ∙ same),
  over_log first.each first.styles old.line new.line old.cleaner new.cleaner rest bytes text (sym kept ∙ is)
      (subst (λ (p : Option Passing). Finishes p old.line old.cleaner rest) same ends) now
      (subst (λ (p : Option Passing). IfSome p (λ q. new.cleaner ≡ start_of (first_kept q))) same fresh) log,
)

-- the end
pub logged : (first : Log) (bytes text : List ℕ) → Transforms PassesLog EndsLog first bytes text
    → LogAs first.each (IsLogged first.styles) (IsLogged first.styles) bytes text
logged first bytes text (last, sure, rest, ((kept, same), log), ends, split) =
    let P = first.styles in
    let (line, own, at, put) = last_of first.each (IsLogged P) (IsIn P last.line last.cleaner) (IsLogged P) bytes sure log in
    let over = end_in P last.line last.cleaner line own rest at (subst (λ (p : Option Passing). Finishes p last.line last.cleaner rest) same ends) in
    rw split (rw append-nil at (put [] rest (λ _. refl) (rw append-nil over)))

-- what is sure of it is a front of what becomes of the lines that are over, and of the one that isn't
pub log_sure : (first : Log) (bytes text : List ℕ) → Sends PassesLog first bytes text
    → (unsent : List ℕ) × LogAs first.each (IsLogged first.styles) (IsLoggedFront first.styles) bytes (text ++ unsent)
log_sure first bytes text (last, ((kept, same), log)) =
    let P = first.styles in
    let (line, own, at, put) = last_of first.each (IsLogged P) (IsIn P last.line last.cleaner) (IsLoggedFront P) bytes text log in
    let (more, told) = told_front P last.line last.cleaner line own at in
    (more, rw append-nil at (put [] more (λ _. refl) (rw append-nil told)))

-- and so is all of it
pub log_front : (first : Log) (bytes text : List ℕ) → Transforms PassesLog EndsLog first bytes text
    → LogAs first.each (IsLogged first.styles) (IsLoggedFront first.styles) bytes text
log_front first bytes text whole =
    let P = first.styles in
    let (line, own, at, put) = last_of first.each (IsLogged P) (IsLogged P) (IsLoggedFront P) bytes text (logged first bytes text whole) in
    let told = whole_front P line own at in
    simp append-nil at (put [] [] (λ _. refl) (simp append-nil told))
