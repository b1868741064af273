-- what a run from a reader to a writer promises, where the bytes of its input are known
use Rattle.csicodec_tool.proofs.Common.{Bool, true, false, inl, inr, ◌≡◌, ◌++◌, ℕ, List, [], Option, None, Some, Result, Ok, Err, refl, sym, ◌∙◌, subst, append_assoc, append-nil, Appends-nil, IfSome_then, IfOk-from_err, on_err_weaker, on_ok_weaker, IfSome, IsErr, OnErr, OnOk, Appends, Consumes, IsAtEnd, RunError, Begins, Sends, Transforms, Passing, start_of, longest, Markup, FrontsOf, IsAppended, IsWrittenBy, IsHeaded, Heads, begun_of, PaintedPage, Wrote, WroteBehind, Log, IsLogged, IsLoggedFront, EndsLog, LogAs, PassesLog, Work}
use Rattle.csicodec_tool.proofs.{Anchors.numbered_front, Anchors.numbered_weaker, Logged.log_front, Logged.log_sure, Logged.logged, Spelling.spells_front}
use Rattle.csicodec_html.specs.Rule.{closes, turns}
use Rattle.csicodec_html.proofs.Paired.{page_of}
use Rattle.csicodec_clean.specs.{Page.PageWith, Page.first_set, Cleaned.EndOf, Cleaned.Ends, Cleaned.RuleOf, Shown.run_as, Stream.Closing, Stream.Takes}
use Rattle.csicodec_tool.specs.{Numbered.NumberedAs, Spelled.SpelledAs, Spelled.SpelledSure, Spelled.spelled_text, declared.front.Heading.Heading}
use Rattle.csicodec_tool.specs.{declared.rewrite.Page.Page as Asked}
use Rattle.csicodec_clean.proofs.Chunks.{closed, ends}
use Rattle.csicodec_lines.specs.{Lines.ByLines, Stream.Ending, Stream.Passes, declared.lines.Lines.Lines}
use Rattle.csicodec_lines.proofs.{Taken.by_lines, Taken.transformed, Texts.by_lines_as}
use Rattle.csicodec_looks.specs.declared.marking.Marking.TheVariants.{Page}
use Rattle.csicodec_overwrite.specs.Stream.{Ending as Stops, Passes as PassesLine, begun_as}
use Rattle.csicodec_overwrite.proofs.{Same.painted_page, Written.begins as line_begins, Written.transformed as line_transformed}
use Rattle.csicodec_inspect.proofs.Sent.{all_written, on_err_all}

on_ok_both : {A E P Q R : Type 0} (result : Result A E) → OnOk result P → OnOk result Q → (P → Q → R) → OnOk result R
on_ok_both (Ok a) p q f = f p q
on_ok_both (Err e) p q f = tt

-- bytes that were read are a front of those that were there
consumed_front : (before after : Option (List ℕ)) (bytes : List ℕ) → Consumes before after bytes
    → IfSome before (λ all. (rest : List ℕ) × (all ≡ bytes ++ rest))
consumed_front None after bytes h = tt
consumed_front (Some all) None bytes h = absurd h
consumed_front (Some all) (Some rest) bytes h = (rest, h)

-- some were, and a front of their text was written
front_written : (Out : List ℕ → List ℕ → Type 0) (before after old new : Option (List ℕ))
    → (bytes : List ℕ) × (more : List ℕ) × (sent : List ℕ) × (unsent : List ℕ) × Consumes before after (bytes ++ more)
    × Out bytes (sent ++ unsent) × Appends old new sent
    → IfSome before (λ all. IsAppended (FrontsOf Out all) old new)
front_written Out before after old new (bytes, more, sent, unsent, consumed, out, appended) =
    IfSome_then before (consumed_front before after (bytes ++ more) consumed)
    (λ all (rest, same). (sent, (bytes, more ++ rest, unsent, same ∙ append_assoc bytes more rest, out), appended))

pub run_written : {A E : Type 0} (Out Front : List ℕ → List ℕ → Type 0) (result : Result A E)
    (before after old new : Option (List ℕ))
    → OnOk result ((bytes : List ℕ) × (text : List ℕ) × Consumes before after bytes × Out bytes text × Appends old new text)
    → OnOk result (IsAtEnd after)
    → OnErr result ((bytes : List ℕ) × (more : List ℕ) × (sent : List ℕ) × (unsent : List ℕ)
    × Consumes before after (bytes ++ more) × Front bytes (sent ++ unsent) × Appends old new sent)
    → IsWrittenBy Out (FrontsOf Front) result before old new
run_written Out Front result before after old new ok end front = (
  on_ok_both result ok end (λ (bytes, text, consumed, out, appended) at.
      all_written Out before after old new (bytes, text, consumed, at, out, appended)),
  on_err_weaker result (front_written Front before after old new) front,
)

-- what is made of bytes otherwise, spelled or not
pub spelled_weaker : (visible : Bool) (Out Other : List ℕ → List ℕ → Type 0) → ((bytes text : List ℕ) → Out bytes text → Other bytes text)
    → (bytes text : List ℕ) → SpelledAs visible Out bytes text → SpelledAs visible Other bytes text
spelled_weaker false Out Other weaker bytes text out = weaker bytes text out
spelled_weaker true Out Other weaker bytes text (plain, out, e) = (plain, weaker bytes plain out, e)

-- what is sure of them, and what is whole, begins a text of a front of them
begun_front : (visible : Bool) (Sure Whole Front : List ℕ → List ℕ → Type 0) → ((bytes text : List ℕ) → Whole bytes text → Front bytes text)
    → ((bytes text : List ℕ) → Sure bytes text → (unsent : List ℕ) × Front bytes (text ++ unsent)) → (AreAll : Type 0) (bytes sent : List ℕ)
    → Begins (SpelledSure visible Sure) (SpelledAs visible Whole) AreAll bytes sent → (unsent : List ℕ) × SpelledAs visible Front bytes (sent ++ unsent)
begun_front visible Sure Whole Front fronts sure AreAll bytes sent (unsent, inr (all, whole)) =
    (unsent, spelled_weaker visible Whole Front fronts bytes (sent ++ unsent) whole)
begun_front false Sure Whole Front fronts sure AreAll bytes sent (unsent, inl is) =
    let (more, front) = sure bytes (sent ++ unsent) is in
    (unsent ++ more, subst (Front bytes) (append_assoc sent unsent more) front)
begun_front true Sure Whole Front fronts sure AreAll bytes sent (unsent, inl (plain, rest, is, spells)) =
    let (more, front) = sure bytes plain is in
    let tail = spelled_text (rest ++ more) in
    (unsent ++ tail, (plain ++ more, front, sym (spells_front plain more (sent ++ unsent) rest spells ∙ append_assoc sent unsent tail)))

-- the same of a transform, whose text is spelled or not
pub written_as : {A E : Type 0} (visible : Bool) (Sure Whole Out Front : List ℕ → List ℕ → Type 0) (result : Result A E)
    (before after old new : Option (List ℕ)) → ((bytes text : List ℕ) → Whole bytes text → Out bytes text)
    → ((bytes text : List ℕ) → Whole bytes text → Front bytes text)
    → ((bytes text : List ℕ) → Sure bytes text → (unsent : List ℕ) × Front bytes (text ++ unsent))
    → OnOk result ((bytes : List ℕ) × (text : List ℕ) × Consumes before after bytes × IsAtEnd after
    × SpelledAs visible Whole bytes text × Appends old new text)
    → OnErr result ((bytes : List ℕ) × (more : List ℕ) × (sent : List ℕ) × Consumes before after (bytes ++ more)
    × Begins (SpelledSure visible Sure) (SpelledAs visible Whole) ((more ≡ []) × IsAtEnd after) bytes sent × Appends old new sent)
    → IsWrittenBy (SpelledAs visible Out) (FrontsOf (SpelledAs visible Front)) result before old new
written_as visible Sure Whole Out Front result before after old new whole fronts sure ok front = (
  on_ok_weaker result (λ (bytes, text, consumed, end, is, appended).
      all_written (SpelledAs visible Out) before after old new
      (bytes, text, consumed, end, spelled_weaker visible Whole Out whole bytes text is, appended)) ok,
  on_err_weaker result (λ (bytes, more, sent, consumed, begins, appended).
      let (unsent, some) = begun_front visible Sure Whole Front fronts sure ((more ≡ []) × IsAtEnd after) bytes sent begins in
      front_written (SpelledAs visible Front) before after old new (bytes, more, sent, unsent, consumed, some, appended)) front,
)

-- of a stream that is cleaned by a rule
module _ {S : Type 0} (Gives : RuleOf S) (Closes : EndOf S) (Out : List ℕ → List ℕ → Type 0) (always : (after : S) → (close : List ℕ) × Closes after close)
  where
    pub cleaned_written : {A E : Type 0} (visible : Bool) (s : S) → ((bytes text : List ℕ) → Ends Gives Closes longest s bytes text → Out bytes text)
        → (result : Result A E) (before after old new : Option (List ℕ))
        → OnOk result ((bytes : List ℕ) × (text : List ℕ) × Consumes before after bytes × IsAtEnd after
        × SpelledAs visible (Transforms (Takes Gives) (Closing Gives Closes) (start_of s)) bytes text × Appends old new text)
        → OnErr result ((bytes : List ℕ) × (more : List ℕ) × (sent : List ℕ) × Consumes before after (bytes ++ more)
        × Begins (SpelledSure visible (Sends (Takes Gives) (start_of s))) (SpelledAs visible (Transforms (Takes Gives) (Closing Gives Closes) (start_of s)))
        ((more ≡ []) × IsAtEnd after) bytes sent × Appends old new sent)
        → IsWrittenBy (SpelledAs visible Out) (FrontsOf (SpelledAs visible Out)) result before old new
    cleaned_written visible s means result before after old new =
        let whole = λ (bytes text : List ℕ) (h : Transforms (Takes Gives) (Closing Gives Closes) (start_of s) bytes text). means bytes text (closed Gives Closes s bytes text h) in
        written_as visible (Sends (Takes Gives) (start_of s)) (Transforms (Takes Gives) (Closing Gives Closes) (start_of s)) Out Out result before after old new whole whole
        (λ bytes text (last, takes).
        let (close, closes) = always last.rule in
        (run_as Gives.writing last.held ++ close, means bytes _ (ends Gives Closes s bytes text close last takes closes)))

    -- line by line
    pub lines_written : {A E P : Type 0} (visible : Bool) (By : P → S) (first : Lines S P) → first.returned ≡ false
        → ((line text : List ℕ) → Ends Gives Closes longest (By first.by) line text → Out line text)
        → (result : Result A E) (before after old new : Option (List ℕ))
        → OnOk result ((bytes : List ℕ) × (text : List ℕ) × Consumes before after bytes × IsAtEnd after
        × SpelledAs visible (Transforms (Passes By Gives Closes) (Ending Gives Closes) first) bytes text × Appends old new text)
        → OnErr result ((bytes : List ℕ) × (more : List ℕ) × (sent : List ℕ) × Consumes before after (bytes ++ more)
        × Begins (SpelledSure visible (Sends (Passes By Gives Closes) first)) (SpelledAs visible (Transforms (Passes By Gives Closes) (Ending Gives Closes) first))
        ((more ≡ []) × IsAtEnd after) bytes sent × Appends old new sent)
        → IsWrittenBy (SpelledAs visible (ByLines Out)) (FrontsOf (SpelledAs visible (ByLines Out))) result before old new
    lines_written visible By first fresh means result before after old new =
        let mean = by_lines_as (Ends Gives Closes longest (By first.by)) Out means in
        let whole = λ (bytes text : List ℕ) (h : Transforms (Passes By Gives Closes) (Ending Gives Closes) first bytes text). mean bytes text (transformed By Gives Closes first bytes text fresh h) in
        written_as visible (Sends (Passes By Gives Closes) first) (Transforms (Passes By Gives Closes) (Ending Gives Closes) first) (ByLines Out) (ByLines Out)
        result before after old new whole whole
        (λ bytes text (last, passed).
        let (close, closes) = always last.line.rule in
        let rest = run_as Gives.writing last.line.held ++ close in
        (rest, mean bytes (text ++ rest) (by_lines By Gives Closes first last bytes text rest fresh passed (close, closes, refl))))

-- of a stream whose lines are written as they stand when they end
pub logged_written : {A E : Type 0} (log : Log) (t : Bool) (styles : Option Passing) (visible : Bool) (result : Result A E)
    (before after old new : Option (List ℕ)) → log.each ≡ t → log.styles ≡ styles
    → OnOk result ((bytes : List ℕ) × (text : List ℕ) × Consumes before after bytes × IsAtEnd after
    × SpelledAs visible (Transforms PassesLog EndsLog log) bytes text × Appends old new text)
    → OnErr result ((bytes : List ℕ) × (more : List ℕ) × (sent : List ℕ) × Consumes before after (bytes ++ more)
    × Begins (SpelledSure visible (Sends PassesLog log)) (SpelledAs visible (Transforms PassesLog EndsLog log)) ((more ≡ []) × IsAtEnd after) bytes sent
    × Appends old new sent)
    → IsWrittenBy (SpelledAs visible (LogAs t (IsLogged styles) (IsLogged styles))) (FrontsOf (SpelledAs visible (LogAs t (IsLogged styles) (IsLoggedFront styles))))
    result before old new
logged_written log t styles visible result before after old new each same ok front = rw (← each, ← same)
    (written_as visible (Sends PassesLog log) (Transforms PassesLog EndsLog log) (LogAs log.each (IsLogged log.styles) (IsLogged log.styles))
    (LogAs log.each (IsLogged log.styles) (IsLoggedFront log.styles)) result before after old new (logged log) (log_front log) (log_sure log) ok front)

-- of a page, whose lines are numbered or not
pub page_written : {A E : Type 0} (ids visible : Bool) (Sure Whole Out : List ℕ → List ℕ → Type 0) (result : Result A E)
    (before after old new : Option (List ℕ)) → ((bytes text : List ℕ) → Whole bytes text → Out bytes text)
    → ((bytes text : List ℕ) → Sure bytes text → (unsent : List ℕ) × Out bytes (text ++ unsent))
    → OnOk result ((bytes : List ℕ) × (text : List ℕ) × Consumes before after bytes × IsAtEnd after
    × SpelledAs visible (NumberedAs ids Whole) bytes text × Appends old new text)
    → OnErr result ((bytes : List ℕ) × (more : List ℕ) × (sent : List ℕ) × Consumes before after (bytes ++ more)
    × Begins (SpelledSure visible (NumberedAs ids Sure)) (SpelledAs visible (NumberedAs ids Whole)) ((more ≡ []) × IsAtEnd after) bytes sent
    × Appends old new sent)
    → IsWrittenBy (SpelledAs visible (NumberedAs ids Out)) (FrontsOf (SpelledAs visible (NumberedAs ids Out))) result before old new
page_written ids visible Sure Whole Out result before after old new whole sure =
    written_as visible (NumberedAs ids Sure) (NumberedAs ids Whole) (NumberedAs ids Out) (NumberedAs ids Out) result before after old new
    (numbered_weaker ids Whole Out whole) (numbered_weaker ids Whole Out whole) (numbered_front ids Sure Out sure)

-- one that lines are painted of, and one that is cleaned
pub painted_whole : (m : Markup) (bytes page : List ℕ) → Transforms PassesLine Stops (begun_as (Page m)) bytes page → PaintedPage m bytes page
painted_whole m bytes page h = painted_page m bytes page (line_transformed (Page m) bytes page h)

pub painted_sure : (m : Markup) (bytes page : List ℕ) → Sends PassesLine (begun_as (Page m)) bytes page → (unsent : List ℕ) × PaintedPage m bytes (page ++ unsent)
painted_sure m bytes page sent =
    let (unsent, shown) = line_begins (Page m) (Unit {0}) bytes page ([], inl (subst (Sends PassesLine (begun_as (Page m)) bytes) (sym (append-nil page)) sent)) in
    (unsent, painted_page m bytes (page ++ unsent) shown)

pub tagged_whole : (m : Markup) (bytes page : List ℕ) → Transforms (Takes turns) (Closing turns closes) (start_of (first_set m)) bytes page → PageWith m bytes page
tagged_whole m bytes page h = page_of m (first_set m) bytes page refl (closed turns closes (first_set m) bytes page h)

pub tagged_sure : (m : Markup) (bytes page : List ℕ) → Sends (Takes turns) (start_of (first_set m)) bytes page → (unsent : List ℕ) × PageWith m bytes (page ++ unsent)
tagged_sure m bytes page (last, takes) = (_, page_of m (first_set m) bytes _ refl (ends turns closes (first_set m) bytes page _ last takes refl))

-- what is spelled otherwise, of what becomes so
pub begins_weaker : (visible : Bool) (Sure Whole Other All : List ℕ → List ℕ → Type 0) → ((bytes text : List ℕ) → Sure bytes text → Other bytes text)
    → ((bytes text : List ℕ) → Whole bytes text → All bytes text) → (AreAll : Type 0) (bytes sent : List ℕ)
    → Begins (SpelledSure visible Sure) (SpelledAs visible Whole) AreAll bytes sent → Begins (SpelledSure visible Other) (SpelledAs visible All) AreAll bytes sent
begins_weaker visible Sure Whole Other All f g AreAll bytes sent (unsent, inr (all, whole)) =
    (unsent, inr (all, spelled_weaker visible Whole All g bytes (sent ++ unsent) whole))
begins_weaker false Sure Whole Other All f g AreAll bytes sent (unsent, inl sure) = (unsent, inl (f bytes (sent ++ unsent) sure))
begins_weaker true Sure Whole Other All f g AreAll bytes sent (unsent, inl (plain, rest, sure, spells)) = (unsent, inl (plain, rest, f bytes plain sure, spells))

-- what writes nothing writes the empty text
pub nothing_written : {A E : Type 0} (result : Result A E) (known out : Option (List ℕ))
    → IsWrittenBy (λ bytes text. text ≡ []) (FrontsOf (λ bytes text. text ≡ [])) result known out out
nothing_written (Ok a) None out = (tt, tt)
nothing_written (Err e) None out = (tt, tt)
nothing_written (Ok a) (Some bytes) out = (([], refl, Appends-nil out), tt)
nothing_written (Err e) (Some bytes) out = (tt, ([], ([], bytes, [], refl, refl), Appends-nil out))

-- a page that is no fragment, and hasn't begun
pub unbegun : (w : Work) (heading : Heading) (page : Asked) (fragment begun : Bool) → w ≡ Work.Html heading page fragment begun
    → fragment ≡ false → begun ≡ false → w ≡ Work.Html heading page false false
unbegun w heading page fragment begun is whole first = rw (is, whole, first) refl

-- what stands ahead of an input was written, or a front of it
pub headed : {A E : Type 0} (w new : Work) (result : Result A E) (old out : Option (List ℕ)) (text : List ℕ)
    → new ≡ begun_of w → Heads w text → OnOk result (Appends old out text)
    → OnErr result ((sent : List ℕ) × (unsent : List ℕ) × (text ≡ sent ++ unsent) × Appends old out sent)
    → IsHeaded w result new old out
headed w new result old out text is heads ok failed = (
  is,
  on_ok_weaker result (λ appended. (text, heads, appended)) ok,
  on_err_weaker result (λ (sent, unsent, same, appended).
      (sent, inr (unsent, subst (λ (t : List ℕ). Heads w t) same heads), appended)) failed,
)

-- an input failed ahead of its bytes
pub headed_alone : {A E : Type 0} (w new : Work) (headed : Result (Unit {0}) RunError) (error : RunError) (result : Result A E)
    (known old out : Option (List ℕ))
    → IsHeaded w headed new old out → headed ≡ Err error → IsErr result → WroteBehind w result new known old out
headed_alone w new headed error result known old out heads failed ended =
    record { headed = headed; ahead = out; heads = heads; wrote = rw failed tt; failed = rw failed (ended, refl) }

-- its bytes were written behind what stands ahead
pub headed_whole : {A E : Type 0} (w new : Work) (headed : Result (Unit {0}) RunError) (result : Result A E)
    (known old ahead out : Option (List ℕ))
    → IsHeaded w headed new old ahead → headed ≡ Ok tt → Wrote new result known ahead out → WroteBehind w result new known old out
headed_whole w new headed result known old ahead out heads went wrote =
    record { headed = headed; ahead = ahead; heads = heads; wrote = rw went wrote; failed = rw went tt }

-- the same where they were written to their end
pub headed_well : {E F : Type 0} (w new : Work) (headed : Result (Unit {0}) RunError) (written : Result (Unit {0}) E)
    (known old ahead out : Option (List ℕ))
    → IsHeaded w headed new old ahead → headed ≡ Ok tt → written ≡ Ok tt → Wrote new written known ahead out
    → WroteBehind {A = Unit {0}} {E = F} w (Ok tt) new known old out
headed_well w new headed written known old ahead out heads went is wrote =
    headed_whole w new headed (Ok tt) known old ahead out heads went (rw is at wrote.0, tt)

-- and where that failed
pub headed_failed : {E F : Type 0} (w new : Work) (headed : Result (Unit {0}) RunError) (written : Result (Unit {0}) E) (error : E)
    (result : Result (Unit {0}) F) (known old ahead out : Option (List ℕ))
    → IsHeaded w headed new old ahead → headed ≡ Ok tt → written ≡ Err error → IsErr result → Wrote new written known ahead out
    → WroteBehind w result new known old out
headed_failed w new headed written error result known old ahead out heads went is failed wrote =
    headed_whole w new headed result known old ahead out heads went (IfOk-from_err result _ failed, on_err_all result (rw is at wrote.1))

-- where it is only checked what is plain text, nothing is written
pub check_wrote : {A E : Type 0} (w : Work) (result : Result A E) (known out : Option (List ℕ)) (visible : Bool)
    → w ≡ Work.Check visible
    → WroteBehind w result w known out out
check_wrote w result known out visible is = rw is (record {
  headed = Ok tt;
  ahead = out;
  heads = (refl, ([], refl, Appends-nil out), tt);
  wrote = nothing_written result known out;
  failed = tt;
})
