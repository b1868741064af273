-- What lines give, as they come.
use Rattle.csicodec_inspect.proofs.Common.{◌≡◌, inl, inr, ℕ, ◌==◌, List, [], ◌∷◌, ◌++◌, Option, None, Some, Result, Ok, Err, refl, sym, ap, subst, ◌∙◌, append_assoc, append-nil, Appends-trans, IfErr, MatchResult, OnErr, OnOk, Appends, Consumes, IsAtEnd, IsErrAnd, Failure, Became, IsSent, answer_of, AssemblesLines, FrontsOf, IsAppended, Assembly}
use Rattle.std.proofs.lemmas.Bool.{cases_Bool}
use Rattle.csicodec_listing.specs.Lines.{Assembles, GiveAll, IsFirst, IsRefused, Passes, counted, last_line, lines_from, one_more}
use Rattle.csicodec_listing.specs.declared.object.Refusal.{Refusal}
use Rattle.csicodec_listing.proofs.Joined.{counted_then, passes_then, refuses_at, whole}
use Rattle.csicodec_transform.specs.declared.error.RunError.{RunError}

abbrev Lines : Type 0
Lines = List (List ℕ)

-- ---- a front of the lines

-- lines in front are those of a front of the bytes
front_lines : (bytes first : List ℕ) (over later : Lines) → (over ≡ [] → first ≡ []) → lines_from first bytes ≡ over ++ later
    → (ahead : List ℕ) × (behind : List ℕ) × (bytes ≡ ahead ++ behind) × (lines_from first ahead ≡ over)
front_lines bytes first [] later none e = ([], bytes, refl, rw (none refl) refl)
front_lines [] [] (line ∷ over) later none e = cc e
front_lines [] (f ∷ first) (line ∷ []) later none e = ([], [], refl, cc e)
front_lines [] (f ∷ first) (line ∷ o ∷ over) later none e = cc e
front_lines (b ∷ bytes) first (line ∷ over) later none e = elim (cases_Bool (b == 10)) [
  | inl is ↦
      let parts : first ∷ lines_from [] bytes ≡ line ∷ (over ++ later) = rw is at e in
      let (ahead, behind, f, same) = front_lines bytes [] over later (λ _. refl) (cc parts) in
      (b ∷ ahead, behind, ap (λ (s : List ℕ). b ∷ s) f, rw is (cc (parts, same)))
  | inr other ↦
      let (ahead, behind, f, same) = front_lines bytes (first ++ b ∷ []) (line ∷ over) later (λ no. cc no) (rw other at e) in
      (b ∷ ahead, behind, ap (λ (s : List ℕ). b ∷ s) f, rw other same)
]

front_of : (bytes text : List ℕ) (over later : Lines) → lines_from [] bytes ≡ over ++ later → GiveAll over text → FrontsOf Assembles bytes text
front_of bytes text over later e give =
    let (ahead, behind, f, same) = front_lines bytes [] over later (λ _. refl) e in
    (ahead, behind, [], f, rw (append-nil text, same) give)

-- what lines that are over give is a front, whatever comes
over_front : (read unread sure line : List ℕ) (over : Lines) → Passes [] read over sure line → FrontsOf Assembles (read ++ unread) sure
over_front read unread sure line over p = front_of (read ++ unread) sure over (lines_from line unread) (p.lines unread) p.all

became_front : (r : Result (Unit {0}) Failure) (bytes text : List ℕ) → Became r bytes text → FrontsOf Assembles bytes text
became_front (Ok u) bytes text all = (bytes, [], [], sym (append-nil bytes), rw (append-nil text) all)
became_front (Err (Failure.Object number fault)) bytes text r = front_of bytes text r.ahead (r.line ∷ r.behind) r.split r.stand
became_front (Err f) bytes text front = front

-- ---- bytes that come

-- behind what passed, the lines end so
became : (e : Refusal) (count : ℕ) (read rest sure line : List ℕ) (over : Lines) → Passes [] read over sure line → count ≡ counted 0 over
    → IsFirst e (lines_from line rest) → Became (answer_of (one_more count) (Err e)) (read ++ rest) sure
became (Refusal.Line fault) count read rest sure line over p is first = rw is (refuses_at fault read rest sure line over p first)
became Refusal.Memory count read rest sure line over p is first = over_front read rest sure line over p

-- so much was read, of which some lines are over
abbrev pub Stands : List ℕ → List ℕ → List ℕ → ℕ → Type 0
Stands read sure line count = (over : List (List ℕ)) × Passes [] read over sure line × (count ≡ counted 0 over)

-- or the next line is refused
abbrev pub Takes : Result (Unit {0}) Refusal → ℕ → List ℕ → List ℕ → List ℕ → ℕ → Type 0
Takes taken number read sure line count = MatchResult taken (λ _. Stands read sure line count)
    (λ e. (unread : List ℕ) → Became (answer_of number (Err e)) (read ++ unread) sure)

pub takes : (taken : Result (Unit {0}) Refusal) (number : ℕ) (read chunk sure line now before made : List ℕ) (count later : ℕ)
    → Stands read sure line count → number ≡ one_more later → before ≡ []
    → OnOk taken ((over : List (List ℕ)) × (text : List ℕ) × Passes line chunk over text now × (later ≡ counted count over) × (made ≡ before ++ text))
    → IfErr taken (λ e. (front rest text : List ℕ) × (over : List (List ℕ)) × (chunk ≡ front ++ rest) × Passes line front over text now
    × IsRefused e now rest × (later ≡ counted count over) × (made ≡ before ++ text))
    → Takes taken number (read ++ chunk) (sure ++ made) now later
takes (Ok u) number read chunk sure line now before made count later (over, p, is_count) is none (more, text, passes, counts, grows) told = (
  over ++ more,
  rw (grows, none) (passes_then [] line now read chunk sure text over more p passes),
  counts ∙ ap (λ (n : ℕ). counted n more) is_count ∙ sym (counted_then 0 over more),
)
takes (Err e) number read chunk sure line now before made count later (over, p, is_count) is none taken (front, rest, text, more, split, passes, refuses, counts, grows) = λ unread.
    let all : (read ++ front) ++ (rest ++ unread) ≡ (read ++ chunk) ++ unread = rw split (simp append_assoc) in
    let so_far = counts ∙ ap (λ (n : ℕ). counted n more) is_count ∙ sym (counted_then 0 over more) in
    let told = became e later (read ++ front) (rest ++ unread) (sure ++ text) now (over ++ more) (passes_then [] line now read front sure text over more p passes) so_far (refuses unread) in
    subst (λ (n : ℕ). Became (answer_of n (Err e)) ((read ++ chunk) ++ unread) (sure ++ made)) (sym is)
    (rw (grows, none) (subst (λ (bytes : List ℕ). Became (answer_of (one_more later) (Err e)) bytes (sure ++ text)) all told))

-- nothing comes any more
pub ends : (taken : Result (Unit {0}) Refusal) (number : ℕ) (read sure line before made : List ℕ) (count later : ℕ)
    → Stands read sure line count → number ≡ one_more later → before ≡ []
    → OnOk taken ((text : List ℕ) × GiveAll (last_line line) text × (made ≡ before ++ text))
    → IfErr taken (λ e. IsFirst e (last_line line)) → OnErr taken (later ≡ count) → OnErr taken (made ≡ before)
    → Became (answer_of number taken) read (sure ++ made)
ends (Ok u) number read sure line before made count later (over, p, is_count) is none (text, gives, grows) told stays kept =
    rw (grows, none) (whole read sure text line over p gives)
ends (Err e) number read sure line before made count later (over, p, is_count) is none gives told stays kept =
    subst (λ (n : ℕ). Became (answer_of n (Err e)) read (sure ++ made)) (sym (is ∙ ap one_more stays))
    (rw (kept, none, append-nil sure) (subst (λ (bytes : List ℕ). Became (answer_of (one_more count) (Err e)) bytes sure) (append-nil read)
    (became e count read [] sure line over p is_count told)))

-- ---- a run

-- what was sent of what came
sent_as : (answer result : Result (Unit {0}) Failure) (bytes sure made sent : List ℕ) → IsSent answer result made sent
    → FrontsOf Assembles bytes (sure ++ made) → (result ≡ answer → Became answer bytes (sure ++ made)) → Became result bytes (sure ++ sent)
sent_as answer result bytes sure made sent (inl (all, same)) front became_so = rw (same, all) (became_so same)
sent_as answer result bytes sure made sent (inr (error, unsent, same, split)) (ahead, more, rest, e, assembles) became_so =
    let whole : (sure ++ made) ++ rest ≡ (sure ++ sent) ++ (unsent ++ rest) = rw split (simp append_assoc) in
    rw same (ahead, more, unsent ++ rest, e, subst (Assembles ahead) whole assembles)

-- what became of all bytes
ran : (result : Result (Unit {0}) Failure) (read : List ℕ) (known after old new : Option (List ℕ)) (start end : Assembly) → Consumes known after read
    → ((unread : List ℕ) → after ≡ Some unread → IsAppended (Became result (read ++ unread)) old new) → AssemblesLines known (start, old) result (end, new)
ran (Ok u) read None after old new start end consumed became_so = ((tt, tt), tt)
ran (Err f) read None after old new start end consumed became_so = ((tt, tt), λ n fault is. tt)
ran result read (Some all) None old new start end consumed became_so = absurd consumed
ran (Ok u) read (Some all) (Some unread) old new start end consumed became_so = rw consumed ((became_so unread refl, tt), tt)
ran (Err f) read (Some all) (Some unread) old new start end consumed became_so =
    let (text, is, appended) = became_so unread refl in
    rw consumed (
      (tt, (text, became_front (Err f) (read ++ unread) text is, appended)),
      λ n fault same. (text, subst (λ (x : Failure). Became (Err x) (read ++ unread) text) same is, appended),
    )

-- all of them were read
pub ended_run : (taken : Result (Unit {0}) Refusal) (result : Result (Unit {0}) Failure) (number : ℕ) (read sure made sent : List ℕ) (known after old mid new : Option (List ℕ))
    (start end : Assembly) → Consumes known after read → IsAtEnd after → Became (answer_of number taken) read (sure ++ made) → IsSent (answer_of number taken) result made sent
    → Appends old mid sure → Appends mid new sent → AssemblesLines known (start, old) result (end, new)
ended_run taken result number read sure made sent known after old mid new start end consumed over_now is how appended went =
    ran result read known after old new start end consumed (λ unread left.
    let none : unread ≡ [] = subst IsAtEnd left over_now in (
      sure ++ sent,
      rw (none, append-nil read) (sent_as (answer_of number taken) result read sure made sent how (became_front (answer_of number taken) read (sure ++ made) is) (λ same. is)),
      Appends-trans old mid new sure sent appended went,
    ))

-- a run failed ahead of a chunk
pub stopped : (result : Result (Unit {0}) Failure) (error : RunError) (read sure line : List ℕ) (count : ℕ) (known after old new : Option (List ℕ)) (start end : Assembly)
    → Consumes known after read → Stands read sure line count → Appends old new sure → IsErrAnd result (λ f. f ≡ Failure.Run error) → AssemblesLines known (start, old) result (end, new)
stopped (Ok u) error read sure line count known after old new start end consumed stands appended failed = absurd failed
stopped (Err f) error read sure line count known after old new start end consumed (over, p, is_count) appended failed =
    ran (Err f) read known after old new start end consumed (λ unread left.
    (sure, subst (λ (x : Failure). Became (Err x) (read ++ unread) sure) (sym failed) (over_front read unread sure line over p), appended))

-- what a chunk gave was sent as far as it was
chunk_sent : (taken : Result (Unit {0}) Refusal) (result : Result (Unit {0}) Failure) (f : Failure) (number count : ℕ) (read unread sure made sent line : List ℕ)
    → Takes taken number read (sure ++ made) line count → IsSent (answer_of number taken) result made sent → result ≡ Err f → Became result (read ++ unread) (sure ++ sent)
chunk_sent (Ok u) result f number count read unread sure made sent line (over, p, is_count) how is =
    sent_as (Ok tt) result (read ++ unread) sure made sent how (over_front read unread (sure ++ made) line over p) (λ same. cc (is, same))
chunk_sent (Err e) result f number count read unread sure made sent line fails how is =
    let answer = answer_of number (Err e) in
    sent_as answer result (read ++ unread) sure made sent how (became_front answer (read ++ unread) (sure ++ made) (fails unread)) (λ same. fails unread)

-- a run failed behind it
pub stopped_behind : (taken : Result (Unit {0}) Refusal) (went result : Result (Unit {0}) Failure) (f : Failure) (number count : ℕ) (read sure made sent line : List ℕ)
    (known after old mid new : Option (List ℕ)) (start end : Assembly) → Consumes known after read → Takes taken number read (sure ++ made) line count
    → IsSent (answer_of number taken) went made sent → went ≡ Err f → IsErrAnd result (λ g. g ≡ f) → Appends old mid sure → Appends mid new sent
    → AssemblesLines known (start, old) result (end, new)
stopped_behind taken went (Ok u) f number count read sure made sent line known after old mid new start end consumed takes how is failed appended more = absurd failed
stopped_behind taken went (Err g) f number count read sure made sent line known after old mid new start end consumed takes how is failed appended more =
    ran (Err g) read known after old new start end consumed (λ unread left. (
      sure ++ sent,
      subst (λ (r : Result (Unit {0}) Failure). Became r (read ++ unread) (sure ++ sent)) (is ∙ ap Err (sym failed))
          (chunk_sent taken went f number count read unread sure made sent line takes how is),
      Appends-trans old mid new sure sent appended more,
    ))

-- there are more
pub goes_on : (taken : Result (Unit {0}) Refusal) (went : Result (Unit {0}) Failure) (number count : ℕ) (read sure made sent line : List ℕ)
    → Takes taken number read (sure ++ made) line count → IsSent (answer_of number taken) went made sent → went ≡ Ok tt → Stands read (sure ++ sent) line count
goes_on (Ok u) went number count read sure made sent line stands (inl (all, same)) is = rw all stands
goes_on (Err (Refusal.Line fault)) went number count read sure made sent line fails (inl (all, same)) is = cc (is, same)
goes_on (Err Refusal.Memory) went number count read sure made sent line fails (inl (all, same)) is = cc (is, same)
goes_on taken went number count read sure made sent line takes (inr (error, unsent, same, split)) is = cc (is, same)
