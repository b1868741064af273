-- A run of a transform, by what its text is, and a stream whose state the caller keeps, step by step.
use Rattle.std.proofs.Common.{ℕ, ◌≡◌, Option, IfSome, List, [], ◌++◌, ◌∙◌, append_assoc, append-nil, inl, inr, subst, sym, Result, OnOk, OnErr, ◌≤◌, Bool, false, cond, ◌∷◌, length, length-append, take, drop, ◌+◌, ◌-◌, refl, ap, take-append-drop, arith, length-take-le}
use Rattle.std.proofs.lemmas.List.{take-append-le}
use Rattle.csicodec_clean.proofs.Common.{on_err_weaker, on_ok_weaker, Consumes, PassesOf, Sends, IsFrontOf, StreamsOne, drop-append-le, take-append_seam, drop-append_seam, concat, text, Kind, Part, IsUnsure, rest_is, RuleOf, AreGiven, AreSteps, IsStep, Strips, drops, ends_bare, longest, Depth, as_read, AreTaken, GoesBy, Takes, state_of, Keeping, StylesIn, resets, keeps}
use Rattle.csicodec_clean.proofs.{Chunks.any_chunks, Chunks.unsure_few, Plain.strips, Plain.read_none, Styled.styles, Rendered.unsaved, Rendered.unsaved_by}
use Rattle.std.specs.Io.KnownBytes.{Appends, IsAtEnd}
use Rattle.csicodec_transform.specs.Transform.{Begins, EndsOf}
use Rattle.csicodec_transform.proofs.Sent.{whole_front}
use Rattle.csicodec_clean.specs.{Streams.Streams, declared.step.Pause.Pause, declared.whole.Dropped.Dropped, Saving.escape_effect, Styled.Rendition}
use Rattle.csicodec_clean.specs.{Styled.in_steps, Styled.keeping, Styled.rendition, Styled.resumed, Styled.spelled, Links.start, Steps.AreStepped}
use Rattle.csicodec_clean.specs.{Steps.Resumes, Steps.Steps, Steps.bare, Steps.beginning, Steps.between, Steps.ending}
use Rattle.csicodec_base.specs.declared.sgr.Sgr.{Sgr}
use Rattle.csicodec_actions.specs.Actions as action

module _ (Sure Whole Out : List ℕ → List ℕ → Type 0) (Safe : List ℕ → Type 0) where
  abbrev pub Ran : {A E : Type 0} → Result A E → Option (List ℕ) → Option (List ℕ) → Option (List ℕ) → Option (List ℕ) → Type 0
  Ran result i k w y = OnOk result ((bytes : List ℕ) × (text : List ℕ) × Consumes i k bytes × IsAtEnd k × Whole bytes text × Appends w y text)

  abbrev pub Went : {A E : Type 0} → Result A E → Option (List ℕ) → Option (List ℕ) → Option (List ℕ) → Option (List ℕ) → Type 0
  Went result i k w y = OnErr result ((bytes : List ℕ) × (more : List ℕ) × (sent : List ℕ) × Consumes i k (bytes ++ more)
      × Begins Sure Whole ((more ≡ []) × IsAtEnd k) bytes sent × Appends w y sent)

  -- what is whole is the text, what begins it is a front of one, and each is safe
  pub record Texts : Type 1 where
    pub whole : (bytes text : List ℕ) → Whole bytes text → Out bytes text
    pub begins : (AreAll : Type 0) (bytes sent : List ℕ) → Begins Sure Whole AreAll bytes sent → (unsent : List ℕ) × Out bytes (sent ++ unsent)
    pub safe : (bytes text : List ℕ) → Out bytes text → Safe text

  pub streams : {A E : Type 0} (result : Result A E) (i k w y : Option (List ℕ)) → Texts → Ran result i k w y → Went result i k w y → Streams Out Safe result i k w y
  streams result i k w y t ran went = record {
    ok = on_ok_weaker result
        (λ (bytes, text, consumed, end, h, appended).
        let o = t.whole bytes text h in
        (bytes, text, consumed, o, t.safe bytes text o, appended))
        ran;
    end = on_ok_weaker result (λ (bytes, text, consumed, end, h, appended). end) ran;
    front = on_err_weaker result
        (λ (bytes, more, sent, consumed, h, appended).
        let (unsent, o) = t.begins _ bytes sent h in
        (bytes, more, sent, unsent, consumed, o, t.safe bytes (sent ++ unsent) o, appended))
        went;
  }

  -- where what went out is a front of the one text
  abbrev pub AreFronts : Type 0
  AreFronts = (bytes more sent : List ℕ) (i k w y : Option (List ℕ)) → Consumes i k (bytes ++ more)
      → Begins Sure Whole ((more ≡ []) × IsAtEnd k) bytes sent → Appends w y sent
      → IfSome i (λ bytes. (sent : List ℕ) × IsFrontOf Out bytes sent × Appends w y sent)

  pub streams_one : {A E : Type 0} (result : Result A E) (i k w y : Option (List ℕ)) → Texts → AreFronts → Ran result i k w y → Went result i k w y → StreamsOne Out Safe result i k w y
  streams_one result i k w y t fronts ran went = record {
    streams = streams result i k w y t ran went;
    whole = on_err_weaker result (λ (bytes, more, sent, consumed, h, appended). fronts bytes more sent i k w y consumed h appended) went;
  }

-- By a transform: what a stream sends is a front of its text, whatever comes behind, and with what may end it there it is all of it. So it is after any error, if each stream
-- has one text.
module _ {S : Type 0} (P : PassesOf S) (E : EndsOf S) (s : S) (Whole Out : List ℕ → List ℕ → Type 0) (Safe : List ℕ → Type 0)
    (ends : (bytes text rest : List ℕ) (last : S) → P s bytes text last → E last rest → Out bytes (text ++ rest))
    (whole : (bytes text : List ℕ) → Whole bytes text → Out bytes text)
    (always : (last : S) → (rest : List ℕ) × E last rest)
    (safe : (bytes text : List ℕ) → Out bytes text → Safe text)
  where
    begins : (AreAll : Type 0) (bytes sent : List ℕ) → Begins (Sends P s) Whole AreAll bytes sent → (unsent : List ℕ) × Out bytes (sent ++ unsent)
    begins AreAll bytes sent (unsent, inl (last, passed)) =
        let (rest, over) = always last in (unsent ++ rest, subst (Out bytes) (append_assoc sent unsent rest) (ends bytes (sent ++ unsent) rest last passed over))
    begins AreAll bytes sent (unsent, inr (all, is)) = (unsent, whole bytes (sent ++ unsent) is)

    texts : Texts (Sends P s) Whole Out Safe
    texts = record { whole = whole; begins = begins; safe = safe }

    pub ran : {A E : Type 0} (result : Result A E) (i k w y : Option (List ℕ)) → Ran (Sends P s) Whole Out Safe result i k w y → Went (Sends P s) Whole Out Safe result i k w y
        → Streams Out Safe result i k w y
    ran result i k w y = streams (Sends P s) Whole Out Safe result i k w y texts

    pub one_ran : ((bytes text other : List ℕ) → Out bytes text → Out bytes other → text ≡ other) → ((read more text : List ℕ) (last : S) → P s read text last → IsFrontOf Out (read ++ more) text)
        → {A E : Type 0} (result : Result A E) (i k w y : Option (List ℕ)) → Ran (Sends P s) Whole Out Safe result i k w y → Went (Sends P s) Whole Out Safe result i k w y
        → StreamsOne Out Safe result i k w y
    one_ran one front result i k w y = streams_one (Sends P s) Whole Out Safe result i k w y texts
        (whole_front (Sends P s) Whole (IsFrontOf Out) (λ bytes sent unsent h all o. (let (more, e) = h all o in (unsent ++ more, e ∙ append_assoc sent unsent more)))
        (λ read more text (last, passed). front read more text last passed) (λ bytes text h all o. ([], one bytes all text o (whole bytes text h) ∙ sym (append-nil text))))

-- ---- A stream whose state the caller keeps, step by step.

module _ {S : Type 0} (Gives : RuleOf S) where
  -- a step, by what goes behind the bytes that are held
  resumes : (s t : S) (p q : Pause) (bytes text left rest : List ℕ) → q.held ≡ length left → IsUnsure longest q.mode rest
      → GoesBy Gives longest (between s p bytes) text (state_of t q.mode q.reading rest left) → Resumes Gives s p bytes text t q (left ++ rest)
  resumes s t p q bytes text left rest n unsure goes again more e low =
      let now : take q.held (left ++ rest) ≡ left = rw n (take-append_seam left rest) in
      let later : drop q.held (left ++ rest) ≡ rest = rw n (drop-append_seam left rest) in
      record { unsure = rw later unsure; goes = rw (now, later) (rw (e, take-append-le p.held again more low, drop-append-le p.held again more low) at goes) }

  pub stepped : (s t : S) (p q : Pause) (bytes text before left rest : List ℕ) (used : ℕ) → take p.held bytes ++ drop p.held bytes ≡ before ++ (left ++ rest)
      → p.held ≤ length bytes → q.held ≡ length left → used ≡ length bytes - (length left + length rest) → (length (take p.held bytes) ≤ 3 → length left ≤ 3) → IsUnsure longest q.mode rest
      → GoesBy Gives longest (between s p bytes) text (state_of t q.mode q.reading rest left) → Steps Gives s p bytes text t q (drop used bytes)
  stepped s t p q bytes text before left rest used split fits n u few unsure goes =
      let size : length (left ++ rest) ≡ length left + length rest = length-append left rest in
      let whole : bytes ≡ before ++ (left ++ rest) = sym (take-append-drop p.held bytes) ∙ split in
      let same : drop used bytes ≡ left ++ rest = ap (λ (i : ℕ). drop i bytes) (u ∙ ap (λ (i : ℕ). length bytes - i) (sym size)) ∙ rest_is bytes before (left ++ rest) whole in
      let low = unsure_few q.mode rest unsure in
      let first : length (take p.held bytes) ≡ p.held = length-take-le p.held bytes fits in
      subst (λ (x : List ℕ). Steps Gives s p bytes text t q x) (sym same) (record {
        takes = resumes s t p q bytes text left rest n unsure goes;
        held = omega (arith, n, size);
        few = λ three. omega (arith, n, few (omega (arith, three, first)));
        short = omega (arith, low, n, size);
      })

  -- steps in turn are chunks in turn
  pub stepped_taken : (rule : Bool → S) (p q : Pause) (again : List ℕ) (chunks : List (List ℕ)) (text rest : List ℕ) → p.held ≤ length again → AreStepped Gives rule p again chunks text q rest
      → AreTaken (Takes Gives) (between (rule p.styled) p again) chunks text (between (rule q.styled) q rest)
  stepped_taken rule p q again [] text rest low (none, same, e) = (none, ap (λ (x : Pause). between (rule x.styled) x rest) same ∙ ap (λ (x : List ℕ). between (rule p.styled) p x) e)
  stepped_taken rule p q again (chunk ∷ chunks) text rest low (mid, left, first, others, step, e, more) =
      (between (rule mid.styled) mid left, first, others, step.takes again chunk refl low, e, stepped_taken rule mid q left chunks others rest step.held more)

-- ---- the styles that stay, without links

-- nothing comes of a link
same_behind : (bytes : List ℕ) (d : Depth) (t : Bool) (text : List ℕ) (after : Keeping) → AreGiven keeps (resumed d t) bytes text after → after ≡ resumed d t
same_behind [] d t text after h = h.1
same_behind (b ∷ bytes) d t text after (first, mid, others, byte, e, rest) =
    same_behind bytes d t others after (subst (λ (k : Keeping). AreGiven keeps k bytes others after) byte.1 rest)

resumed_step : (k : Kind) (d : Depth) (t : Bool) (run bytes text : List ℕ) (after : Keeping) (left : List ℕ)
    → IsStep keeps k (resumed d t) run bytes text after left → (u : Bool) × (after ≡ resumed d u)
resumed_step Kind.Csi d t run bytes text after left (own, (actions, is, gives), e, none) =
    let (u, same) = unsaved d t actions in (u, (gives (rendition t [] []) refl).1 ∙ ap (λ (x : Rendition). keeping (in_steps d) (spelled x) false start) same)
resumed_step Kind.Esc d t run bytes text after left (own, gives, e, none) =
    let (u, same) = unsaved_by d t (escape_effect bytes) in (u, (gives (rendition t [] []) refl).1 ∙ ap (λ (x : Rendition). keeping (in_steps d) (spelled x) false start) same)
resumed_step Kind.Str d t run bytes text after left (own, given, e, none) = (t, same_behind bytes d t own after given)
resumed_step _ d t run bytes text after left h = (t, h.1)

resumed_steps : (ps : List Part) (d : Depth) (t : Bool) (run text : List ℕ) (after : Keeping) (left : List ℕ)
    → AreSteps keeps (resumed d t) run ps text after left → (u : Bool) × (after ≡ resumed d u)
resumed_steps [] d t run text after left h = (t, h.1)
resumed_steps (p ∷ ps) d t run text after left (first, mid, next, others, step, e, rest) =
    let (u, same) = resumed_step p.kind d t run p.bytes first mid next step in
    resumed_steps ps d u next others after left (subst (λ (k : Keeping). AreSteps keeps k next ps others after left) same rest)

-- so the state behind a step is plain data, too
pub styled_steps : (d : Depth) (t u : Bool) (s k : Keeping) (p q : Pause) (bytes made rest : List ℕ) → s ≡ resumed d t → u ≡ k.rendition.styled
    → p.held ≤ length bytes → Steps keeps s p bytes made k q rest
    → Steps keeps (resumed d t) p bytes made (resumed d u) (record { mode = q.mode; reading = q.reading; styled = u; held = q.held }) rest
styled_steps d t u s k p q bytes made rest is same_styled low h =
    let began : Steps keeps (resumed d t) p bytes made k q rest = subst (λ (x : Keeping). Steps keeps x p bytes made k q rest) is h in
    let held = take p.held bytes in
    let g = (began.takes bytes [] (sym (append-nil bytes)) low).goes held [] (read_none held) in
    let (v, same) = resumed_steps (as_read p.reading g.parts) d t held g.text k g.left g.steps in
    let last : k ≡ resumed d u = same ∙ ap (λ (b : Bool). resumed d b) (sym (ap (λ (x : Keeping). x.rendition.styled) same) ∙ sym same_styled) in
    record {
      takes = subst (λ (x : Keeping). Resumes keeps (resumed d t) p bytes made x q rest) last began.takes;
      held = h.held;
      few = h.few;
      short = h.short;
    }

-- ---- steps in turn, and the end

pub stripped_steps : (chunks : List (List ℕ)) (made rest : List ℕ) (last : Pause) → AreStepped {S = Dropped} drops (λ _. bare) beginning [] chunks made last rest → last.styled ≡ false
    → Strips longest (concat chunks) (made ++ ending last rest)
stripped_steps chunks made rest last stepped none =
    let taken = stepped_taken {S = Dropped} drops (λ (b : Bool). bare) beginning last [] chunks made rest (omega arith) stepped in
    rw none (strips longest bare (concat chunks) _ (any_chunks {S = Dropped} drops ends_bare bare chunks made [] (between bare last rest) taken refl))

pub cleaned_steps : (d : Depth) (chunks : List (List ℕ)) (made rest : List ℕ) (last : Pause) → AreStepped keeps (resumed d) beginning [] chunks made last rest
    → StylesIn (in_steps d) (concat chunks) (made ++ ending last rest)
cleaned_steps d chunks made rest last stepped =
    let taken = stepped_taken keeps (resumed d) beginning last [] chunks made rest (omega arith) stepped in
    let close = cond last.styled (text (action.Sgr Sgr.Reset)) [] in
    let ends = any_chunks keeps resets (resumed d false) chunks made close (between (resumed d last.styled) last rest) taken refl in
    styles (in_steps d) (resumed d false) (concat chunks) (made ++ ending last rest) refl ends
