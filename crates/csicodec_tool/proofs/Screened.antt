-- a screen that a stream goes to
use Rattle.csicodec_tool.proofs.Common.{Bool, ◌≡◌, ◌++◌, ◌∷◌, ◌∙◌, ℕ, List, [], Option, None, Some, Result, inl, inr, refl, sym, ap, subst, append-nil, concat, GoesOn, Begins, Sends, Transforms, IfSome, OnErr, OnOk, Appends, Consumes, IsAtEnd, IsAppended, IsWrittenBy, on_err_weaker, on_ok_weaker}
use Rattle.std.proofs.lemmas.List.Folds.{concat-append}
use Rattle.csicodec_screen.specs.Feeds.{Emulated, Feeds, begun}
use Rattle.csicodec_inspect.proofs.Sent.{all_written}
use Rattle.csicodec_tool.specs.Shown.{EndsShown, FeedsAll, PassesShown, Reads, Shows, ShowsFront, as_sent, kept, shown}
use Rattle.csicodec_tool.specs.{declared.shown.Display.Display, declared.shown.Shown.Shown}

-- ---- a chunk more

fed_on : (raw : Bool) (old mid new : Emulated) (chunks : List (List ℕ)) (chunk : List ℕ) → FeedsAll raw old chunks mid
    → Feeds mid (as_sent raw chunk) new → FeedsAll raw old (chunks ++ (chunk ∷ [])) new
fed_on raw old mid new [] chunk same fed = (new, subst (λ (e : Emulated). Feeds e (as_sent raw chunk) new) same fed, refl)
fed_on raw old mid new (first ∷ chunks) chunk (next, begins, rest) fed = (next, begins, fed_on raw next mid new chunks chunk rest fed)

reads_on : (raw : Bool) (old mid new : Emulated) (bytes chunk : List ℕ) → Reads raw old bytes mid → Feeds mid (as_sent raw chunk) new
    → Reads raw old (bytes ++ chunk) new
reads_on raw old mid new bytes chunk (chunks, whole, all) fed = (
  chunks ++ (chunk ∷ []),
  ap (λ (b : List ℕ). b ++ chunk) whole ∙ sym (concat-append chunks (chunk ∷ []) ∙ ap (λ (b : List ℕ). concat chunks ++ b) (append-nil chunk)),
  fed_on raw old mid new chunks chunk all fed,
)

pub goes_shown : (old new : Shown) (chunk : List ℕ) → new.display ≡ old.display → Feeds old.emulator (as_sent old.display.raw chunk) new.emulator
    → GoesOn PassesShown old chunk [] new
goes_shown old new chunk same fed first before text (none, display, reads) = (
  append-nil text ∙ none,
  same ∙ display,
  reads_on first.display.raw first.emulator old.emulator new.emulator before chunk reads
      (subst (λ (d : Display). Feeds old.emulator (as_sent d.raw chunk) new.emulator) display fed),
)

-- ---- all of a stream

-- whatever was known of the input
always : {P : List ℕ → Type 0} (known : Option (List ℕ)) → ((all : List ℕ) → P all) → IfSome known P
always None holds = tt
always (Some all) holds = holds all

nothing : (sent unsent : List ℕ) → sent ++ unsent ≡ [] → sent ≡ []
nothing [] unsent none = refl
nothing (b ∷ sent) unsent none = cc none

module _ (d : Display) (first : Shown) (display : first.display ≡ d) (fresh : first.emulator ≡ begun d.size.rows d.size.columns (kept d.scrollback))
  where
    shows : (bytes text : List ℕ) → Transforms PassesShown EndsShown first bytes text → Shows d bytes text
    shows bytes text (last, sure, rest, (none, same, reads), ends, whole) = (
      last.emulator,
      subst (λ (e : Emulated). Reads d.raw e bytes last.emulator) fresh
          (subst (λ (it : Display). Reads it.raw first.emulator bytes last.emulator) display reads),
      whole ∙ ap (λ (t : List ℕ). t ++ rest) none ∙ ends ∙ ap (λ (it : Display). shown it last.emulator) (same ∙ display),
    )

    -- what went out of one that failed
    front : (before after old new : Option (List ℕ))
        → (bytes : List ℕ) × (more : List ℕ) × (sent : List ℕ) × Consumes before after (bytes ++ more)
        × Begins (Sends PassesShown first) (Transforms PassesShown EndsShown first) ((more ≡ []) × IsAtEnd after) bytes sent × Appends old new sent
        → IfSome before (λ all. IsAppended (ShowsFront d all) old new)
    front before after old new (bytes, more, sent, consumed, (unsent, inl (last, (none, same, reads))), appended) =
        always before (λ all. (sent, inl (nothing sent unsent none), appended))
    front before after old new (bytes, more, sent, consumed, (unsent, inr ((none, end), whole)), appended) =
        all_written (ShowsFront d) before after old new (
          bytes,
          sent,
          subst (Consumes before after) (ap (λ (b : List ℕ). bytes ++ b) none ∙ append-nil bytes) consumed,
          end,
          inr (unsent, shows bytes (sent ++ unsent) whole),
          appended,
        )

    pub screen_written : {A E : Type 0} (result : Result A E) (before after old new : Option (List ℕ))
        → OnOk result ((bytes : List ℕ) × (text : List ℕ) × Consumes before after bytes × IsAtEnd after
        × Transforms PassesShown EndsShown first bytes text × Appends old new text)
        → OnErr result ((bytes : List ℕ) × (more : List ℕ) × (sent : List ℕ) × Consumes before after (bytes ++ more)
        × Begins (Sends PassesShown first) (Transforms PassesShown EndsShown first) ((more ≡ []) × IsAtEnd after) bytes sent × Appends old new sent)
        → IsWrittenBy (Shows d) (ShowsFront d) result before old new
    screen_written result before after old new ok failed = (
      on_ok_weaker result (λ (bytes, text, consumed, end, whole, appended).
          all_written (Shows d) before after old new (bytes, text, consumed, end, shows bytes text whole, appended)) ok,
      on_err_weaker result (front before after old new) failed,
    )
