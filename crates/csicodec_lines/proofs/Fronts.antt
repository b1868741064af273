-- What went out is a front of the text of the whole log.
use Rattle.std.proofs.Common.{◌≡◌, ℕ, Bool, false, Option, List, [], ◌∷◌, ◌++◌, refl, sym, ap, subst, ◌∙◌, append_assoc, Result}
use Rattle.csicodec_clean.specs.{Streams.StreamsOne, Cleaned.Ends, Stream.Between, Stream.IsFrontOf, Stream.Takes}
use Rattle.csicodec_clean.proofs.Streams.{Ran, Went, one_ran}
use Rattle.csicodec_transform.specs.Transform.{Sends}
use Rattle.csicodec_lines.specs.{Lines.AreOf, Lines.joined, Lines.lines_from, Lines.lines_of, Stream.Passes}
use Rattle.csicodec_lines.proofs.Common.{EndOf, RuleOf, longest, start_of, run_as, Transforms, Lines, ByLines, Ending, ended}
use Rattle.csicodec_lines.proofs.{Taken.line_on, Taken.by_lines, Taken.transformed, Texts.by_lines_as, Texts.joined_front, Texts.of_as, Texts.one_text}
use Rattle.csicodec_lines.proofs.{Texts.parted, Texts.same_texts}

-- where the rule's text of a line is one text, and what comes of a line is a front of that, however it goes on
module _ {S P : Type 0} (Begins : P → S) (Gives : RuleOf S) (Closes : EndOf S) (first : Lines S P) (fresh : first.returned ≡ false) (Out : List ℕ → List ℕ → Type 0)
    (means : (line text : List ℕ) → Ends Gives Closes longest (Begins first.by) line text → Out line text)
    (one : (line text other : List ℕ) → Out line text → Out line other → text ≡ other)
    (front : (line more text : List ℕ) (last : Between S) → Takes Gives (start_of (Begins first.by)) line text last → IsFrontOf Out (line ++ more) text)
  where
    abbrev Step : Lines S P → List ℕ → List ℕ → Lines S P → Type 0
    Step = Passes Begins Gives Closes

    lines_front : (read more text : List ℕ) (last : Lines S P) → Step first read text last → IsFrontOf (ByLines Out) (read ++ more) text
    lines_front read more text last p whole k =
        let next = line_on last.returned p.line more in
        let lines : lines_of (read ++ more) ≡ p.over ++ (p.line ++ next.more) ∷ next.others =
        ap (λ (r : Bool). lines_from r [] (read ++ more)) (sym fresh) ∙ p.lines more ∙ ap (λ (ls : List (List ℕ)). p.over ++ ls) next.all in
        let each = subst (λ (ls : List (List ℕ)). AreOf Out ls k.texts) lines k.each in
        let q = parted Out p.over ((p.line ++ next.more) ∷ next.others) k.texts each in
        let (own, others, e, is, rest) = q.rest in
        let same = same_texts Out one p.over q.ahead p.texts q.first (of_as (Ends Gives Closes longest (Begins first.by)) Out means p.over p.texts p.each) in
        let (longer, f) = front p.line next.more p.own last.line p.takes own is in
        let (behind, g) = joined_front p.texts others own in
        let texts : k.texts ≡ p.texts ++ own ∷ others = q.all ∙ ap (λ (ts : List (List ℕ)). ts ++ q.later) same ∙ ap (λ (ts : List (List ℕ)). p.texts ++ ts) e in (
          longer ++ behind,
          k.all ∙ ap joined texts ∙ g ∙ ap (λ (t : List ℕ). ended p.texts ++ (t ++ behind)) f ∙ ap (λ (t : List ℕ). ended p.texts ++ t) (append_assoc p.own longer behind)
              ∙ sym (append_assoc (ended p.texts) p.own (longer ++ behind)) ∙ ap (λ (t : List ℕ). t ++ (longer ++ behind)) (sym p.all),
        )

    -- a run, where what each text is holds of the text of all lines
    pub lines_ran : ((after : S) → (close : List ℕ) × Closes after close) → (Safe : List ℕ → Type 0) → ((bytes text : List ℕ) → ByLines Out bytes text → Safe text)
        → {A E : Type 0} (result : Result A E) (i k w y : Option (List ℕ)) → Ran (Sends Step first) (Transforms Step (Ending Gives Closes) first) (ByLines Out) Safe result i k w y
        → Went (Sends Step first) (Transforms Step (Ending Gives Closes) first) (ByLines Out) Safe result i k w y → StreamsOne (ByLines Out) Safe result i k w y
    lines_ran always Safe safe =
        let mean = by_lines_as (Ends Gives Closes longest (Begins first.by)) Out means in
        one_ran Step (Ending Gives Closes) first (Transforms Step (Ending Gives Closes) first) (ByLines Out) Safe
        (λ bytes text rest last passed ending. mean bytes (text ++ rest) (by_lines Begins Gives Closes first last bytes text rest fresh passed ending))
        (λ bytes text h. mean bytes text (transformed Begins Gives Closes first bytes text fresh h))
        (λ last. (let (close, closes) = always last.line.rule in (run_as Gives.writing last.line.held ++ close, (close, closes, refl)))) safe (one_text Out one) lines_front
