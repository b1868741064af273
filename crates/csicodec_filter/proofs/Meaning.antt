-- What a filter writes, cut as a stream once more.
use Rattle.std.proofs.Common.{◌≡◌, ◌≢◌, ℕ, ◌+◌, ◌<◌, ◌≤◌, ◌⊎◌, List, [], ◌∷◌, ◌++◌, false, length, refl, sym, ap, subst, ◌∙◌, inl, inr, append_assoc, append-nil, arith, length-append, flat_map}
use Rattle.csicodec_tokens.specs.declared.param.CsiParam.{CsiParam}
use Rattle.csicodec_actions.specs.Actions.{Action}
use Rattle.csicodec_parser.proofs.Cuts.{actions_count}
use Rattle.csicodec_streams.specs.Decoding.{AreActions, Decodes, Joins}
use Rattle.csicodec_spans.specs.Parts.{Part, part, bytes_of, left_over, Allows, IsFirstPart, AreFirstParts, IsUnsure, IsWhole}
use Rattle.csicodec_spans.specs.{Table.ahead, declared.table.Kind.Kind, declared.table.Mode.Mode}
use Rattle.csicodec_spans.proofs.{Agrees.sound, Waits.more_whole, Waits.none_left as whole_none, Once.parts_more, Once.whole_once, Missed.allows_whole}
use Rattle.csicodec_spans.proofs.{Missed.part_some, Missed.seq_part, Missed.whole_joined}
use Rattle.csicodec_filter.specs.Meaning.{AreCsi, Means, MeanTheSame, StandInPlace, singles, KeepsMeaning, Within}
use Rattle.csicodec_filter.specs.Filter.{AreWritten, IsWritten}
use Rattle.csicodec_filter.proofs.Shorter.{ahead_less}

-- what stands in front of more bytes stands there already with the first of them
part_less : (limit : ℕ) (m : Mode) (p : Part) (s x : List ℕ) (a : Mode) → 0 < limit → 0 < length s → IsFirstPart limit m (p.bytes ++ (s ++ x)) p (s ++ x) a → IsFirstPart limit m (p.bytes ++ s) p s a
part_less limit m p s x a l one h =
    let allows = subst (λ (t : List ℕ). Allows (ahead m t) limit t p.kind p.bytes a) (sym (append_assoc p.bytes s x)) h.1 in
    (refl, ahead_less m p.bytes s x limit p.kind a (part_some limit m (p.bytes ++ (s ++ x)) p (s ++ x) a l h) one allows)

-- ---- bytes that are the same up to a control sequence

-- the same, or the same at least as far as two bytes
abbrev pub Beside : List ℕ → List ℕ → Type 0
Beside bytes text = (bytes ≡ text)
    ⊎ ((s : List ℕ) × (x : List ℕ) × (y : List ℕ) × (2 ≤ length s) × (bytes ≡ s ++ x) × (text ≡ s ++ y))

part_behind : (limit : ℕ) (m : Mode) (p : Part) (s y : List ℕ) (a : Mode) → IsFirstPart limit m (p.bytes ++ s) p s a → IsFirstPart limit m (p.bytes ++ (s ++ y)) p (s ++ y) a
part_behind limit m p s y a h =
    let all : List ℕ = (p.bytes ++ s) ++ y in
    let (rest, n, first, ends) = parts_more limit (p ∷ []) m (p.bytes ++ s) y s a (s, a, h, (refl, refl)) in
    let here : IsFirstPart limit m all p rest a = subst (λ (b : Mode). IsFirstPart limit m all p rest b) (sym ends.1) first in
    let one : IsFirstPart limit m all p (s ++ y) a = subst (λ (t : List ℕ). IsFirstPart limit m all p t a) (sym ends.0) here in
    subst (λ (t : List ℕ). IsFirstPart limit m t p (s ++ y) a) (append_assoc p.bytes s y) one

part_beside : (limit : ℕ) (m : Mode) (p : Part) (bytes text : List ℕ) (a : Mode) → 0 < limit →
    Beside bytes text → IsFirstPart limit m (p.bytes ++ bytes) p bytes a →
    IsFirstPart limit m (p.bytes ++ text) p text a
part_beside limit m p bytes text a l (inl e) h = subst (λ (t : List ℕ). IsFirstPart limit m (p.bytes ++ t) p t a) e h
part_beside limit m p bytes text a l (inr (s, x, y, two, is, was)) h =
    let short = part_less limit m p s x a l (omega (arith, two)) (subst (λ (t : List ℕ). IsFirstPart limit m (p.bytes ++ t) p t a) is h) in
    subst (λ (t : List ℕ). IsFirstPart limit m (p.bytes ++ t) p t a) (sym was) (part_behind limit m p s y a short)

-- ---- the first part of a whole stream, and the others

-- it is sure, and the others follow it, or it is what is left at the end
abbrev IsSureFirst : ℕ → Mode → List ℕ → Part → List Part → Type 0
IsSureFirst limit m bytes p behind = (rest : List ℕ) × (n : Mode) × IsFirstPart limit m bytes p rest n × IsWhole limit n rest behind

abbrev IsLeftOver : List ℕ → Part → List Part → Type 0
IsLeftOver bytes p behind = (p.kind ≡ Kind.Other) × (p.bytes ≡ bytes) × (behind ≡ [])

whole_first : (limit : ℕ) (m : Mode) (bytes : List ℕ) (p : Part) (behind : List Part) → IsWhole limit m bytes (p ∷ behind) → IsSureFirst limit m bytes p behind ⊎ IsLeftOver bytes p behind
whole_first limit m bytes p behind w = by w.sure w.rest w.first w.whole w.unsure
  where
    by : (sure : List Part) (rest : List ℕ) → AreFirstParts limit m bytes sure rest w.after →
        p ∷ behind ≡ sure ++ left_over rest → IsUnsure limit w.after rest →
        IsSureFirst limit m bytes p behind ⊎ IsLeftOver bytes p behind
    by [] [] f e u = absurd cc
    by [] (b ∷ rest) f e u =
        let same : p ≡ part Kind.Other (b ∷ rest) = cc in
        let none : behind ≡ [] = cc in
        inr (ap (λ (q : Part). q.kind) same, ap (λ (q : Part). q.bytes) same ∙ f.0, none)
    by (q ∷ sure) rest f e u =
        let same : q ≡ p = cc in
        let others : behind ≡ sure ++ left_over rest = cc in
        inl (f.0, f.1, subst (λ (r : Part). IsFirstPart limit m bytes r f.0 f.1) same f.2, record { sure = sure; rest = rest; after = w.after; first = f.3; unsure = u; whole = others })

-- ---- control sequences side by side, in front

-- the mode behind bytes that are such
abbrev behind_csi : Mode → List ℕ → Mode
behind_csi m [] = m
behind_csi m (b ∷ bytes) = Mode.Text

behind_text : (bytes : List ℕ) → behind_csi Mode.Text bytes ≡ Mode.Text
behind_text [] = refl
behind_text _ = refl

abbrev Sequences : Type 0
Sequences = List (List CsiParam × ℕ)

abbrev csi_parts : (ss : Sequences) (bytes : List ℕ) → Joins bytes ss → List Part
csi_parts [] bytes j = []
csi_parts (s ∷ ss) bytes j = part Kind.Csi j.0 ∷ csi_parts ss j.1 j.4

are_csi : (ss : Sequences) (bytes : List ℕ) (j : Joins bytes ss) → AreCsi (csi_parts ss bytes j)
are_csi [] bytes j = tt
are_csi (s ∷ ss) bytes j = (refl, are_csi ss j.1 j.4)

csi_joined : (ss : Sequences) (bytes : List ℕ) (j : Joins bytes ss) → flat_map bytes_of (csi_parts ss bytes j) ≡ bytes
csi_joined [] bytes j = sym j
csi_joined (s ∷ ss) bytes j = ap (λ (t : List ℕ). j.0 ++ t) (csi_joined ss j.1 j.4) ∙ sym j.2

join_opens : (s : List CsiParam × ℕ) (ss : Sequences) (bytes : List ℕ) → Joins bytes (s ∷ ss) → (more : List ℕ) × (bytes ≡ 27 ∷ 91 ∷ more)
join_opens s ss bytes j = ((j.3.body ++ s.1 ∷ []) ++ j.1, j.2 ∙ ap (λ (t : List ℕ). t ++ j.1) j.3.whole)

first_csis : (limit : ℕ) (ss : Sequences) (m : Mode) (bytes more : List ℕ) (j : Joins bytes ss) →
    length bytes ≤ limit → AreFirstParts limit m (bytes ++ more) (csi_parts ss bytes j) more (behind_csi m bytes)
first_csis limit [] m bytes more j within = (sym (ap (λ (t : List ℕ). t ++ more) j), ap (behind_csi m) j)
first_csis limit (s ∷ ss) m bytes more j within =
    let long : length bytes ≡ length j.0 + length j.1 = ap length j.2 ∙ length-append j.0 j.1 in
    let all : j.0 ++ (j.1 ++ more) ≡ bytes ++ more = sym (append_assoc j.0 j.1 more) ∙ ap (λ (t : List ℕ). t ++ more) (sym j.2) in
    let first = seq_part limit m j.0 (j.1 ++ more) (s.0, s.1, j.3) (omega (arith, long, within)) in
    let others = first_csis limit ss Mode.Text j.1 more j.4 (omega (arith, long, within)) in (
      j.1 ++ more,
      Mode.Text,
      subst (λ (t : List ℕ). IsFirstPart limit m t (part Kind.Csi j.0) (j.1 ++ more) Mode.Text) all first,
      subst (λ (n : Mode). AreFirstParts limit Mode.Text (j.1 ++ more) (csi_parts ss j.1 j.4) more n)
          (behind_text j.1 ∙ sym (ap (behind_csi m) (join_opens s ss bytes j).1)) others,
    )

-- a run in front of a whole stream
abbrev IsRunFirst : ℕ → Mode → List ℕ → List Part → List Part → Type 0
IsRunFirst limit m bytes run behind = (rest : List ℕ) × (bytes ≡ flat_map bytes_of run ++ rest) × IsWhole limit (behind_csi m (flat_map bytes_of run)) rest behind

run_first : (limit : ℕ) (m : Mode) (bytes : List ℕ) (run behind : List Part) → AreCsi run → IsWhole limit m bytes (run ++ behind) → IsRunFirst limit m bytes run behind
run_first limit m bytes [] behind all w = (bytes, refl, w)
run_first limit m bytes (p ∷ run) behind all w =
    elim (whole_first limit m bytes p (run ++ behind) w) [
      | inl h ↦
          let (rest, n, first, others) = h in
          let own : Allows (ahead m bytes) limit bytes Kind.Csi p.bytes n = subst (λ (k : Kind). Allows (ahead m bytes) limit bytes k p.bytes n) all.0 first.1 in
          let is = allows_whole (ahead m bytes) limit m bytes p.bytes n (sound m bytes) own in
          let r = run_first limit Mode.Text rest run behind all.1 (subst (λ (a : Mode). IsWhole limit a rest (run ++ behind)) is.2 others) in (
            r.0,
            first.0 ∙ ap (λ (t : List ℕ). p.bytes ++ t) r.1 ∙ sym (append_assoc p.bytes (flat_map bytes_of run) r.0),
            subst (λ (a : Mode). IsWhole limit a r.0 behind)
                (behind_text (flat_map bytes_of run) ∙ sym (ap (λ (t : List ℕ). behind_csi m (t ++ flat_map bytes_of run)) is.0.2.whole)) r.2,
          )
      | inr h ↦ let clash : Kind.Other ≡ Kind.Csi = sym h.0 ∙ all.0 in absurd cc
    ]

-- ---- bytes of the same actions

some_actions : (s : List CsiParam × ℕ) (ss : Sequences) (actions : List Action) → AreActions (s ∷ ss) false actions → 0 < length actions
some_actions s ss actions each =
    omega (arith, (actions_count s.0 false s.1 each.0 each.3).0, ap length each.2, length-append each.0 each.1)

-- neither has bytes, or both begin with a control sequence
record SameFront (a b : List ℕ) : Type 0 where
  modes : (m : Mode) → behind_csi m b ≡ behind_csi m a
  beside : (rest later : List ℕ) → Beside rest later → Beside (a ++ rest) (b ++ later)

same_front : (a b : List ℕ) (actions : List Action) → Decodes a false actions → Decodes b false actions → SameFront a b
same_front a b actions came written = by came.sequences written.sequences came.join came.each written.join written.each
  where
    by : (ss ts : Sequences) → Joins a ss → AreActions ss false actions → Joins b ts → AreActions ts false actions → SameFront a b
    by [] [] j x k y = record { modes = λ m. rw (j, k) refl; beside = λ rest later h. rw (j, k) h }
    by (s ∷ ss) (t ∷ ts) j x k y =
        let (front, is) = join_opens s ss a j in
        let (other, was) = join_opens t ts b k in
        record {
          modes = λ m. rw (is, was) refl;
          beside = λ rest later h. rw (is, was) (inr (27 ∷ 91 ∷ [], front ++ rest, other ++ later, omega arith, refl, refl));
        }
    by [] (t ∷ ts) j x k y = absurd (omega (arith, ap length x, some_actions t ts actions y))
    by (s ∷ ss) [] j x k y = absurd (omega (arith, ap length y, some_actions s ss actions x))

-- ---- the whole

pub record Again (limit : ℕ) (runs : List (List Part)) (m : Mode) (parts : List Part) (bytes text : List ℕ) : Type 0 where
  pub others : List Part
  pub whole : IsWhole limit m text others
  pub placed : StandInPlace runs parts others
  pub beside : Beside bytes text

beside_none : (text : List ℕ) → Beside [] text → text ≡ []
beside_none text (inl e) = sym e
beside_none text (inr (s, x, y, two, is, was)) = absurd (omega (arith, two, ap length is, length-append s x))

beside_on : (s bytes text : List ℕ) → Beside bytes text → Beside (s ++ bytes) (s ++ text)
beside_on s bytes text (inl e) = inl (ap (λ (t : List ℕ). s ++ t) e)
beside_on s bytes text (inr (t, x, y, two, is, was)) =
    inr (s ++ t, x, y, omega (arith, two, length-append s t), rw is (sym (append_assoc s t x)), rw was (sym (append_assoc s t y)))

-- nothing behind the last part
nothing_left : (limit : ℕ) (runs : List (List Part)) (m : Mode) (parts : List Part) (text : List ℕ) → Again limit runs m parts [] text → (text ≡ []) × StandInPlace runs parts []
nothing_left limit runs m parts text a =
    let none : text ≡ [] = beside_none text a.beside in
    let no_parts : a.others ≡ [] = whole_once limit m [] a.others [] (subst (λ (t : List ℕ). IsWhole limit m t a.others) none a.whole) (whole_none limit m) in
    (none, subst (λ (o : List Part). StandInPlace runs parts o) no_parts a.placed)

-- a part that is no control sequence, and what follows
plain_again : (limit : ℕ) (runs : List (List Part)) (m : Mode) (p : Part) (behind : List Part) (bytes later : List ℕ) → 0 < limit → p.kind ≢ Kind.Csi → IsWhole limit m bytes (p ∷ behind)
    → ((n : Mode) (rest : List ℕ) → IsWhole limit n rest behind → Again limit runs n behind rest later)
    → Again limit ((p ∷ []) ∷ runs) m (p ∷ behind) bytes (p.bytes ++ later)
plain_again limit runs m p behind bytes later l ne w next = by (whole_first limit m bytes p behind w)
  where
    by : IsSureFirst limit m bytes p behind ⊎ IsLeftOver bytes p behind → Again limit ((p ∷ []) ∷ runs) m (p ∷ behind) bytes (p.bytes ++ later)
    by (inl h) =
        let (rest, n, first, others) = h in
        let a = next n rest others in
        let own : IsFirstPart limit m (p.bytes ++ rest) p rest n = subst (λ (t : List ℕ). IsFirstPart limit m t p rest n) first.0 first in
        let same : IsFirstPart limit m (p.bytes ++ later) p later n = part_beside limit m p rest later n l a.beside own in
        let sure : AreFirstParts limit m (p.bytes ++ later) (p ∷ []) later n = (later, n, same, (refl, refl)) in
        record {
          others = p ∷ a.others;
          whole = more_whole limit m n (p.bytes ++ later) later (p ∷ []) a.others sure a.whole;
          placed = (behind, p ∷ [], a.others, refl, refl, inr (p, refl, ne, refl), a.placed);
          beside = subst (λ (t : List ℕ). Beside t (p.bytes ++ later)) (sym first.0) (beside_on p.bytes rest later a.beside);
        }
    by (inr h) =
        let a = next m [] (subst (λ (o : List Part). IsWhole limit m [] o) (sym h.2) (whole_none limit m)) in
        let none = nothing_left limit runs m behind later a in
        let all : bytes ≡ p.bytes ++ later = sym h.1 ∙ sym (append-nil p.bytes) ∙ ap (λ (t : List ℕ). p.bytes ++ t) (sym none.0) in
        let alone : IsWhole limit m bytes (p ∷ []) = subst (λ (o : List Part). IsWhole limit m bytes (p ∷ o)) h.2 w in
        record {
          others = p ∷ [];
          whole = subst (λ (t : List ℕ). IsWhole limit m t (p ∷ [])) all alone;
          placed = (behind, p ∷ [], [], refl, refl, inr (p, refl, ne, refl), none.1);
          beside = inl all;
        }

-- control sequences side by side, and what follows
run_again : (limit : ℕ) (runs : List (List Part)) (m : Mode) (run behind : List Part) (bytes first later : List ℕ) → Means run first → length first ≤ limit
    → IsWhole limit m bytes (run ++ behind)
    → ((n : Mode) (rest : List ℕ) → IsWhole limit n rest behind → Again limit runs n behind rest later)
    → Again limit (run ∷ runs) m (run ++ behind) bytes (first ++ later)
run_again limit runs m run behind bytes first later s within w next =
    let (rest, joined, left) = run_first limit m bytes run behind s.all w in
    let ss = s.written.sequences in
    let j = s.written.join in
    let parts = csi_parts ss first j in
    let a = next (behind_csi m (flat_map bytes_of run)) rest left in
    let same = same_front (flat_map bytes_of run) first s.actions s.came s.written in
    let csis = subst (λ (n : Mode). AreFirstParts limit m (first ++ later) parts later n) (same.modes m) (first_csis limit ss m first later j within) in
    let mean : MeanTheSame run parts = record {
      means = subst (λ (t : List ℕ). Means run t) (sym (csi_joined ss first j)) s;
      all = are_csi ss first j;
    } in
    record {
      others = parts ++ a.others;
      whole = more_whole limit m (behind_csi m (flat_map bytes_of run)) (first ++ later) later parts a.others csis a.whole;
      placed = (behind, parts, a.others, refl, refl, inl mean, a.placed);
      beside = subst (λ (t : List ℕ). Beside t (first ++ later)) (sym joined) (same.beside rest later a.beside);
    }

-- what is written for a run, no more than `limit` bytes for control sequences
abbrev pub IsMeant : ℕ → List Part → List ℕ → Type 0
IsMeant limit run text = (Means run text × (length text ≤ limit)) ⊎ ((p : Part) × (run ≡ p ∷ []) × (p.kind ≢ Kind.Csi) × (text ≡ p.bytes))

abbrev pub AreMeant : ℕ → List (List Part) → List Part → List ℕ → Type 0
AreMeant limit [] parts text = (parts ≡ []) × (text ≡ [])
AreMeant limit (run ∷ runs) parts text =
    (behind : List Part) × (first : List ℕ) × (others : List ℕ) × (parts ≡ run ++ behind) × (text ≡ first ++ others) × IsMeant limit run first × AreMeant limit runs behind others

pub again : (limit : ℕ) (runs : List (List Part)) (m : Mode) (bytes text : List ℕ) (parts : List Part) → 0 < limit → IsWhole limit m bytes parts → AreMeant limit runs parts text
    → Again limit runs m parts bytes text
again limit [] m bytes text parts l w r =
    let none : bytes ≡ [] = sym (whole_joined limit m bytes parts w) ∙ ap (flat_map bytes_of) r.0 in
    rw (r.0, r.1, none) (record { others = []; whole = whole_none limit m; placed = (refl, refl); beside = inl refl })
again limit (run ∷ runs) m bytes text parts l w r =
    let (behind, first, later, parts_are, text_is, own, others) = r in
    let next = λ (n : Mode) (rest : List ℕ) (v : IsWhole limit n rest behind). again limit runs n rest later behind l v others in
    let here : IsWhole limit m bytes (run ++ behind) = subst (λ (ps : List Part). IsWhole limit m bytes ps) parts_are w in
    rw (parts_are, text_is) (elim own [
      | inl h ↦ run_again limit runs m run behind bytes first later h.0 h.1 here next
      | inr h ↦ rw (h.1, h.3) (plain_again limit runs m h.0 behind bytes later l h.2 (subst (λ (q : List Part). IsWhole limit m bytes (q ++ behind)) h.1 here) next)
    ])

-- ---- by a rule that keeps the meaning

written_meant : (limit : ℕ) (Writes : List ℕ → List ℕ → Type 0) (k : Kind) (bytes text : List ℕ) →
    KeepsMeaning Writes → IsWritten (Within limit Writes) k bytes text →
    IsMeant limit (part k bytes ∷ []) text
written_meant limit Writes Kind.Csi bytes text keeps w =
    let h = keeps bytes text w.0 in
    inl (record { all = (refl, tt); actions = h.0; came = rw (append-nil bytes) h.1; written = h.2 }, w.1)
written_meant limit Writes k bytes text keeps w = inr (part k bytes, refl, (λ e. absurd cc), w)

are_meant : (limit : ℕ) (Writes : List ℕ → List ℕ → Type 0) (parts : List Part) (text : List ℕ) →
    KeepsMeaning Writes → AreWritten (Within limit Writes) parts text →
    AreMeant limit (singles parts) parts text
are_meant limit Writes [] text keeps w = (refl, w)
are_meant limit Writes (p ∷ parts) text keeps w =
    (parts, w.0, w.1, refl, w.2, written_meant limit Writes p.kind p.bytes w.0 keeps w.3, are_meant limit Writes parts w.1 keeps w.4)

pub filter_stream_lem : (limit : ℕ) (m : Mode) (bytes text : List ℕ) (parts : List Part) (Writes : List ℕ → List ℕ → Type 0) → 0 < limit → KeepsMeaning Writes → IsWhole limit m bytes parts
    → AreWritten (Within limit Writes) parts text → (others : List Part) × IsWhole limit m text others × StandInPlace (singles parts) parts others
filter_stream_lem limit m bytes text parts Writes l keeps w r =
    let a = again limit (singles parts) m bytes text parts l w (are_meant limit Writes parts text keeps r) in
    (a.others, a.whole, a.placed)
