-- What is written for the parts of a stream, and for what a visitor is told of it.
use Rattle.std.proofs.Common.{◌≡◌, ◌≢◌, ◌<◌, ℕ, Option, IfSome, List, [], ◌∷◌, ◌++◌, map, refl, sym, ap, subst, ◌∙◌, append_assoc, append-nil, flat_map}
use Rattle.std.specs.{Io.KnownBytes.Appends as Gets, Io.KnownBytes.Consumes, Io.KnownBytes.IsAtEnd, List.AllByRecursion}
use Rattle.csicodec_spans.specs.Visits.{Call, DoesOf, Ends, Pause, Pushes, PushesTo, Stream, Tell, TellsTo, Visits, Writes, WritesCsi, parts_of, place, stream}
use Rattle.csicodec_spans.specs.{Parts.Part, Parts.part, Parts.bytes_of, Parts.left_over, Parts.AreAll, Parts.IsSpan, Parts.IsUnsure, declared.table.Kind.Kind}
use Rattle.csicodec_spans.specs.{declared.table.Mode.Mode, Machine.Event, Machine.Open, Machine.collected, Told.mode_of, Told.part_of}
use Rattle.csicodec_spans.proofs.{Driven.parted, Driven.parted_from, Driven.parted_place, Missed.span_all, Once.parts_more, Once.parts_front, Once.whole_once}
use Rattle.csicodec_filter.specs.Filter.{AreWritten, Filters, IsFrontOf, IsWritten, MakesBy, Passes, PassesBy, WritesOne}
use Rattle.csicodec_filter.specs.Rewrites.{Rewrites}
use Rattle.csicodec_transform.specs.Transform.{Begins, Sends, Transforms}
use Rattle.csicodec_transform.proofs.Sent.{whole_front}

-- ---- what is held passes as it is, and the end

module _ (Made : List Part → List ℕ → Type 0) (none : Made [] []) (one : (k : Kind) (bytes : List ℕ) → k ≢ Kind.Csi → Made (part k bytes ∷ []) bytes)
    (joins : (ps qs : List Part) (s t : List ℕ) → Made ps s → Made qs t → Made (ps ++ qs) (s ++ t)) where
  left : (rest : List ℕ) → Made (left_over rest) rest
  left [] = none
  left (b ∷ rest) = one Kind.Other (b ∷ rest) (λ e. cc)

  pub makes : (limit : ℕ) (m a : Mode) (bytes text rest : List ℕ) → PassesBy Made limit m bytes text rest a → MakesBy Made limit m bytes (text ++ rest)
  makes limit m a bytes text rest h = record {
    parts = h.parts ++ left_over rest;
    whole = record { sure = h.parts; rest = rest; after = a; first = h.first; unsure = h.unsure; whole = refl };
    written = joins h.parts (left_over rest) text rest h.written (left rest);
  }

  -- a whole stream, of which a visitor was told
  pub made : {V : Type 0} (does : DoesOf V) (limit : ℕ) (v : V) (bytes text : List ℕ) → 0 < limit
      → ((calls : List Call) (own more : List ℕ) (last done : V) → Visits does v calls own last → does last Pause more done → Made (parts_of calls) (own ++ more))
      → Transforms (Pushes does) (Ends does) (stream limit (Open Mode.Text) v) bytes text → MakesBy Made limit Mode.Text bytes text
  made does limit v bytes text some own (last, sure, rest, h, (more, done, pauses, all), split) =
      let held = collected last.state in
      let p = parted_from does (stream limit (Open Mode.Text) v) last bytes sure some tt h in
      let passed : PassesBy Made limit Mode.Text bytes (sure ++ more) held (mode_of last.state) =
      record { parts = parts_of h.calls; first = p.first; unsure = p.unsure; written = own h.calls sure more last.visitor done h.visits pauses } in
      let same : (sure ++ more) ++ held ≡ text = append_assoc sure more held ∙ ap (λ (t : List ℕ). sure ++ t) (sym all) ∙ sym split in
      subst (λ (t : List ℕ). MakesBy Made limit Mode.Text bytes t) same (makes limit Mode.Text (mode_of last.state) bytes (sure ++ more) held passed)

-- ---- the texts of parts

weaker_part : (V W : List ℕ → List ℕ → Type 0) (k : Kind) (b t : List ℕ) → ((b t : List ℕ) → V b t → W b t) → IsWritten V k b t → IsWritten W k b t
weaker_part V W Kind.Csi b t f h = f b t h
weaker_part V W _ b t f h = h

weaker : (V W : List ℕ → List ℕ → Type 0) (ps : List Part) (t : List ℕ) → ((b t : List ℕ) → V b t → W b t) → AreWritten V ps t → AreWritten W ps t
weaker V W [] t f h = h
weaker V W (p ∷ ps) t f h = (h.0, h.1, h.2, weaker_part V W p.kind p.bytes h.0 f h.3, weaker V W ps h.1 f h.4)

-- ---- what is written for each sequence

module _ (Writes : List ℕ → List ℕ → Type 0) where
  pub written_on : (ps qs : List Part) (s t : List ℕ) → AreWritten Writes ps s → AreWritten Writes qs t → AreWritten Writes (ps ++ qs) (s ++ t)
  written_on [] qs s t h k = rw h k
  written_on (p ∷ ps) qs s t h k =
      (h.0, h.1 ++ t, ap (λ (x : List ℕ). x ++ t) h.2 ∙ append_assoc h.0 h.1 t, h.3, written_on ps qs h.1 t h.4 k)

  one_written : (k : Kind) (bytes : List ℕ) → k ≢ Kind.Csi → AreWritten Writes (part k bytes ∷ []) bytes
  one_written Kind.Csi bytes ne = absurd (ne refl)
  one_written _ bytes ne = (bytes, [], sym (append-nil bytes), refl, refl)

  -- ---- one text

  one_part : WritesOne Writes → (k : Kind) (b s t : List ℕ) → IsWritten Writes k b s → IsWritten Writes k b t → s ≡ t
  one_part unique Kind.Csi b s t h k = unique b s t h k
  one_part unique _ b s t h k = h ∙ sym k

  -- the text of more parts goes on with that of the first
  front_text : WritesOne Writes → (ps more : List Part) (s t : List ℕ) → AreWritten Writes ps s → AreWritten Writes (ps ++ more) t → (rest : List ℕ) × (t ≡ s ++ rest)
  front_text unique [] more s t h k = (t, rw h refl)
  front_text unique (p ∷ ps) more s t h k =
      let first = one_part unique p.kind p.bytes h.0 k.0 h.3 k.3 in
      let (rest, e) = front_text unique ps more h.1 k.1 h.4 k.4 in
      (rest, k.2 ∙ ap (λ (x : List ℕ). x ++ k.1) (sym first) ∙ ap (λ (x : List ℕ). h.0 ++ x) e ∙ sym (append_assoc h.0 h.1 rest) ∙ ap (λ (x : List ℕ). x ++ rest) (sym h.2))

  -- what passed before the others came is a front of the whole text
  pub passes_front : (limit : ℕ) (m a : Mode) (read more text held : List ℕ) → Passes Writes limit m read text held a → IsFrontOf Writes limit m (read ++ more) text
  passes_front limit m a read more text held h unique whole f =
      let w = f.whole in
      let (others, e) = parts_front limit h.parts w.sure m (read ++ more) (held ++ more) w.rest a w.after (parts_more limit h.parts m read more held a h.first) w.first w.unsure in
      let parts : f.parts ≡ h.parts ++ (others ++ left_over w.rest) = w.whole ∙ ap (λ (x : List Part). x ++ left_over w.rest) e ∙ append_assoc h.parts others (left_over w.rest) in
      front_text unique h.parts (others ++ left_over w.rest) text whole h.written (subst (λ (x : List Part). AreWritten Writes x whole) parts f.written)

  -- and so is a front of it
  pub shorter_front : (limit : ℕ) (m : Mode) (bytes sent unsent : List ℕ) → IsFrontOf Writes limit m bytes (sent ++ unsent) → IsFrontOf Writes limit m bytes sent
  shorter_front limit m bytes sent unsent h unique whole f =
      let (rest, e) = h unique whole f in
      (unsent ++ rest, e ∙ append_assoc sent unsent rest)

  -- the whole text is a front of itself
  pub filters_front : (limit : ℕ) (m : Mode) (bytes text : List ℕ) → Filters Writes limit m bytes text → IsFrontOf Writes limit m bytes text
  filters_front limit m bytes text h unique whole f =
      let same = whole_once limit m bytes f.parts h.parts f.whole h.whole in
      let parts : f.parts ≡ h.parts ++ [] = same ∙ sym (append-nil h.parts) in
      front_text unique h.parts [] text whole h.written (subst (λ (x : List Part). AreWritten Writes x whole) parts f.written)

-- ---- a rule as a visitor

plain_part : (Writes : List ℕ → List ℕ → Type 0) (k : Kind) (bytes : List ℕ) → k ≢ Kind.Csi → IsWritten Writes k bytes bytes
plain_part Writes Kind.Csi bytes other = absurd (other refl)
plain_part Writes _ bytes other = refl

module _ {R : Type 0} (Rule : R → List ℕ → List ℕ → Type 0) where
  -- what is written for calls is written for their parts, by a rule that writes no more
  pub visits_written : (v w : R) (calls : List Call) (text : List ℕ) → Visits (Rewrites Rule) v calls text w
      → AreWritten (Rule v) (parts_of calls) text × ((bytes own : List ℕ) → Rule w bytes own → Rule v bytes own)
  visits_written v w [] text (none, same) = (none, λ bytes own h. subst (λ (r : R). Rule r bytes own) same h)
  visits_written v w (Tell e ∷ calls) text (mid, first, others, is, parts, rest) =
      let (written, same) = visits_written mid w calls others rest in
      ((first, others, parts, is.written, weaker (Rule mid) (Rule v) (parts_of calls) others is.same written), λ bytes own h. is.same bytes own (same bytes own h))
  visits_written v w (Pause ∷ calls) text (mid, first, others, is, parts, rest) =
      let (written, same) = visits_written mid w calls others rest in (
        subst (λ (t : List ℕ). AreWritten (Rule v) (parts_of calls) t) (sym (parts ∙ ap (λ (t : List ℕ). t ++ others) is.written))
            (weaker (Rule mid) (Rule v) (parts_of calls) others is.same written),
        λ bytes own h. is.same bytes own (same bytes own h),
      )

  all_visits : (k : Kind) (v : R) (events : List Event) → k ≢ Kind.Csi → AllByRecursion (λ (p : Part). p.kind ≡ k) (map part_of events)
      → Visits (Rewrites Rule) v (map Tell events) (flat_map bytes_of (map part_of events)) v
  all_visits k v [] other all = (refl, refl)
  all_visits k v (e ∷ events) other (is, all) = (
    v,
    (part_of e).bytes,
    flat_map bytes_of (map part_of events),
    record { written = plain_part (Rule v) (part_of e).kind (part_of e).bytes (λ csi. other (sym is ∙ csi)); same = λ bytes own h. h },
    refl,
    all_visits k v events other all,
  )

  -- a span that is no control sequence stays
  pub span_visits : (k : Kind) (v : R) (bytes before after : List ℕ) (events : List Event) → after ≡ before ++ bytes → k ≢ Kind.Csi → IsSpan k bytes (map part_of events)
      → Writes (Rewrites Rule) v (map Tell events) before after v
  span_visits k v bytes before after events is other span =
      let all : AreAll k bytes (map part_of events) = span_all k bytes (map part_of events) span in
      (bytes, subst (λ (t : List ℕ). Visits (Rewrites Rule) v (map Tell events) t v) all.joined (all_visits k v events other all.all), is)

  -- a control sequence
  pub csi_visits : (v w : R) (bytes before own after : List ℕ) → Rule v bytes own → ((b t : List ℕ) → Rule w b t → Rule v b t) → after ≡ before ++ own
      → WritesCsi (Rewrites Rule) v bytes before after w
  csi_visits v w bytes before own after written same is =
      (own, (w, own, [], record { written = written; same = same }, sym (append-nil own), (refl, refl)), is)

  -- nothing
  pub none_visits : (v : R) (before after : List ℕ) → after ≡ before → Writes (Rewrites Rule) v [] before after v
  none_visits v before after is = ([], (refl, refl), is ∙ sym (append-nil before))

  -- what was pushed has passed
  pub pushes_passed : (s t : Stream R) (bytes before after : List ℕ) → PushesTo (Rewrites Rule) s bytes before after t
      → ((text : List ℕ) × Passes (Rule s.visitor) s.limit (mode_of s.state) (collected s.state ++ bytes) text (collected t.state) (mode_of t.state) × (after ≡ before ++ text))
      × ((b own : List ℕ) → Rule t.visitor b own → Rule s.visitor b own)
  pushes_passed s t bytes before after h =
      let p = parted (Rewrites Rule) s t bytes before after h in
      let (written, same) = visits_written s.visitor t.visitor h.pushes.calls h.text h.pushes.visits in
      ((h.text, record { parts = parts_of h.pushes.calls; first = p.first; unsure = p.unsure; written = written }, h.out), same)

  -- and what was told where nothing waited
  pub place_passed : (limit : ℕ) (v w : R) (m a : Mode) (bytes rest before after : List ℕ) → 0 < limit → IsUnsure limit a rest
      → TellsTo (Rewrites Rule) (place v limit m bytes) before after (place w limit a rest)
      → ((text : List ℕ) × Passes (Rule v) limit m bytes text rest a × (after ≡ before ++ text)) × ((b own : List ℕ) → Rule w b own → Rule v b own)
  place_passed limit v w m a bytes rest before after some unsure h =
      let (calls, first, (text, visits, out)) = parted_place (Rewrites Rule) limit v w m a bytes rest before after some unsure h in
      let (written, same) = visits_written v w calls text visits in
      ((text, record { parts = parts_of calls; first = first; unsure = unsure; written = written }, out), same)

  -- ---- from a reader to a writer

  module _ (limit : ℕ) (v : R) (some : 0 < limit) where
    abbrev First : Stream R
    First = stream limit (Open Mode.Text) v

    -- what has passed since it has begun
    pub passed : (last : Stream R) (bytes text : List ℕ) → Pushes (Rewrites Rule) First bytes text last → Passes (Rule v) limit Mode.Text bytes text (collected last.state) (mode_of last.state)
    passed last bytes text h =
        let p = parted_from (Rewrites Rule) First last bytes text some tt h in
        record { parts = parts_of h.calls; first = p.first; unsure = p.unsure; written = (visits_written v last.visitor h.calls text h.visits).0 }

    -- all bytes, and what was held
    pub filtered : (bytes text : List ℕ) → Transforms (Pushes (Rewrites Rule)) (Ends (Rewrites Rule)) First bytes text → Filters (Rule v) limit Mode.Text bytes text
    filtered bytes text =
        made (AreWritten (Rule v)) refl (one_written (Rule v)) (written_on (Rule v)) (Rewrites Rule) limit v bytes text some
        (λ calls own more last done visits pauses.
        subst (λ (t : List ℕ). AreWritten (Rule v) (parts_of calls) t) (sym (ap (λ (t : List ℕ). own ++ t) pauses.written ∙ append-nil own)) (visits_written v last calls own visits).0)

    -- what went out is a front of what the filter makes of the whole input
    pub sent_front : (bytes more sent : List ℕ) (i k w y : Option (List ℕ)) → Consumes i k (bytes ++ more)
        → Begins (Sends (Pushes (Rewrites Rule)) First) (Transforms (Pushes (Rewrites Rule)) (Ends (Rewrites Rule)) First) ((more ≡ []) × IsAtEnd k) bytes sent → Gets w y sent
        → IfSome i (λ all. (front : List ℕ) × IsFrontOf (Rule v) limit Mode.Text all front × Gets w y front)
    sent_front =
        let Own = Rule v in
        whole_front (Sends (Pushes (Rewrites Rule)) First) (Transforms (Pushes (Rewrites Rule)) (Ends (Rewrites Rule)) First) (IsFrontOf Own limit Mode.Text) (shorter_front Own limit Mode.Text)
        (λ read more text (last, since). passes_front Own limit Mode.Text (mode_of last.state) read more text (collected last.state) (passed last read text since))
        (λ bytes text whole. filters_front Own limit Mode.Text bytes text (filtered bytes text whole))
