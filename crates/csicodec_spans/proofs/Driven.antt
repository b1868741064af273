-- What a driver tells its visitor of bytes is what the machine tells of them.
use Rattle.std.proofs.Common.{◌≡◌, ◌≢◌, ◌∙◌, ◌<◌, ◌≤◌, ◌-◌, ℕ, zero, suc, List, [], ◌∷◌, ◌++◌, map, length, take, drop, refl, sym, ap, subst, arith, append_assoc, append-nil, length-append, length-take, take-append-drop}
use Rattle.std.proofs.lemmas.List.{map-append}
use Rattle.csicodec_spans.specs.Machine.{Event, Print, Execute, CsiDispatch, EscDispatch, Hook, Put, Unhook, Ignore, State, Open, Told, tell, in_turn, walk, collected}
use Rattle.csicodec_spans.specs.Visits.{Call, DoesOf, Pause, PausesTo, Place, Pushes, PushesTo, Stream, Tell, TellsTo, Visits, Writes, WritesCsi, events_of, parts_of, place, stream}
use Rattle.csicodec_spans.specs.Parts.{Part, part, IsPlainFront, IsSequence, IsSpan, IsUnsure, Cuts, AreFirstParts}
use Rattle.csicodec_spans.specs.{declared.table.Kind.Kind, declared.table.Mode.Mode, Told.IsState, Told.mode_of, Told.part_of}
use Rattle.csicodec_spans.proofs.{Told.tells_front, Told.tells_parts, Told.held_is, Told.held_state, Told.walk_state, Visits.walk_append, Visits.pushes_append}
use Rattle.csicodec_spans.proofs.{Visits.visits_append, Visits.then_more, Missed.cut_parts, Missed.rest_is, Missed.seq_part, Once.parts_join}
use Rattle.csicodec_spans.proofs.{OneSpan.none_unsure}

-- the kind and the bytes of the first part
abbrev first_kind : List Part → Kind
first_kind [] = Kind.Csi
first_kind (p ∷ ps) = p.kind

abbrev first_bytes : List Part → List ℕ
first_bytes [] = []
first_bytes (p ∷ ps) = p.bytes

-- the one event of a control sequence
only_csi : (events : List Event) (bytes : List ℕ) → map part_of events ≡ part Kind.Csi bytes ∷ [] → events ≡ CsiDispatch bytes ∷ []
only_csi [] bytes e = absurd (omega (arith, ap length e))
only_csi (d ∷ f ∷ events) bytes e = absurd (omega (arith, ap length e))
only_csi (CsiDispatch text ∷ []) bytes e = ap (λ (t : List ℕ). CsiDispatch t ∷ []) (ap first_bytes e)
only_csi (Print b ∷ []) bytes e = let kinds : Kind.Text ≡ Kind.Csi = ap first_kind e in absurd cc
only_csi (Execute b ∷ []) bytes e = let kinds : Kind.Text ≡ Kind.Csi = ap first_kind e in absurd cc
only_csi (EscDispatch text ∷ []) bytes e = let kinds : Kind.Esc ≡ Kind.Csi = ap first_kind e in absurd cc
only_csi (Hook b ∷ []) bytes e = let kinds : Kind.Str ≡ Kind.Csi = ap first_kind e in absurd cc
only_csi (Put text ∷ []) bytes e = let kinds : Kind.Str ≡ Kind.Csi = ap first_kind e in absurd cc
only_csi (Unhook text ∷ []) bytes e = let kinds : Kind.Str ≡ Kind.Csi = ap first_kind e in absurd cc
only_csi (Ignore text ∷ []) bytes e = let kinds : Kind.Other ≡ Kind.Csi = ap first_kind e in absurd cc

-- events alone are told of
told_events : (events : List Event) → events_of (map Tell events) ≡ events
told_events [] = refl
told_events (e ∷ events) = ap (λ (es : List Event). e ∷ es) (told_events events)

module _ {V : Type 0} (does : DoesOf V) where
  writes_none : (v : V) (out : List ℕ) → Writes does v [] out out v
  writes_none v out = ([], (refl, refl), sym (append-nil out))

  pub tells_none : (s : Place V) (out : List ℕ) → TellsTo does s out out s
  tells_none s out = record { limit = refl; events = []; front = []; parts = refl; goes = refl; writes = writes_none s.visitor out }

  pub tells_on : (s t u : Place V) (a b c : List ℕ) → TellsTo does s a b t → TellsTo does t b c u → TellsTo does s a c u
  tells_on s t u a b c h k =
      let w = walk s.limit (Open u.mode) u.bytes in
      let (x, is, e) = h.writes in
      let (y, more, f) = k.writes in
      let second : walk s.limit (Open t.mode) t.bytes ≡ in_turn (tell k.events (Open u.mode)) w =
      subst (λ (l : ℕ). walk l (Open t.mode) t.bytes ≡ in_turn (tell k.events (Open u.mode)) (walk l (Open u.mode) u.bytes)) h.limit k.goes in
      record {
        limit = k.limit ∙ h.limit;
        events = h.events ++ k.events;
        front = h.front ++ k.front;
        parts = h.parts ∙ ap (λ (l : List ℕ). h.front ++ l) k.parts ∙ sym (append_assoc h.front k.front u.bytes);
        goes = h.goes ∙ ap (in_turn (tell h.events (Open t.mode))) second ∙ ap (λ (es : List Event). tell es w.to) (sym (append_assoc h.events k.events w.events));
        writes = (
          x ++ y,
          subst (λ (cs : List Call). Visits does s.visitor cs (x ++ y) u.visitor) (sym (map-append Tell h.events k.events))
              (visits_append does s.visitor t.visitor u.visitor (map Tell h.events) (map Tell k.events) x y is more),
          f ∙ ap (λ (l : List ℕ). l ++ y) e ∙ append_assoc a x y,
        );
      }

  -- a span in front
  span_tells : (limit : ℕ) (v w : V) (m a : Mode) (k : Kind) (bytes text rest before after : List ℕ) → 0 < limit → (c : Cuts limit m bytes k text rest a)
      → ((events : List Event) → map part_of events ≡ c.parts → Writes does v (map Tell events) before after w)
      → TellsTo does (place v limit m bytes) before after (place w limit a rest)
  span_tells limit v w m a k bytes text rest before after some c writes =
      let t = tells_front limit m a bytes rest c.parts some c.first in
      record { limit = refl; events = t.events; front = text; parts = cut_parts limit m bytes k text rest a c; goes = t.goes; writes = writes t.events t.each }

  -- a sequence, as it is cut
  pub csi_tells : (limit : ℕ) (v w : V) (m a : Mode) (k : Kind) (bytes text rest before after : List ℕ) → 0 < limit → k ≡ Kind.Csi → Cuts limit m bytes k text rest a
      → WritesCsi does v text before after w → TellsTo does (place v limit m bytes) before after (place w limit a rest)
  csi_tells limit v w m a k bytes text rest before after some is c writes =
      span_tells limit v w m a k bytes text rest before after some c
      (λ events each. subst (λ (es : List Event). Writes does v (map Tell es) before after w) (sym (only_csi events text (each ∙ subst (λ (x : Kind). IsSpan x text c.parts) is c.span))) writes)

  -- one that was known, in front of bytes, and none
  pub known_tells : (limit n : ℕ) (v w : V) (bytes before after : List ℕ) → 0 < limit → n ≤ length bytes → n ≤ limit
      → (0 < n → IsSequence (take n bytes) × WritesCsi does v (take n bytes) before after w) → (n ≡ 0 → Writes does v [] before after w)
      → TellsTo does (place v limit Mode.Text bytes) before after (place w limit Mode.Text (drop n bytes))
  known_tells limit zero v w bytes before after some within short known none =
      record { limit = refl; events = []; front = []; parts = refl; goes = refl; writes = none refl }
  known_tells limit (suc n) v w bytes before after some within short known none =
      let text = take (suc n) bytes in
      let rest = drop (suc n) bytes in
      let (seq, writes) = known (omega arith) in
      let all = take-append-drop (suc n) bytes in
      let one = seq_part limit Mode.Text text rest seq (omega (arith, length-take (suc n) bytes, short)) in
      let first : AreFirstParts limit Mode.Text bytes (part Kind.Csi text ∷ []) rest Mode.Text =
      subst (λ (l : List ℕ). AreFirstParts limit Mode.Text l (part Kind.Csi text ∷ []) rest Mode.Text) all (rest, Mode.Text, one, (refl, refl)) in
      let t = tells_front limit Mode.Text Mode.Text bytes rest (part Kind.Csi text ∷ []) some first in
      record {
        limit = refl;
        events = t.events;
        front = text;
        parts = sym all;
        goes = t.goes;
        writes = subst (λ (es : List Event). Writes does v (map Tell es) before after w) (sym (only_csi t.events text t.each)) writes;
      }

  pub other_tells : (limit : ℕ) (v w : V) (m a : Mode) (k : Kind) (bytes text rest before after : List ℕ) → 0 < limit → k ≢ Kind.Csi → Cuts limit m bytes k text rest a
      → ((kind : Kind) (events : List Event) → kind ≢ Kind.Csi → IsSpan kind text (map part_of events) → Writes does v (map Tell events) before after w)
      → TellsTo does (place v limit m bytes) before after (place w limit a rest)
  other_tells limit v w m a k bytes text rest before after some other c writes =
      span_tells limit v w m a k bytes text rest before after some c
      (λ events each. writes k events other (subst (IsSpan k text) (sym each) c.span))

  -- text or an escape sequence in front
  pub plain_tells : (limit n : ℕ) (v w : V) (bytes before after : List ℕ) → 0 < limit → IsPlainFront bytes n
      → ((kind : Kind) (events : List Event) → kind ≢ Kind.Csi → IsSpan kind (take n bytes) (map part_of events) → Writes does v (map Tell events) before after w)
      → TellsTo does (place v limit Mode.Text bytes) before after (place w limit Mode.Text (drop n bytes))
  plain_tells limit n v w bytes before after some (k, other, cuts) writes =
      other_tells limit v w Mode.Text Mode.Text k bytes (take n bytes) (drop n bytes) before after some other (cuts limit) writes

  pub left_within : (s t : Place V) (a b : List ℕ) → TellsTo does s a b t → length t.bytes ≤ length s.bytes
  left_within s t a b h = omega (arith, ap length h.parts, length-append h.front t.bytes)

  pub left_is : (s t : Place V) (a b : List ℕ) → TellsTo does s a b t → drop (length s.bytes - length t.bytes) s.bytes ≡ t.bytes
  left_is s t a b h = rest_is s.bytes h.front t.bytes h.parts

  -- a chunk, behind what is held
  pub pushes_told : (limit : ℕ) (v w : V) (m a : Mode) (held bytes rest before after : List ℕ) → 0 < limit → IsUnsure limit m held → IsUnsure limit a rest
      → TellsTo does (place v limit m (held ++ bytes)) before after (place w limit a rest)
      → PushesTo does (stream limit (walk limit (Open m) held).to v) bytes before after (stream limit (walk limit (Open a) rest).to w)
  pushes_told limit v w m a held bytes rest before after some o left h =
      let (text, visits, out) = h.writes in
      let s = (walk limit (Open m) held).to in
      let r = (walk limit (Open a) rest).to in
      let whole : walk limit (Open m) (held ++ bytes) ≡ walk limit s bytes =
      walk_append limit (Open m) held bytes ∙ ap (λ (t : Told). then_more limit t bytes) (held_state limit m held some o) in
      let goes : walk limit s bytes ≡ tell h.events r =
      sym whole ∙ h.goes ∙ ap (in_turn (tell h.events (Open a))) (held_state limit a rest some left) ∙ ap (λ (es : List Event). tell es r) (append-nil h.events) in
      record {
        limit = some;
        state = walk_state limit m held some;
        text = text;
        pushes = record {
          calls = map Tell h.events;
          told = told_events h.events ∙ ap (λ (t : Told). t.events) (sym goes);
          to = ap (λ (t : Told). stream limit t.to w) (sym goes);
          visits = visits;
        };
        out = out;
      }

  -- all waits on
  pub pushes_held : (limit : ℕ) (v : V) (m : Mode) (held bytes out : List ℕ) → 0 < limit → IsUnsure limit m held → IsUnsure limit m (held ++ bytes)
      → PushesTo does (stream limit (walk limit (Open m) held).to v) bytes out out (stream limit (walk limit (Open m) (held ++ bytes)).to v)
  pushes_held limit v m held bytes out some o left =
      pushes_told limit v v m m held bytes (held ++ bytes) out out some o left (tells_none (place v limit m (held ++ bytes)) out)

  -- a chunk, and then another
  pub pushes_then : (s t u : Stream V) (bytes more a b c : List ℕ) → PushesTo does s bytes a b t → PushesTo does t more b c u → PushesTo does s (bytes ++ more) a c u
  pushes_then s t u bytes more a b c h k = record {
    limit = h.limit;
    state = h.state;
    text = h.text ++ k.text;
    pushes = pushes_append does s t u bytes more h.text k.text h.pushes k.pushes;
    out = k.out ∙ ap (λ (l : List ℕ). l ++ k.text) h.out ∙ append_assoc a h.text k.text;
  }

  -- no bytes, and a pause
  pub pushes_pause : (s t : Stream V) (before after : List ℕ) → (h : PausesTo does s before after t) → Pushes does s [] h.text t
  pushes_pause s t before after h =
      record { calls = Pause ∷ []; told = refl; to = h.to; visits = (t.visitor, h.text, [], h.does_so, sym (append-nil h.text), (refl, refl)) }

  -- what was pushed, as the parts that the table of modes cuts
  pub record Parted (s : Stream V) (bytes : List ℕ) (calls : List Call) (t : Stream V) : Type 0 where
    pub limit : t.limit ≡ s.limit
    pub first : AreFirstParts s.limit (mode_of s.state) (collected s.state ++ bytes) (parts_of calls) (collected t.state) (mode_of t.state)
    pub unsure : IsUnsure s.limit (mode_of t.state) (collected t.state)

  pub parted_from : (s t : Stream V) (bytes text : List ℕ) → 0 < s.limit → IsState s.limit s.state → (h : Pushes does s bytes text t) → Parted s bytes h.calls t
  parted_from s t bytes text some is h =
      let told = tells_parts s.limit s.state bytes some is in
      let state = ap (λ (x : Stream V). x.state) h.to in
      record { limit = ap (λ (x : Stream V). x.limit) h.to; first = rw (state, h.told) told.parts; unsure = rw state told.unsure }

  pub parted : (s t : Stream V) (bytes before after : List ℕ) → (h : PushesTo does s bytes before after t) → Parted s bytes h.pushes.calls t
  parted s t bytes before after h = parted_from s t bytes h.text h.limit h.state h.pushes

  -- bytes that were told where nothing waits, as parts
  pub parted_place : (limit : ℕ) (v w : V) (m a : Mode) (bytes rest before after : List ℕ) → 0 < limit → IsUnsure limit a rest
      → TellsTo does (place v limit m bytes) before after (place w limit a rest)
      → (calls : List Call) × AreFirstParts limit m bytes (parts_of calls) rest a × Writes does v calls before after w
  parted_place limit v w m a bytes rest before after some left h =
      let k = pushes_told limit v w m a [] bytes rest before after some (none_unsure limit m) left h in
      let p = parted (stream limit (Open m) v) (stream limit (walk limit (Open a) rest).to w) bytes before after k in
      let own = held_is limit a rest some left in
      (k.pushes.calls, rw (own.0, own.1) at p.first, (k.text, k.pushes.visits, k.out))
