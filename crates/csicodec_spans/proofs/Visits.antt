-- Whatever a visitor does of chunks in turn it does of all of them at once: an event is a byte of a text or a whole sequence, wherever a chunk ended.
use Rattle.std.proofs.Common.{◌≡◌, ◌∙◌, ℕ, List, [], ◌∷◌, ◌++◌, map, refl, sym, ap, subst, append_assoc}
use Rattle.std.specs.List.{concat}
use Rattle.csicodec_spans.specs.Visits.{AnyChunks, Call, DoesOf, DoesOne, OneText, Pause, Pushes, Stream, Tell, Visits, events_of, stream}
use Rattle.csicodec_spans.specs.Machine.{Event, State, Told, tell, next, walk}

-- what is told of bytes, and then of more
abbrev pub then_more : ℕ → Told → List ℕ → Told
then_more limit t more = let u = walk limit t.to more in tell (t.events ++ u.events) u.to

pub walk_append : (limit : ℕ) (s : State) (bytes more : List ℕ) → walk limit s (bytes ++ more) ≡ then_more limit (walk limit s bytes) more
walk_append limit s [] more = refl
walk_append limit s (b ∷ bytes) more =
    let t = next limit s b in
    let u = walk limit t.to bytes in
    let v = walk limit u.to more in
    ap (λ (w : Told). tell (t.events ++ w.events) w.to) (walk_append limit t.to bytes more)
    ∙ ap (λ (es : List Event). tell es v.to) (sym (append_assoc t.events u.events v.events))

pub events_append : (calls more : List Call) → events_of (calls ++ more) ≡ events_of calls ++ events_of more
events_append [] more = refl
events_append (Tell e ∷ calls) more = ap (λ (es : List Event). e ∷ es) (events_append calls more)
events_append (Pause ∷ calls) more = events_append calls more

module _ {V : Type 0} (does : DoesOf V) where
  pub visits_append : (u v w : V) (calls more : List Call) (first second : List ℕ) → Visits does u calls first v → Visits does v more second w
      → Visits does u (calls ++ more) (first ++ second) w
  visits_append u v w [] more first second (none, same) two =
      subst (λ (t : List ℕ). Visits does u more (t ++ second) w) (sym none) (subst (λ (x : V). Visits does x more second w) same two)
  visits_append u v w (c ∷ calls) more first second (mid, own, others, is, parts, rest) two = (
    mid,
    own,
    others ++ second,
    is,
    ap (λ (t : List ℕ). t ++ second) parts ∙ append_assoc own others second,
    visits_append mid v w calls more others second rest two,
  )

  pub pushes_append : (s t u : Stream V) (bytes more first second : List ℕ) → Pushes does s bytes first t → Pushes does t more second u
      → Pushes does s (bytes ++ more) (first ++ second) u
  pushes_append s t u bytes more first second h two =
      let w = walk s.limit s.state bytes in
      let k = subst (λ (x : Stream V). Pushes does x more second u) h.to two in
      let both = sym (walk_append s.limit s.state bytes more) in
      record {
        calls = h.calls ++ k.calls;
        told = events_append h.calls k.calls ∙ ap (λ (es : List Event). es ++ events_of k.calls) h.told ∙ ap (λ (es : List Event). w.events ++ es) k.told
            ∙ ap (λ (x : Told). x.events) both;
        to = k.to ∙ ap (λ (x : Told). stream s.limit x.to u.visitor) both;
        visits = visits_append s.visitor t.visitor u.visitor h.calls k.calls first second h.visits k.visits;
      }

  pub pushes_none : (s t : Stream V) (text : List ℕ) → text ≡ [] → t ≡ s → Pushes does s [] text t
  pushes_none s t text none same =
      let own = ap (λ (x : Stream V). x.visitor) same in
      record { calls = []; told = refl; to = same ∙ ap (λ (v : V). stream s.limit s.state v) (sym own); visits = (none, own) }

  pub any_chunks : AnyChunks does
  any_chunks s after [] text (none, same) = pushes_none s after text none same
  any_chunks s after (chunk ∷ chunks) text (mid, first, others, is, parts, rest) =
      subst (λ (t : List ℕ). Pushes does s (chunk ++ concat chunks) t after) (sym parts)
      (pushes_append s mid after chunk (concat chunks) first others is (any_chunks mid after chunks others rest))

  module _ (only : DoesOne does) where
    -- without the pauses
    silent : (v w : V) (calls : List Call) (text : List ℕ) → Visits does v calls text w → Visits does v (map Tell (events_of calls)) text w
    silent v w [] text h = h
    silent v w (Tell e ∷ calls) text (mid, first, others, is, parts, rest) = (mid, first, others, is, parts, silent mid w calls others rest)
    silent v w (Pause ∷ calls) text (mid, first, others, is, parts, rest) =
        let (none, same) = only.pauses v mid first is in
        subst (λ (t : List ℕ). Visits does v (map Tell (events_of calls)) t w) (sym (parts ∙ ap (λ (t : List ℕ). t ++ others) none))
        (subst (λ (x : V). Visits does x (map Tell (events_of calls)) others w) same (silent mid w calls others rest))

    visits_one : (v : V) (events : List Event) (text own : List ℕ) (w x : V) → Visits does v (map Tell events) text w → Visits does v (map Tell events) own x → (text ≡ own) × (w ≡ x)
    visits_one v [] text own w x (none, same) (none2, same2) = (none ∙ sym none2, same ∙ sym same2)
    visits_one v (e ∷ events) text own w x (mid, first, others, is, parts, rest) (mid2, first2, others2, is2, parts2, rest2) =
        let (front, to) = only.events v e first first2 mid mid2 is is2 in
        let (later, last) = visits_one mid events others others2 w x rest (subst (λ (y : V). Visits does y (map Tell events) others2 x) (sym to) rest2) in
        (parts ∙ ap (λ (t : List ℕ). t ++ others) front ∙ ap (λ (t : List ℕ). first2 ++ t) later ∙ sym parts2, last)

    told_only : (s t : Stream V) (bytes text : List ℕ) → Pushes does s bytes text t → Visits does s.visitor (map Tell (walk s.limit s.state bytes).events) text t.visitor
    told_only s t bytes text h =
        subst (λ (es : List Event). Visits does s.visitor (map Tell es) text t.visitor) h.told (silent s.visitor t.visitor h.calls text h.visits)

    pushes_one : (s after last : Stream V) (bytes text own : List ℕ) → Pushes does s bytes text after → Pushes does s bytes own last → (text ≡ own) × (after ≡ last)
    pushes_one s after last bytes text own h k =
        let w = walk s.limit s.state bytes in
        let (front, visitor) = visits_one s.visitor w.events text own after.visitor last.visitor (told_only s after bytes text h) (told_only s last bytes own k) in
        (front, h.to ∙ ap (λ (v : V). stream s.limit w.to v) visitor ∙ sym k.to)

  pub one_text : OneText does
  one_text only s after last chunks others text own same h k =
      let all = any_chunks s last others own k in
      pushes_one only s after last (concat chunks) text own (any_chunks s after chunks text h) (subst (λ (t : List ℕ). Pushes does s t own last) (sym same) all)
