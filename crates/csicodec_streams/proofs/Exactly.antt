-- What is written is read back: the actions of a list, each action alone where it is canonical, and streams.
use Rattle.std.proofs.Common.{ℕ, List, [], ◌∷◌, Bool, ap, inl, inr, ◌≡◌, ◌++◌, ◌+◌, ◌<◌, false, sym, ◌∙◌, arith, length, length-append, Contains, ◌-◌, refl, append-nil}
use Rattle.std.proofs.{lemmas.List.Elements.All-head, lemmas.List.Elements.All-tail, lemmas.List.Elements.All-from_recursion, lemmas.Grind.flat_map-append}
use Rattle.csicodec_tokens.specs.Sequence.{Seq}
use Rattle.csicodec_actions.specs.Special.{IsSpecial, NoneSpecial}
use Rattle.csicodec_parser.specs.{Private.Steps.actions, ActionOf.action_of, declared.actions.CSI.CSI}
use Rattle.csicodec_parser.proofs.Cuts.{actions_count}
use Rattle.csicodec_streams.proofs.Common.{All-contains, AllByRecursion, CsiParam, Action, Sgr, Unspecified, text, texts, InRange, Canonical, Actions, Alone, one_decoding, all-append}
use Rattle.csicodec_streams.proofs.{OneReading.decodes-each, OneReading.decodes-append, Kept.Kept, Kept.parsed-special, Kept.sgr-plain, Kept.IsParsedSpecial}
use Rattle.csicodec_streams.proofs.{Kept.special-twin, Parsed.canonical-alone, Parsed.parsed-kept}
use Rattle.csicodec_streams.specs.{Decoding.Decodes, Decoding.Joins, Decoding.AreActions, Exact.ReadsAlone, Exact.Exact, RoundTrip.ReadsBack}
use Rattle.csicodec_streams.specs.{RoundTrip.RoundTrip, RoundTrip.EqualTexts, Streams.IsNormal, Streams.NormaliseTwice, Streams.Join}
use Rattle.csicodec_base.specs.declared.sgr.Sgr as sgr_type

-- ---- one action

pub alone-only : (flag : Bool) (a : Action) → Alone flag a → ReadsAlone a flag
alone-only flag a back = record { back = back; only = λ others d. one_decoding (text a) flag others (a ∷ []) d back }

kept-alone : (flag : Bool) (a : Action) → Kept flag a → ¬ IsSpecial a → Alone flag a
kept-alone flag a kept plain = elim kept.canonical [
  | inl special ↦ absurd (plain (parsed-special a special))
  | inr canonical ↦ canonical-alone a flag kept.range canonical
]

-- ---- all actions of a list

each-alone : (flag : Bool) (actions : List Action) → AllByRecursion (Kept flag) actions → NoneSpecial actions → AllByRecursion (Alone flag) actions
each-alone flag [] kept plain = tt
each-alone flag (a ∷ actions) kept plain =
    (kept-alone flag a kept.0 (All-head (λ x. ¬ IsSpecial x) a actions plain), each-alone flag actions kept.1 (All-tail (λ x. ¬ IsSpecial x) a actions plain))

kept-back : (flag : Bool) (actions : List Action) → AllByRecursion (Kept flag) actions → NoneSpecial actions → ReadsBack actions flag
kept-back flag actions kept plain =
    let back = decodes-each flag actions (each-alone flag actions kept plain) in
    record { back = back; only = λ others d. one_decoding (texts actions) flag others actions d back }

among-alone : (flag : Bool) (actions : List Action) (a : Action) → AllByRecursion (Kept flag) actions → Contains actions a → ¬ IsSpecial a → ReadsAlone a flag
among-alone flag actions a kept one plain =
    alone-only flag a (kept-alone flag a (All-contains (Kept flag) actions a (All-from_recursion (Kept flag) actions kept) one) plain)

pub round_trip_lem : (list : List CsiParam) (flag : Bool) (final : ℕ) → RoundTrip list flag final
round_trip_lem list flag final ok ends actions read =
    let kept = parsed-kept list flag final actions ok ends read in
    record {
      together = kept-back flag actions kept;
      attributes = λ s one. among-alone flag actions (Sgr s) kept one (sgr-plain s);
      unknown = λ params own final one. among-alone flag actions (Unspecified params own final) kept one (λ special. special);
    }

-- ---- two lists

pub equal_texts_lem : (list : List CsiParam) (final : ℕ) (other : List CsiParam) (last : ℕ) (flag : Bool) → EqualTexts list final other last flag
equal_texts_lem list final other last flag ok ends fits closes x y read written plain bare = (
  λ same. ap texts same,
  λ same.
      let back = ((round_trip_lem list flag final ok ends x read).together plain).back in
      ((round_trip_lem other flag last fits closes y written).together bare).only x (rw same at back),
)

-- ---- bytes that are one action are one sequence

no_sequences : (ss : List (List CsiParam × ℕ)) (flag : Bool) → AreActions ss flag [] → ss ≡ []
no_sequences [] flag each = refl
no_sequences (s ∷ ss) flag each =
    absurd (omega (arith, (actions_count s.0 flag s.1 each.0 each.3).0, ap length each.2, length-append each.0 each.1))

first_is : (a : Action) (xs others : List Action) → 0 < length xs → a ∷ [] ≡ xs ++ others → (xs ≡ a ∷ []) × (others ≡ [])
first_is a [] others some e = absurd (omega (arith, some))
first_is a (x ∷ []) others some e = (cc, cc)
first_is a (x ∷ y ∷ ys) others some e = cc

pub record OneSequence (bytes : List ℕ) (flag : Bool) (a : Action) : Type 0 where
  pub list : List CsiParam
  pub final : ℕ
  pub is : Seq bytes list final
  pub read : Actions list flag final (a ∷ [])

pub one-sequence : (bytes : List ℕ) (flag : Bool) (a : Action) → Decodes bytes flag (a ∷ []) → OneSequence bytes flag a
one-sequence bytes flag a d = go d.sequences d.join d.each
  where
    go : (ss : List (List CsiParam × ℕ)) → Joins bytes ss → AreActions ss flag (a ∷ []) → OneSequence bytes flag a
    go [] join each = cc
    go (s ∷ ss) join each =
        let one = first_is a each.0 each.1 (actions_count s.0 flag s.1 each.0 each.3).0 each.2 in
        let last : ss ≡ [] = no_sequences ss flag (rw one.1 at each.4) in
        let end : join.1 ≡ [] = rw last at join.4 in
        record { list = s.0; final = s.1; is = rw (join.2, end, append-nil) join.3; read = rw one.0 at each.3 }

-- ---- both ways

not_special : (a : Action) (flag : Bool) → Alone flag a → IsParsedSpecial a → ⊥
not_special a flag d special =
    let t = special-twin flag a special in
    let back : Decodes (text a) flag (t.other ∷ []) = rw t.same (canonical-alone t.other flag t.range t.canonical) in
    let same = one_decoding (text a) flag (a ∷ []) (t.other ∷ []) d back in
    t.apart cc

read-canonical : (a : Action) (flag : Bool) → Alone flag a → Canonical a flag
read-canonical a flag d =
    let s = one-sequence (text a) flag a d in
    elim (parsed-kept s.list flag s.final (a ∷ []) s.is.spellable s.is.ends s.read).0.canonical [
      | inl special ↦ absurd (not_special a flag d special)
      | inr ok ↦ ok
    ]

pub exact_lem : (a : Action) (flag : Bool) → InRange a → Exact a flag
unfolding Exact
exact_lem a flag range = (λ r. read-canonical a flag r.back, λ ok. alone-only flag a (canonical-alone a flag range ok))

-- only an attribute has numbers whose range its type gives
pub no-attribute : (a : CSI) → ((s : sgr_type.Sgr) → a ≡ CSI.Sgr s → ⊥) → InRange (action_of a)
no-attribute (CSI.Sgr s) none = absurd (none s refl)
no-attribute a none = tt

-- ---- what is written is read, and written again, as the same; and streams that are joined

pub join_lem : (front back : List ℕ) (flag : Bool) → Join front back flag
join_lem front back flag first second x y = record { read = decodes-append front back flag first second x y; written = flat_map-append text first second }

-- ---- each action of a stream is canonical or special

decoded-kept : (bytes : List ℕ) (ss : List (List CsiParam × ℕ)) (flag : Bool) (xs : List Action) → Joins bytes ss → AreActions ss flag xs → AllByRecursion (Kept flag) xs
decoded-kept bytes [] flag xs join each = rw each tt
decoded-kept bytes (s ∷ ss) flag xs join each =
    rw each.2 (all-append (Kept flag) each.0 each.1 (parsed-kept s.0 flag s.1 each.0 join.3.spellable join.3.ends each.3) (decoded-kept join.1 ss flag each.1 join.4 each.4))

-- ---- what it is written as is normal

canonical-normal : (flag : Bool) (a : Action) (bytes : List ℕ) → Decodes bytes flag (a ∷ []) → bytes ≡ text a → IsNormal bytes flag
canonical-normal flag a bytes read same = record { actions = a ∷ []; read = read; written = append-nil (text a) ∙ sym same }

action-normal : (flag : Bool) (a : Action) → Kept flag a → IsNormal (text a) flag
action-normal flag a kept = elim kept.canonical [
  | inl special ↦
      let t = special-twin flag a special in
      canonical-normal flag t.other (text a) (rw t.same (canonical-alone t.other flag t.range t.canonical)) t.same
  | inr ok ↦ canonical-normal flag a (text a) (canonical-alone a flag kept.range ok) refl
]

joined-normal : (flag : Bool) (x y : List ℕ) → IsNormal x flag → IsNormal y flag → IsNormal (x ++ y) flag
joined-normal flag x y p q = record {
  actions = p.actions ++ q.actions;
  read = decodes-append x y flag p.actions q.actions p.read q.read;
  written = flat_map-append text p.actions q.actions ∙ rw (p.written, q.written) refl;
}

texts-normal : (flag : Bool) (xs : List Action) → AllByRecursion (Kept flag) xs → IsNormal (texts xs) flag
texts-normal flag [] kept = record { actions = []; read = record { sequences = []; join = refl; each = refl }; written = refl }
texts-normal flag (a ∷ xs) kept = joined-normal flag (text a) (texts xs) (action-normal flag a kept.0) (texts-normal flag xs kept.1)

pub normalise_twice_lem : (bytes : List ℕ) → NormaliseTwice bytes
normalise_twice_lem bytes actions d = texts-normal false actions (decoded-kept bytes d.sequences false actions d.join d.each)
