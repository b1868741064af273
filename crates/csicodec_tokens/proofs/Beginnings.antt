-- The beginnings of sequences are the bytes that go on to a sequence, and a fault is one and stays.
use Rattle.std.proofs.Common.{◌≡◌, ℕ, ℤ, pos, List, [], ◌∷◌, ◌++◌, length, refl, sym, ap, subst, inl, inr, arith, ◌-◌, get_or, ◌∙◌, append_assoc, ◌+◌, ◌<◌, ◌⊎◌, take, drop}
use Rattle.std.proofs.{lemmas.List.length-append, lemmas.List.take-append-le, lemmas.List.take-append-drop, Math.ListN.get_or-append}
use Rattle.csicodec_tokens.specs.declared.reader.ReadError.TheVariants.{BadByte, NumberTooLarge, Truncated, NotCsi, Memory}
use Rattle.csicodec_tokens.specs.{declared.param.CsiParam.CsiParam, declared.param.CsiParam.TheVariants.Integer, declared.param.CsiParam.TheVariants.P}
use Rattle.csicodec_tokens.specs.{Digits.IsDigit, Digits.value, Sequence.Spells, Sequence.Apart, Sequence.Spellable, Sequence.Seq, Sequence.IsBodyByte}
use Rattle.csicodec_tokens.specs.{Sequence.IsFinal, Sequence.Reads, Fault.IsBody, Fault.Begins, Fault.IsBad, Fault.FaultOf, Fault.NoSeq, Fault.IsLeast}
use Rattle.csicodec_tokens.specs.{Fault.IsMetAt, Fault.Fault, Body.Adds, Body.IsStopped, declared.reader.ReadError.ReadError}
use Rattle.csicodec_tokens.proofs.Reading.{cut_cases, IsBody-from_spelling, StopsAt, bad_byte, large_byte, cut_short, IsSpellable-number, Begins-take}
use Rattle.csicodec_tokens.proofs.Walks.{IsBody-front, IsBody-back, digit_or_other, none_begun}

-- ---- each body spells a list

pub record IsSpelled (body : List ℕ) : Type 0 where
  pub list : List CsiParam
  pub spelled : Spells body list
  pub spellable : Spellable list

apart_any : (y z : ℤ) (list : List CsiParam) → Apart (Integer y) list → Apart (Integer z) list
apart_any y z (Integer m ∷ list) h = absurd h
apart_any y z _ h = tt

-- a digit before a spelled body: the first digit of its first number, or a number of its own
with_digit : (b : ℕ) (rest : List ℕ) (list : List CsiParam) → IsDigit b → IsBody (b ∷ rest) → Spells rest list → Spellable list → IsSpelled (b ∷ rest)
with_digit b rest (Integer z ∷ list) d h s can =
    let run = b ∷ s.0 in
    let parts : b ∷ rest ≡ run ++ s.1 = ap (λ (t : List ℕ). b ∷ t) s.2 in
    record {
      list = Integer (pos (value run)) ∷ list;
      spelled = (run, s.1, parts, (omega arith, (d, s.3.1), refl), s.4);
      spellable = (IsSpellable-number (value run) (h.runs [] run s.1 parts (d, s.3.1)), apart_any z (pos (value run)) list can.1, can.2);
    }
with_digit b rest list d h s can = record {
  list = Integer (pos (value (b ∷ []))) ∷ list;
  spelled = (b ∷ [], rest, refl, (omega arith, (d, tt), refl), s);
  spellable = (IsSpellable-number (value (b ∷ [])) (h.runs [] (b ∷ []) rest refl (d, tt)), tt, can);
}

with_other : (b : ℕ) (rest : List ℕ) → ¬ IsDigit b → IsBody (b ∷ rest) → IsSpelled rest → IsSpelled (b ∷ rest)
with_other b rest other h s = record {
  list = P b ∷ s.list;
  spelled = (b ∷ [], rest, refl, refl, s.spelled);
  spellable = ((h.bytes.0, other), tt, s.spellable);
}

pub spelled_body : (body : List ℕ) → IsBody body → IsSpelled body
spelled_body [] h = record { list = []; spelled = refl; spellable = tt }
spelled_body (b ∷ rest) h =
    let s = spelled_body rest (IsBody-back (b ∷ []) rest h) in
    elim (digit_or_other b) [ inl digit ↦ with_digit b rest s.list digit h s.spelled s.spellable | inr other ↦ with_other b rest other h s ]

-- ---- the two directions

-- bytes that are a sequence with some more, at least one
pub record GoesOn (bytes : List ℕ) : Type 0 where
  pub byte : ℕ
  pub more : List ℕ
  pub list : List CsiParam
  pub final : ℕ
  pub seq : Seq (bytes ++ byte ∷ more) list final

shortest : Seq (27 ∷ 91 ∷ 64 ∷ []) [] 64
shortest = record { spellable = tt; ends = (omega arith, omega arith); body = []; spelled = refl; whole = refl }

pub goes_on : (bytes : List ℕ) → Begins bytes → GoesOn bytes
goes_on bytes (inl e) = record { byte = 27; more = 91 ∷ 64 ∷ []; list = []; final = 64; seq = rw e shortest }
goes_on bytes (inr (inl e)) = record { byte = 91; more = 64 ∷ []; list = []; final = 64; seq = rw e shortest }
goes_on bytes (inr (inr w)) =
    let s = spelled_body w.0 w.2 in
    record {
      byte = 64;
      more = [];
      list = s.list;
      final = 64;
      seq = rw w.1 (record { spellable = s.spellable; ends = (omega arith, omega arith); body = w.0; spelled = s.spelled; whole = refl });
    }

front_of_body : (x body more : List ℕ) (byte final : ℕ) → x ++ byte ∷ more ≡ body ++ final ∷ [] → IsBody body → IsBody x
front_of_body x body more byte final e h =
    elim (cut_cases x body more [] byte final e) [
      | inl k ↦ IsBody-front x (byte ∷ k.0) (subst IsBody k.1 h)
      | inr (inl same) ↦ subst IsBody (sym same.0) h
      | inr (inr k) ↦ absurd (omega (arith, ap length e, ap length k.1, length-append x (byte ∷ more), length-append body (final ∷ []), length-append body (final ∷ k.0)))
    ]

pub begins : (bytes : List ℕ) → GoesOn bytes → Begins bytes
begins [] g = inl refl
begins (a ∷ []) g = let e = g.seq.whole in let first : a ≡ 27 = cc in inr (inl cc)
begins (a ∷ b ∷ x) g =
    let e = g.seq.whole in
    let first : a ≡ 27 = cc in
    let second : b ≡ 91 = cc in
    let others : x ++ g.byte ∷ g.more ≡ g.seq.body ++ g.final ∷ [] = cc in
    let body = IsBody-from_spelling g.seq.body g.list g.seq.spellable g.seq.spelled in
    inr (inr (x, cc, front_of_body x g.seq.body g.more g.byte g.final others body))

pub cut_behind : (bytes body : List ℕ) (last : ℕ) → bytes ≡ 27 ∷ 91 ∷ body → Adds 0 body last → FaultOf bytes (Truncated (length bytes))
cut_behind bytes body last e a = rw e (cut_short body (a.on [] none_begun).is)

module _ (bytes body rest : List ℕ) (e : bytes ≡ 27 ∷ 91 ∷ body) (s : IsStopped 0 body rest) where
  stops_at : StopsAt s.done s.byte
  stops_at = record { begun = s.on [] none_begun; stop = λ is. s.stops.none [] none_begun is }

  whole : bytes ≡ 27 ∷ 91 ∷ (s.done ++ rest)
  whole = e ∙ ap (λ (t : List ℕ). 27 ∷ 91 ∷ t) s.parts

  pub found_behind : (final : ℕ) (others : List ℕ) → rest ≡ final ∷ others → IsFinal final → (list : List CsiParam) × (last : ℕ) × Reads bytes list last others
  found_behind final others cut is =
      let spelled = spelled_body s.done (s.on [] none_begun) in
      let parts : body ≡ (s.done ++ final ∷ []) ++ others = s.parts ∙ ap (λ (t : List ℕ). s.done ++ t) cut ∙ sym (append_assoc s.done (final ∷ []) others) in (
        spelled.list,
        final,
        (
          27 ∷ 91 ∷ (s.done ++ final ∷ []),
          record { spellable = spelled.spellable; ends = is; body = s.done; spelled = spelled.spelled; whole = refl },
          e ∙ ap (λ (t : List ℕ). 27 ∷ 91 ∷ t) parts,
        ),
      )

  pub bad_behind : IsBad (get_or rest 0 0) → FaultOf bytes (BadByte (length bytes - length rest))
  bad_behind bad = bad_byte bytes s.done rest s.others s.byte whole s.front (s.on [] none_begun) (subst IsBad (ap (λ (t : List ℕ). get_or t 0 0) s.front) bad)

  pub large_behind : IsBodyByte (get_or rest 0 0) → FaultOf bytes (NumberTooLarge (length bytes - length rest))
  large_behind p = large_byte bytes s.done rest s.others s.byte whole s.front stops_at (subst IsBodyByte (ap (λ (t : List ℕ). get_or t 0 0) s.front) p)

-- ---- A fault stays what it is, whatever follows the bytes that have it.

-- one list cut twice: the first cut is the later or the same, or the second is the later
pub cuts : {T : Type 0} (a b x y : List T) → a ++ x ≡ b ++ y → ((k : List T) × (a ≡ b ++ k)) ⊎ ((c : T) × (k : List T) × (b ≡ a ++ c ∷ k))
cuts a [] x y e = inl (a, refl)
cuts [] (c ∷ b) x y e = inr (c, b, refl)
cuts (d ∷ a) (c ∷ b) x y e = elim (cuts a b x y cc) [ inl h ↦ inl (h.0, cc) | inr h ↦ inr (h.0, h.1, cc) ]

-- what stands before some bytes of a sequence is the beginning of one
pub begins_front : (x y : List ℕ) (list : List CsiParam) (final : ℕ) → 0 < length y → Seq (x ++ y) list final → Begins x
begins_front x [] list final some s = absurd (omega arith)
begins_front x (c ∷ y) list final some s = begins x (record { byte = c; more = y; list = list; final = final; seq = s })

-- a front that begins no sequence is no front of one
none_longer : (bytes : List ℕ) (n c : ℕ) (k front : List ℕ) (list : List CsiParam) (final : ℕ) → IsLeast bytes n → front ≡ bytes ++ c ∷ k → Seq front list final → ⊥
none_longer bytes n c k front list final least e s =
    let split : front ≡ take (n + 1) bytes ++ (drop (n + 1) bytes ++ c ∷ k) =
    e ∙ ap (λ (t : List ℕ). t ++ c ∷ k) (sym (take-append-drop (n + 1) bytes)) ∙ append_assoc (take (n + 1) bytes) (drop (n + 1) bytes) (c ∷ k) in
    let some : 0 < length (drop (n + 1) bytes ++ c ∷ k) = omega (arith, length-append (drop (n + 1) bytes) (c ∷ k)) in
    least.there (begins_front (take (n + 1) bytes) (drop (n + 1) bytes ++ c ∷ k) list final some (subst (λ (t : List ℕ). Seq t list final) split s))

none_more : (bytes more : List ℕ) (n : ℕ) → IsLeast bytes n → NoSeq bytes → NoSeq (bytes ++ more)
none_more bytes more n least none list final rest r =
    elim (cuts bytes r.0 more rest r.2) [
      | inl h ↦ none list final h.0 (r.0, r.1, h.1)
      | inr h ↦ none_longer bytes n h.0 h.1 r.0 list final least h.2 r.1
    ]

least_more : (bytes more : List ℕ) (n : ℕ) → IsLeast bytes n → IsLeast (bytes ++ more) n
least_more bytes more n least = record {
  within = omega (arith, least.within, length-append bytes more);
  before = λ k le. subst Begins (sym (take-append-le k bytes more (omega (arith, le, least.within)))) (least.before k le);
  there = λ t. least.there (subst Begins (take-append-le (n + 1) bytes more (omega (arith, least.within))) t);
}

byte_more : (bytes more : List ℕ) (n : ℕ) → IsLeast bytes n → get_or (bytes ++ more) n 0 ≡ get_or bytes n 0
byte_more bytes more n least = get_or-append bytes more 0 n least.within

-- a fault that is met stays
pub fault_more : (bytes more : List ℕ) (e : ReadError) (n : ℕ) → IsMetAt e n → FaultOf bytes e → FaultOf (bytes ++ more) e
fault_more bytes more (NotCsi place) n at f = (none_more bytes more place f.1.0 f.0, (least_more bytes more place f.1.0, f.1.1))
fault_more bytes more (BadByte place) n at f =
    (none_more bytes more place f.1.0 f.0, (least_more bytes more place f.1.0, f.1.1, subst IsBad (sym (byte_more bytes more place f.1.0)) f.1.2))
fault_more bytes more (NumberTooLarge place) n at f =
    (none_more bytes more place f.1.0 f.0, (least_more bytes more place f.1.0, f.1.1, λ bad. f.1.2 (subst IsBad (byte_more bytes more place f.1.0) bad)))
fault_more bytes more _ n at f = absurd at

-- its place is within the bytes
pub fault_within : (bytes : List ℕ) (e : ReadError) (n : ℕ) → IsMetAt e n → FaultOf bytes e → n < length bytes
fault_within bytes (Truncated place) n at f = absurd at
fault_within bytes Memory n at f = absurd at
fault_within bytes _ n at f = omega (arith, f.1.0.within, at)

-- ---- Bytes have one fault.

not_both : (bytes : List ℕ) (k : ℕ) → Begins bytes → IsLeast bytes k → ⊥
not_both bytes k b l = l.there (Begins-take bytes (k + 1) b)

not_before : (bytes : List ℕ) (j k : ℕ) → IsLeast bytes j → IsLeast bytes k → j < k → ⊥
not_before bytes j k l m lt = l.there (m.before (j + 1) (omega arith))

one_least : (bytes : List ℕ) (j k : ℕ) → IsLeast bytes j → IsLeast bytes k → j ≡ k
one_least bytes j k l m = grind (arith, not_before bytes j k l m, not_before bytes k j m l)

pub one_fault : (bytes : List ℕ) (d e : ReadError) → Fault bytes d → Fault bytes e → d ≡ e
one_fault bytes d Memory l m = absurd m
one_fault bytes Memory e l m = absurd l
one_fault bytes (Truncated j) (Truncated k) l m = ap Truncated (l.1 ∙ sym m.1)
one_fault bytes (Truncated j) _ l m = absurd (not_both bytes _ l.0 m.0)
one_fault bytes _ (Truncated k) l m = absurd (not_both bytes _ m.0 l.0)
one_fault bytes (NotCsi j) (NotCsi k) l m = ap NotCsi (one_least bytes j k l.0 m.0)
one_fault bytes (BadByte j) (BadByte k) l m = ap BadByte (one_least bytes j k l.0 m.0)
one_fault bytes (NumberTooLarge j) (NumberTooLarge k) l m = ap NumberTooLarge (one_least bytes j k l.0 m.0)
one_fault bytes (BadByte j) (NumberTooLarge k) l m = absurd (m.2 (rw (← one_least bytes j k l.0 m.0) l.2))
one_fault bytes (NumberTooLarge j) (BadByte k) l m = absurd (l.2 (rw (one_least bytes j k l.0 m.0) m.2))
one_fault bytes _ _ l m = absurd (omega (arith, one_least bytes _ _ l.0 m.0, l.1, m.1))
