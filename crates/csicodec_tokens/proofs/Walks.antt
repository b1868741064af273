-- Bodies of sequences: runs of digits that end where a text ends, and a walk byte by byte and sixteen at once.
use Rattle.std.proofs.Common.{◌≡◌, ℕ, ◌+◌, ◌-◌, ◌*◌, ◌≤◌, ◌⊎◌, List, [], ◌∷◌, ◌++◌, refl, sym, ap, subst, ◌∙◌, inl, inr, append_assoc, arith, true, false, Option, Some, None, MatchOption, zero, suc, ◌<◌, length, take, drop, get_or}
use Rattle.std.proofs.{lemmas.Bool.cases_lt, lemmas.List.append-nil, lemmas.List.get_or-take, lemmas.List.length-take-le, lemmas.List.take-append-drop}
use Rattle.std.proofs.{lemmas.List.take_more, lemmas.Bool.Decides.nat_tests, Math.Seq.drop-cons, lemmas.List.Elements.All-from_get_or}
use Rattle.std.proofs.{lemmas.List.Elements.recursion_from_All, lemmas.List.Sums.prefix_len-le-length, lemmas.List.Sums.prefix_len_passes}
use Rattle.std.proofs.{lemmas.List.Sums.prefix_len_stops}
use Rattle.std.specs.List.{AllByRecursion, prefix_len}
use Rattle.csicodec_tokens.specs.{Digits.IsDigit, Digits.AreDigits, Digits.value_after, Digits.value, Digits.largest, Sequence.IsBodyByte, Fault.IsBody}
use Rattle.csicodec_tokens.specs.{Body.EndsIn, Body.Adds, Body.Stops, Body.IsStopped, Private.Walking.body_byte, Private.Walking.IsWalked}

-- a text with one more byte, cut in two: the byte is the last of either part
pub snoc_cases : (a b c : List ℕ) (x : ℕ) → a ++ x ∷ [] ≡ b ++ c
    → ((c ≡ []) × (b ≡ a ++ x ∷ [])) ⊎ ((c' : List ℕ) × (c ≡ c' ++ x ∷ []) × (a ≡ b ++ c'))
snoc_cases a [] c x e = inr (a, sym e, refl)
snoc_cases [] (y ∷ []) c x e = inl (cc, cc)
snoc_cases [] (y ∷ z ∷ b) c x e = absurd cc
snoc_cases (w ∷ a) (y ∷ b) c x e = elim (snoc_cases a b c x cc) [ inl h ↦ inl (h.0, cc) | inr h ↦ inr (h.0, h.1, cc) ]

pub digit_or_other : (b : ℕ) → IsDigit b ⊎ ¬ IsDigit b
digit_or_other b = elim (cases_lt b 48) [
  | inl below ↦ inr (λ d. omega (arith, d.0))
  | inr ge ↦ elim (cases_lt 57 b) [ inl above ↦ inr (λ d. omega (arith, d.1)) | inr le ↦ inl (ge, le) ]
]

pub value_push : (n : ℕ) (ds : List ℕ) (d : ℕ) → value_after n (ds ++ d ∷ []) ≡ 10 * value_after n ds + (d - 48)
value_push n [] d = refl
value_push n (c ∷ ds) d = value_push (10 * n + (c - 48)) ds d

pub value_grows : (n : ℕ) (ds : List ℕ) → n ≤ value_after n ds
value_grows n [] = omega arith
value_grows n (d ∷ ds) = omega (arith, value_grows (10 * n + (d - 48)) ds)

module _ (P : ℕ → Type 0) where
  pub All-push : (xs : List ℕ) (x : ℕ) → AllByRecursion P xs → P x → AllByRecursion P (xs ++ x ∷ [])
  All-push [] x h p = (p, tt)
  All-push (y ∷ xs) x h p = (h.0, All-push xs x h.1 p)

  pub All-front : (xs ys : List ℕ) → AllByRecursion P (xs ++ ys) → AllByRecursion P xs
  All-front [] ys h = tt
  All-front (x ∷ xs) ys h = (h.0, All-front xs ys h.1)

  pub All-back : (xs ys : List ℕ) → AllByRecursion P (xs ++ ys) → AllByRecursion P ys
  All-back [] ys h = h
  All-back (x ∷ xs) ys h = All-back xs ys h.1

nil_value : (before run after : List ℕ) → [] ≡ before ++ (run ++ after) → value run ≡ 0
nil_value [] [] after e = refl
nil_value [] (r ∷ run) after e = absurd cc
nil_value (b ∷ before) run after e = absurd cc

nil_only : (before run : List ℕ) → [] ≡ before ++ run → value run ≡ 0
nil_only before run e = nil_value before run [] (e ∙ ap (λ (t : List ℕ). before ++ t) (sym (append-nil run)))

-- one more byte, where no run that ends with it has too large a value
IsBody-push : (text : List ℕ) (b : ℕ) → IsBody text → IsBodyByte b → ((before run : List ℕ) → text ++ b ∷ [] ≡ before ++ run → AreDigits run → value run ≤ largest) → IsBody (text ++ b ∷ [])
IsBody-push text b body p bound = record {
  bytes = All-push IsBodyByte text b body.bytes p;
  runs = λ before run after e h. elim (snoc_cases text before (run ++ after) b e) [
    | inl c ↦ omega (arith, nil_value [] run after (sym c.0))
    | inr c ↦ elim (snoc_cases c.0 run after b (sym c.1)) [
      | inl k ↦ bound before run (e ∙ ap (λ (t : List ℕ). before ++ (run ++ t)) k.0 ∙ ap (λ (t : List ℕ). before ++ t) (append-nil run)) h
      | inr k ↦ body.runs before run k.0 (c.2 ∙ ap (λ (t : List ℕ). before ++ t) k.2) h
    ]
  ];
}

pub none_begun : EndsIn [] 0
none_begun = record {
  is = record { bytes = tt; runs = λ before run after e h. omega (arith, nil_value before run after e) };
  most = λ before run e h. omega (arith, nil_only before run e);
  before = [];
  run = [];
  parts = refl;
  digits = tt;
  total = refl;
}

digit_bound : (text : List ℕ) (n d : ℕ) → EndsIn text n → (before run : List ℕ) → text ++ d ∷ [] ≡ before ++ run → AreDigits run → value run ≤ 10 * n + (d - 48)
digit_bound text n d ends before run e h =
    elim (snoc_cases text before run d e) [
      | inl c ↦ omega (arith, nil_only [] run (sym c.0))
      | inr c ↦ omega (arith, ap value c.1, value_push 0 c.0 d, ends.most before c.0 c.2 (All-front IsDigit c.0 (d ∷ []) (subst AreDigits c.1 h)))
    ]

pub digit_on : (text : List ℕ) (n d : ℕ) → EndsIn text n → IsDigit d → 10 * n + (d - 48) ≤ largest → EndsIn (text ++ d ∷ []) (10 * n + (d - 48))
digit_on text n d ends p le = record {
  is = IsBody-push text d ends.is (omega arith, omega arith) (λ before run e h. omega (arith, digit_bound text n d ends before run e h));
  most = digit_bound text n d ends;
  before = ends.before;
  run = ends.run ++ d ∷ [];
  parts = ap (λ (t : List ℕ). t ++ d ∷ []) ends.parts ∙ append_assoc ends.before ends.run (d ∷ []);
  digits = All-push IsDigit ends.run d ends.digits p;
  total = omega (arith, ends.total, value_push 0 ends.run d);
}

other_bound : (text : List ℕ) (b : ℕ) → ¬ IsDigit b → (before run : List ℕ) → text ++ b ∷ [] ≡ before ++ run → AreDigits run → value run ≡ 0
other_bound text b other before run e h =
    elim (snoc_cases text before run b e) [
      | inl c ↦ nil_only [] run (sym c.0)
      | inr c ↦ absurd (other (All-back IsDigit c.0 (b ∷ []) (subst AreDigits c.1 h)).0)
    ]

pub other_on : (text : List ℕ) (n b : ℕ) → EndsIn text n → IsBodyByte b → ¬ IsDigit b → EndsIn (text ++ b ∷ []) 0
other_on text n b ends p other = record {
  is = IsBody-push text b ends.is p (λ before run e h. omega (arith, other_bound text b other before run e h));
  most = λ before run e h. omega (arith, other_bound text b other before run e h);
  before = text ++ b ∷ [];
  run = [];
  parts = sym (append-nil (text ++ b ∷ []));
  digits = tt;
  total = refl;
}

-- ---- parts of a body

pub IsBody-front : (a b : List ℕ) → IsBody (a ++ b) → IsBody a
IsBody-front a b body = record {
  bytes = All-front IsBodyByte a b body.bytes;
  runs = λ before run after e h. body.runs before run (after ++ b) (ap (λ (t : List ℕ). t ++ b) e ∙ simp append_assoc) h;
}

pub IsBody-back : (a b : List ℕ) → IsBody (a ++ b) → IsBody b
IsBody-back a b body = record {
  bytes = All-back IsBodyByte a b body.bytes;
  runs = λ before run after e h. body.runs (a ++ before) run after (ap (λ (t : List ℕ). a ++ t) e ∙ sym (append_assoc a before (run ++ after))) h;
}

-- ---- A walk over the body of a control sequence, byte by byte and sixteen at once.

-- ---- one byte more

too_large : (body : List ℕ) (n d : ℕ) → EndsIn body n → IsDigit d → largest < 10 * n + (d - 48) → IsBody (body ++ d ∷ []) → ⊥
too_large body n d e p large is =
    let longer = e.run ++ d ∷ [] in
    let parts : body ++ d ∷ [] ≡ e.before ++ (longer ++ []) =
    ap (λ (t : List ℕ). t ++ d ∷ []) e.parts ∙ append_assoc e.before e.run (d ∷ []) ∙ ap (λ (t : List ℕ). e.before ++ t) (sym (append-nil longer)) in
    omega (arith, large, e.total, value_push 0 e.run d, is.runs e.before longer [] parts (All-push IsDigit e.run d e.digits p))

pub digit_step : (r : Option ℕ) (n d : ℕ) → IsDigit d → MatchOption r (largest < 10 * n + (d - 48)) (λ m. (m ≡ 10 * n + (d - 48)) × (m ≤ largest)) → MatchOption r (Stops n (d ∷ [])) (Adds n (d ∷ []))
digit_step None n d p h = record { none = λ body e is. too_large body n d e p h is }
digit_step (Some m) n d p h = record { on = λ body e. rw h.0 (digit_on body n d e p (omega (arith, h.0, h.1))) }

pub other_step : (b n : ℕ) → IsBodyByte b → ¬ IsDigit b → Adds n (b ∷ []) 0
other_step b n p other = record { on = λ body e. other_on body n b e p other }

pub stop_step : (b n : ℕ) → ¬ IsBodyByte b → Stops n (b ∷ [])
stop_step b n other = record { none = λ body e is. other (All-back IsBodyByte body (b ∷ []) is.bytes).0 }

pub stopped_byte : (n b : ℕ) (bytes others : List ℕ) → bytes ≡ b ∷ others → Stops n (b ∷ []) → IsStopped n bytes bytes
stopped_byte n b bytes others e s = record { done = []; byte = b; others = others; parts = refl; front = e; on = λ body at. rw (append-nil body) at.is; stops = s }

-- ---- some bytes more

pub walked_none : (first : ℕ) (bytes : List ℕ) → IsWalked first bytes first bytes
walked_none first bytes = record { done = []; parts = refl; adds = record { on = λ body e. rw (append-nil body) e } }

module _ (first : ℕ) (bytes : List ℕ) (last : ℕ) (rest : List ℕ) (w : IsWalked first bytes last rest) where
  pub walked_on : (next : ℕ) (others : List ℕ) → IsWalked last rest next others → IsWalked first bytes next others
  walked_on next others v = record {
    done = w.done ++ v.done;
    parts = w.parts ∙ ap (λ (t : List ℕ). w.done ++ t) v.parts ∙ sym (append_assoc w.done v.done others);
    adds = record { on = λ body at. subst (λ (t : List ℕ). EndsIn t next) (append_assoc body w.done v.done) (v.adds.on (body ++ w.done) (w.adds.on body at)) };
  }

  pub stopped_on : (others : List ℕ) → IsStopped last rest others → IsStopped first bytes others
  stopped_on others s = record {
    done = w.done ++ s.done;
    byte = s.byte;
    others = s.others;
    parts = w.parts ∙ ap (λ (t : List ℕ). w.done ++ t) s.parts ∙ sym (append_assoc w.done s.done others);
    front = s.front;
    on = λ body at. subst IsBody (append_assoc body w.done s.done) (s.on (body ++ w.done) (w.adds.on body at));
    stops = record {
      none = λ body at is.
          let whole : body ++ ((w.done ++ s.done) ++ s.byte ∷ []) ≡ (body ++ w.done) ++ (s.done ++ s.byte ∷ []) =
          ap (λ (t : List ℕ). body ++ t) (append_assoc w.done s.done (s.byte ∷ [])) ∙ sym (append_assoc body w.done (s.done ++ s.byte ∷ [])) in
          s.stops.none (body ++ w.done) (w.adds.on body at) (subst IsBody whole is);
    };
  }

pub walked_all : (first : ℕ) (bytes : List ℕ) (last : ℕ) (rest : List ℕ) → IsWalked first bytes last rest → length rest < 1 → Adds first bytes last
walked_all first bytes last [] w none = subst (λ (t : List ℕ). Adds first t last) (sym (w.parts ∙ append-nil w.done)) w.adds
walked_all first bytes last (b ∷ rest) w none = absurd (omega arith)

-- ---- sixteen bytes more

-- the largest number that so many digits write
abbrev most : ℕ → ℕ
most zero = 0
most (suc k) = 10 * most k + 9

most_grows : (j k : ℕ) → j ≤ k → most j ≤ most k
most_grows zero k le = let none : most zero ≡ 0 = refl in omega (arith, none)
most_grows (suc j) zero le = absurd (omega arith)
most_grows (suc j) (suc k) le =
    let low : most (suc j) ≡ 10 * most j + 9 = refl in
    let high : most (suc k) ≡ 10 * most k + 9 = refl in
    omega (arith, low, high, most_grows j k (omega (arith, le)))

-- a body with some bytes more, of which no more than sixteen may be digits of one number
few_on : (front body : List ℕ) (n j : ℕ) → EndsIn body n → n ≤ most j → j + length front ≤ 16 → AllByRecursion IsBodyByte front → (m : ℕ) × EndsIn (body ++ front) m
few_on [] body n j e le few all = (n, subst (λ (t : List ℕ). EndsIn t n) (sym (append-nil body)) e)
few_on (b ∷ front) body n j e le few all =
    let whole = append_assoc body (b ∷ []) front in
    let on : (m : ℕ) → EndsIn (body ++ b ∷ []) m → m ≤ most (suc j) → (k : ℕ) × EndsIn (body ++ b ∷ front) k =
    λ m more fits. subst (λ (t : List ℕ). (k : ℕ) × EndsIn t k) whole (few_on front (body ++ b ∷ []) m (suc j) more fits (omega (arith, few)) all.1) in
    elim (digit_or_other b) [
      | inr other ↦ on 0 (other_on body n b e all.0 other) (omega arith)
      | inl digit ↦
          let next : most (suc j) ≡ 10 * most j + 9 = refl in
          let fits : 10 * n + (b - 48) ≤ most (suc j) = omega (arith, le, digit.0, digit.1, next) in
          let all : most 16 ≡ 9999999999999999 = refl in
          on (10 * n + (b - 48)) (digit_on body n b e digit (omega (arith, fits, most_grows (suc j) 16 (omega (arith, few)), all))) fits
    ]

in_body : (b : ℕ) → body_byte b ≡ true → IsBodyByte b
in_body b is = (grind (arith, nat_tests, is), grind (arith, nat_tests, is))

no_in_body : (b : ℕ) → body_byte b ≡ false → ¬ IsBodyByte b
no_in_body b is p = grind (arith, nat_tests, is, p)

module _ (bytes : List ℕ) (r : ℕ) (room : 16 ≤ length bytes) (found : r ≡ prefix_len body_byte (take 16 bytes)) where
  pub front_few : r ≤ 16
  front_few = omega (arith, found, length-take-le 16 bytes room, prefix_len-le-length body_byte (take 16 bytes))

  front_is : (n : ℕ) → n ≤ r → AllByRecursion IsBodyByte (take n bytes)
  front_is n le = recursion_from_All IsBodyByte (take n bytes)
      (All-from_get_or IsBodyByte (take n bytes) 0
      (λ i lt. at i (omega (arith, lt, le, length-take-le n bytes (omega (arith, le, front_few, room))))))
    where
      at : (i : ℕ) → i < n → IsBodyByte (get_or (take n bytes) i 0)
      at i lt = subst IsBodyByte (get_or-take 16 bytes i 0 (omega (arith, lt, le, front_few)) ∙ sym (get_or-take n bytes i 0 lt))
          (in_body (get_or (take 16 bytes) i 0) (prefix_len_passes body_byte (take 16 bytes) i 0 (omega (arith, lt, le, found))))

  stop_is : r < 16 → ¬ IsBodyByte (get_or bytes r 0)
  stop_is lt = no_in_body (get_or bytes r 0) (subst (λ (n : ℕ). body_byte n ≡ false) (ap (λ (k : ℕ). get_or (take 16 bytes) k 0) (sym found) ∙ get_or-take 16 bytes r 0 lt)
      (prefix_len_stops body_byte (take 16 bytes) 0 (omega (arith, lt, found, length-take-le 16 bytes room))))

  -- behind a body that ends in 0 they stop it there
  pub stopped_behind : r < 16 → IsStopped 0 bytes (drop r bytes)
  stopped_behind lt =
      let front = take r bytes in
      let b = get_or bytes r 0 in
      let few = length-take-le r bytes (omega (arith, lt, room)) in
      record {
        done = front;
        byte = b;
        others = drop (suc r) bytes;
        parts = sym (take-append-drop r bytes);
        front = drop-cons bytes r 0 (omega (arith, lt, room));
        on = λ body at. (few_on front body 0 0 at (omega arith) (omega (arith, few, front_few)) (front_is r (omega arith))).1.is;
        stops = record { none = λ body at is. stop_is lt (All-back IsBodyByte front (b ∷ []) (All-back IsBodyByte body (front ++ b ∷ []) is.bytes)).0 };
      }

  -- and as many of them go on with it as stand up to one that is no digit
  pub walked_whole : (n : ℕ) → 0 < n → n ≤ r → ¬ IsDigit (get_or bytes (n - 1) 0) → IsWalked 0 bytes 0 (drop n bytes)
  walked_whole zero some le other = absurd (omega (arith, some))
  walked_whole (suc k) some le other =
      let front = take k bytes in
      let b = get_or bytes k 0 in
      let last : suc k ≡ k + 1 = omega arith in
      let back : suc k - 1 ≡ k = omega arith in
      let no : ¬ IsDigit b = subst (λ (i : ℕ). ¬ IsDigit (get_or bytes i 0)) back other in
      let parts : take (suc k) bytes ≡ front ++ b ∷ [] = ap (λ (n : ℕ). take n bytes) last ∙ take_more bytes k 0 (omega (arith, le, front_few, room)) in
      let all : AllByRecursion IsBodyByte (front ++ b ∷ []) = subst (AllByRecursion IsBodyByte) parts (front_is (suc k) le) in
      let few = length-take-le k bytes (omega (arith, le, front_few, room)) in
      record {
        done = take (suc k) bytes;
        parts = sym (take-append-drop (suc k) bytes);
        adds = rw parts (record {
          on = λ body at.
              let more = few_on front body 0 0 at (omega arith) (omega (arith, few, le, front_few)) (All-front IsBodyByte front (b ∷ []) all) in
              subst (λ (t : List ℕ). EndsIn t 0) (append_assoc body front (b ∷ []))
              (other_on (body ++ front) more.0 b more.1 (All-back IsBodyByte front (b ∷ []) all).0 no);
        });
      }
