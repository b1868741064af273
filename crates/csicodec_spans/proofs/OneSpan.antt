-- Single parts, and runs of bytes that stay, as spans, which grow as far as what is open behind them goes on.
use Rattle.std.proofs.Common.{◌≡◌, ◌≢◌, ◌⊎◌, ◌<◌, ◌≤◌, ◌+◌, ◌-◌, ◌%◌, ◌^◌, ◌∙◌, ℕ, zero, suc, Bool, true, false, not, ◌||◌, eqb, Fits, w8, map, List, [], ◌∷◌, ◌++◌, length, take, drop, get_or, inl, inr, refl, sym, ap, subst, append_assoc, arith, length-take-le, take-append-drop, get_or-drop, get_or-take, length-append, length-take}
use Rattle.std.proofs.{lemmas.List.length-map, lemmas.Simd.Each1-get_or, lemmas.Simd.first_set_mask_l, lemmas.Simd.map-map, lemmas.Simd.mask_l-mod}
use Rattle.std.proofs.{lemmas.Bool.agree_below, lemmas.Bool.agree_below_at, lemmas.Bool.cases_lt, lemmas.Bool.cond_both, lemmas.List.Sums.prefix_len_passes}
use Rattle.std.proofs.{Math.Seq.take-append_seam}
use Rattle.csicodec_tokens.specs.{Fault.Begins, Fault.FaultOf, Fault.IsMetAt, Fault.Refuses, declared.param.CsiParam.CsiParam}
use Rattle.csicodec_tokens.specs.{declared.reader.ReadError.ReadError, declared.reader.ReadError.TheVariants.Memory, Sequence.Reads, Sequence.Seq}
use Rattle.csicodec_spans.specs.Parts.{Part, part, Allows, AllowsCsi, IsUnsure, IsUnsureBy, IsMore, IsMaximal, Cuts, IsPlain, IsPlainFront, IsMalformed}
use Rattle.csicodec_spans.specs.{declared.table.Kind.Kind, declared.table.Mode.Mode, declared.table.Ahead.Ahead, declared.table.Ahead.TheVariants.GoesOn}
use Rattle.csicodec_spans.specs.{declared.table.Ahead.TheVariants.Ends, declared.table.Ahead.TheVariants.New, declared.table.Ahead.TheVariants.Esc}
use Rattle.csicodec_spans.specs.{declared.table.Ahead.TheVariants.Csi, declared.table.Ahead.TheVariants.Unsure, Table.Answer, Table.More, Table.Anew}
use Rattle.csicodec_spans.specs.{Table.ahead, Private.TableBy.kind_in, Private.TableBy.stays, Private.TableBy.look, Private.TableBy.meant}
use Rattle.csicodec_spans.proofs.{Agrees.Sound, Agrees.found, Agrees.sound, Agrees.Agrees, Agrees.agrees, Once.one_alone, Missed.join_cuts, Missed.one_span}
use Rattle.std.specs.Simd.Lanes.{Each1, mask_l, top}
use lib.Count.{count_trailing_zeros}
use Rattle.csicodec_tokens.proofs.Beginnings.{fault_more, fault_within}

-- each byte by itself
abbrev pub singles : Kind → List ℕ → List Part
singles k [] = []
singles k (b ∷ bs) = part k (b ∷ []) ∷ singles k bs

-- ---- what is found is a span

-- so many bytes of this kind, and the mode behind them
abbrev pub IsTaken : Answer → Kind → ℕ → Mode → Type 0
IsTaken f k n a = (f ≡ More k n a) ⊎ (f ≡ Anew k n a)

-- they are some bytes, and no more than there are
pub taken_within : (m : Mode) (bytes : List ℕ) (f : Ahead) (k : Kind) (n : ℕ) (a : Mode) → look m bytes ≡ f → IsTaken (meant m f) k n a → (0 < n) × (n ≤ length bytes)
taken_within m bytes f k n a e (inl is) = let h = (subst (Sound m bytes) (found m bytes f e ∙ is) (sound m bytes)).0 in (h.some, h.within)
taken_within m bytes f k n a e (inr is) = let h = (subst (Sound m bytes) (found m bytes f e ∙ is) (sound m bytes)).0 in (h.some, h.within)

allowed_cut : (limit : ℕ) (m a : Mode) (bytes : List ℕ) (k : Kind) (n : ℕ) (f : Answer) →
    ahead m bytes ≡ f → Allows f limit bytes k (take n bytes) a →
    Cuts limit m bytes k (take n bytes) (drop n bytes) a
allowed_cut limit m a bytes k n f e s = record {
  parts = part k (take n bytes) ∷ [];
  span = one_span k (take n bytes);
  one = one_alone limit m bytes [] (part k (take n bytes));
  first = (drop n bytes, a, (sym (take-append-drop n bytes), subst (λ (x : Answer). Allows x limit bytes k (take n bytes) a) (sym e) s), (refl, refl));
}

pub taken_cut : (limit : ℕ) (m : Mode) (bytes : List ℕ) (f : Ahead) (k : Kind) (n : ℕ) (a : Mode) → look m bytes ≡ f → IsTaken (meant m f) k n a → Cuts limit m bytes k (take n bytes) (drop n bytes) a
taken_cut limit m bytes f k n a e (inl is) = allowed_cut limit m a bytes k n (More k n a) (found m bytes f e ∙ is) (refl, length-take-le n bytes (taken_within m bytes f k n a e (inl is)).1, refl)
taken_cut limit m bytes f k n a e (inr is) = allowed_cut limit m a bytes k n (Anew k n a) (found m bytes f e ∙ is) (refl, length-take-le n bytes (taken_within m bytes f k n a e (inr is)).1, refl)

pub csi_cut : (limit : ℕ) (m a : Mode) (bytes : List ℕ) (k : Kind) (n : ℕ) → look m bytes ≡ Csi → AllowsCsi limit bytes k (take n bytes) a → Cuts limit m bytes k (take n bytes) (drop n bytes) a
csi_cut limit m a bytes k n e s = allowed_cut limit m a bytes k n _ (found m bytes Csi e) s

pub is_unsure : (limit : ℕ) (m : Mode) (bytes : List ℕ) → look m bytes ≡ Unsure → IsUnsure limit m bytes
is_unsure limit m bytes e = subst (λ (f : Answer). IsUnsureBy f limit bytes) (sym (found m bytes Unsure e)) tt

pub csi_unsure : (limit : ℕ) (m : Mode) (bytes : List ℕ) → look m bytes ≡ Csi → Begins bytes × (length bytes < limit) → IsUnsure limit m bytes
csi_unsure limit m bytes e h = subst (λ (f : Answer). IsUnsureBy f limit bytes) (sym (found m bytes Csi e)) h

-- nothing is sure of no bytes
pub none_unsure : (limit : ℕ) (m : Mode) → IsUnsure limit m []
none_unsure limit m = is_unsure limit m [] refl

-- ---- more of what is open

stays_look : (m : Mode) (b : ℕ) (bs : List ℕ) → stays m b ≡ true → look m (b ∷ bs) ≡ GoesOn 1
stays_look m b bs e = rw e refl

-- a byte that stays goes on with what is open
more_stays : (m : Mode) (bytes : List ℕ) → 0 < length bytes → stays m (get_or bytes 0 0) ≡ true → IsMore (ahead m bytes)
more_stays m [] some e = absurd (omega arith)
more_stays m (b ∷ bs) some e = subst IsMore (sym (found m (b ∷ bs) (GoesOn 1) (stays_look m b bs e))) tt

stays_cut : (limit : ℕ) (m : Mode) (b : ℕ) (bs : List ℕ) → stays m b ≡ true → Cuts limit m (b ∷ bs) (kind_in m) (b ∷ []) bs m
stays_cut limit m b bs e = taken_cut limit m (b ∷ bs) (GoesOn 1) (kind_in m) 1 m (stays_look m b bs e) (inl refl)

-- bytes that stay are a span
pub run_cut : (limit n : ℕ) (m : Mode) (bytes : List ℕ) → ((k : ℕ) → k < n → stays m (get_or bytes k 0) ≡ true) → n ≤ length bytes → 0 < n
    → Cuts limit m bytes (kind_in m) (take n bytes) (drop n bytes) m
run_cut limit zero m bytes stay le some = absurd (omega arith)
run_cut limit (suc n) m [] stay le some = absurd (omega arith)
run_cut limit (suc zero) m (b ∷ bs) stay le some = stays_cut limit m b bs (stay 0 (omega arith))
run_cut limit (suc (suc n)) m (b ∷ bs) stay le some =
    join_cuts limit m m m (b ∷ bs) (b ∷ []) bs (take (suc n) bs) (drop (suc n) bs)
    (more_stays m bs (omega arith) (stay 1 (omega arith))) (stays_cut limit m b bs (stay 0 (omega arith)))
    (run_cut limit (suc n) m bs (λ k lt. stay (suc k) (omega arith)) (omega arith) (omega arith))

-- the rest is behind some bytes, and where the first rest was behind a span of what is open, this one is behind a longer one
pub record IsLonger (bytes first rest : List ℕ) (m a : Mode) : Type 0 where
  pub split : (text : List ℕ) × (bytes ≡ text ++ rest)
  pub cut : (limit : ℕ) (start : Mode) (text : List ℕ) → Cuts limit start bytes (kind_in m) text first m →
      (longer : List ℕ) × Cuts limit start bytes (kind_in m) longer rest a

-- more of what is open makes it longer
more_longer : (bytes first rest : List ℕ) (m a : Mode) (n : ℕ) → IsMore (ahead m rest) → IsLonger bytes first rest m m →
    ((limit : ℕ) → Cuts limit m rest (kind_in m) (take n rest) (drop n rest) a) → IsLonger bytes first (drop n rest) m a
more_longer bytes first rest m a n goes h more = record {
  split = (h.split.0 ++ take n rest, rw (append_assoc h.split.0 (take n rest) (drop n rest), take-append-drop n rest) h.split.1);
  cut = λ limit start text c. let (longer, d) = h.cut limit start text c in
      (longer ++ take n rest, join_cuts limit start m a bytes longer rest (take n rest) (drop n rest) goes d (more limit));
}

pub stays_longer : (bytes first rest : List ℕ) (m : Mode) (n : ℕ) → ((i : ℕ) → i < n → stays m (get_or rest i 0) ≡ true) → n ≤ length rest →
    IsLonger bytes first rest m m → IsLonger bytes first (drop n rest) m m
stays_longer bytes first rest m zero stay le h = h
stays_longer bytes first rest m (suc n) stay le h =
    more_longer bytes first rest m m (suc n) (more_stays m rest (omega arith) (stay 0 (omega arith))) h
    (λ limit. run_cut limit (suc n) m rest stay le (omega arith))

pub taken_longer : (bytes first rest : List ℕ) (m a : Mode) (f : Ahead) (n : ℕ) → look m rest ≡ f → meant m f ≡ More (kind_in m) n a →
    IsLonger bytes first rest m m → IsLonger bytes first (drop n rest) m a
taken_longer bytes first rest m a f n is e h =
    more_longer bytes first rest m a n (subst IsMore (sym (found m rest f is ∙ e)) tt) h (λ limit. taken_cut limit m rest f (kind_in m) n a is (inl e))

abbrev pub IsOther : Ahead → Type 0
IsOther f = ((n : ℕ) × (a : Mode) × (f ≡ New n a)) ⊎ (((n : ℕ) × (f ≡ Esc n)) ⊎ ((f ≡ Csi) ⊎ (f ≡ Unsure)))

-- other fronts begin anew, or aren't sure
pub none_more : (m : Mode) (f : Ahead) → IsOther f → ¬ IsMore (meant m f)
none_more m f (inl h) more = subst (λ (x : Ahead). IsMore (meant m x)) h.2 more
none_more m f (inr (inl h)) more = subst (λ (x : Ahead). IsMore (meant m x)) h.1 more
none_more m f (inr (inr (inl h))) more = subst (λ (x : Ahead). IsMore (meant m x)) h more
none_more m f (inr (inr (inr h))) more = subst (λ (x : Ahead). IsMore (meant m x)) h more

pub stops_maximal : (k : Kind) (a : Mode) (rest : List ℕ) (f : Ahead) → look a rest ≡ f → IsOther f → IsMaximal k a rest
stops_maximal k a rest f is none which more = none_more a f none (subst IsMore (found a rest f is) more)

-- and these go on
pub some_more : (m : Mode) (bytes : List ℕ) (f : Ahead) → look m bytes ≡ f → ((n : ℕ) × (f ≡ GoesOn n)) ⊎ ((n : ℕ) × (f ≡ Ends n)) → IsMore (ahead m bytes)
some_more m bytes f is (inl h) = subst IsMore (sym (found m bytes (GoesOn h.0) (is ∙ h.1))) tt
some_more m bytes f is (inr h) = subst IsMore (sym (found m bytes (Ends h.0) (is ∙ h.1))) tt

-- ---- bytes before the first ESC, found many at once

other_one : (a b : Bool) → not a ≡ true → (a || b) ≡ true → b ≡ true
other_one true b off h = cc
other_one false b off h = h

-- lanes before the first at which a test is met, where that is met at each byte that doesn't stay
pub lanes_before : (m : Mode) (w : ℕ) (xs z : List ℕ) (f : ℕ → ℕ) → w < 64 → length xs ≡ w → Each1 (Fits w8) xs → z ≡ map f xs
    → agree_below (λ x. top 7 (f x) || stays m x) (λ _. true) 256 ≡ true
    → (k : ℕ) → k < count_trailing_zeros 64 (mask_l (map (top 7) z) % 2 ^ 64) → k < w
    → stays m (get_or xs k 0) ≡ true
lanes_before m w xs z f few long fits lanes all k before within =
    let met : ℕ → Bool = λ x. top 7 (f x) in
    let mask : mask_l (map (top 7) z) % 2 ^ 64 ≡ mask_l (map met xs) =
    ap (λ l. mask_l l % 2 ^ 64) (ap (map (top 7)) lanes ∙ map-map (top 7) f xs)
    ∙ mask_l-mod (map met xs) 64 (omega (arith, length-map xs met, long, few)) in
    let first = cond_both (eqb (mask_l (map met xs)) 0) w _ (λ n. k < n) (λ _. within) (λ _. rw mask at before) in
    let passed = subst (λ n. k < n) (first_set_mask_l met xs w long (omega (arith, few))) first in
    let byte = (Each1-get_or (Fits w8) xs k 0 (omega (arith, long, within)) fits).fits in
    other_one (met (get_or xs k 0)) (stays m (get_or xs k 0)) (prefix_len_passes (λ x. not (met x)) xs k 0 passed)
    (agree_below_at (λ x. met x || stays m x) (λ _. true) 256 (get_or xs k 0) all byte)

-- the bytes before a place stay, and so many behind it
pub stays_on : (m : Mode) (bytes : List ℕ) (at n : ℕ)
    → ((k : ℕ) → k < at → stays m (get_or bytes k 0) ≡ true)
    → ((k : ℕ) → k < n → stays m (get_or (drop at bytes) k 0) ≡ true)
    → (k : ℕ) → k < at + n → stays m (get_or bytes k 0) ≡ true
stays_on m bytes at n front behind k within = elim (cases_lt k at) [
  | inl low ↦ front k low
  | inr high ↦
      let i = k - at in
      let same : at + i ≡ k = omega (arith, high) in
      subst (λ (b : ℕ). stays m b ≡ true) (get_or-drop at bytes i 0 ∙ ap (λ (j : ℕ). get_or bytes j 0) same)
      (behind i (omega (arith, within, high)))
]

-- the same of w lanes behind it at most
pub lanes_stay : (m : Mode) (bytes : List ℕ) (w at near n : ℕ) → n ≤ near → n ≤ w
    → ((k : ℕ) → k < at → stays m (get_or bytes k 0) ≡ true)
    → ((k : ℕ) → k < near → k < w → stays m (get_or (take w (drop at bytes)) k 0) ≡ true)
    → (k : ℕ) → k < at + n → stays m (get_or bytes k 0) ≡ true
lanes_stay m bytes w at near n few fit front lanes = stays_on m bytes at n front (λ k within.
    let low : k < w = omega (arith, within, fit) in
    subst (λ (b : ℕ). stays m b ≡ true) (get_or-take w (drop at bytes) k 0 low)
    (lanes k (omega (arith, within, few)) low))

-- and in front
pub near_stays : (bytes : List ℕ) (near n : ℕ) → n ≤ near → n ≤ 16
    → ((k : ℕ) → k < near → k < 16 → stays Mode.Text (get_or (take 16 bytes) k 0) ≡ true)
    → (k : ℕ) → k < n → stays Mode.Text (get_or bytes k 0) ≡ true
near_stays bytes near n few fit lanes k within =
    lanes_stay Mode.Text bytes 16 0 near n few fit (λ i low. absurd (omega (arith, low))) lanes k (omega (arith, within))

-- text in front
pub text_front : (bytes : List ℕ) (n : ℕ) → ((k : ℕ) → k < n → stays Mode.Text (get_or bytes k 0) ≡ true) → n ≤ length bytes → 0 < n → IsPlainFront bytes n
text_front bytes n stay within some = (Kind.Text, (λ e. absurd cc), λ limit. run_cut limit n Mode.Text bytes stay within some)

-- what is found where nothing is open, and is no control sequence
pub plain_found : (bytes : List ℕ) (f : Ahead) (k : Kind) (n : ℕ) → look Mode.Text bytes ≡ f → k ≢ Kind.Csi →
    IsTaken (meant Mode.Text f) k n Mode.Text → (0 < n) × (n ≤ length bytes) × IsPlainFront bytes n
plain_found bytes f k n is other e =
    let (some, within) = taken_within Mode.Text bytes f k n Mode.Text is e in
    (some, within, (k, other, λ limit. taken_cut limit Mode.Text bytes f k n Mode.Text is e))

-- neither
abbrev pub IsNeither : Ahead → Type 0
IsNeither f = ((n : ℕ) × (f ≡ Ends n)) ⊎ (((n : ℕ) × (a : Mode) × (f ≡ New n a)) ⊎ ((f ≡ Csi) ⊎ (f ≡ Unsure)))

no_escape : (a : Mode) → kind_in a ≡ Kind.Esc → ⊥
no_escape Mode.Text e = absurd cc
no_escape _ e = absurd cc

pub none_plain : (bytes : List ℕ) (f : Ahead) → look Mode.Text bytes ≡ f → IsNeither f → IsPlain (ahead Mode.Text bytes) → ⊥
none_plain bytes f is (inl (n, e)) plain = (subst (Agrees Mode.Text bytes) (is ∙ e) (agrees Mode.Text bytes)).ends refl
none_plain bytes f is (inr (inl (n, a, e))) plain = no_escape a (subst IsPlain (found Mode.Text bytes (New n a) (is ∙ e)) plain)
none_plain bytes f is (inr (inr (inl e))) plain = subst IsPlain (found Mode.Text bytes Csi (is ∙ e)) plain
none_plain bytes f is (inr (inr (inr e))) plain = subst IsPlain (found Mode.Text bytes Unsure (is ∙ e)) plain

-- ---- From what the first bytes behind ESC and `[` are to what stands in front.

-- the front of the bytes before the tail of some front
front_is : (bytes front tail : List ℕ) (n : ℕ) → take n bytes ≡ front ++ tail → take (length (take n bytes) - length tail) bytes ≡ front
front_is bytes front tail n e =
    let whole : bytes ≡ front ++ (tail ++ drop n bytes) = sym (take-append-drop n bytes) ∙ ap (λ (t : List ℕ). t ++ drop n bytes) e ∙ append_assoc front tail (drop n bytes) in
    let len : length (take n bytes) - length tail ≡ length front = omega (arith, ap length e, length-append front tail) in
    ap (λ (k : ℕ). take k bytes) len ∙ ap (λ (t : List ℕ). take (length front) t) whole ∙ take-append_seam front (tail ++ drop n bytes)

pub whole : (limit : ℕ) (bytes tail : List ℕ) (list : List CsiParam) (final : ℕ) → Reads (take limit bytes) list final tail → Seq (take (length (take limit bytes) - length tail) bytes) list final
whole limit bytes tail list final r = rw (front_is bytes r.0 tail limit r.2) r.1

pub short : (limit : ℕ) (bytes tail : List ℕ) → length (take (length (take limit bytes) - length tail) bytes) ≤ limit
short limit bytes tail = omega (arith, length-take limit bytes, length-take (length (take limit bytes) - length tail) bytes)

pub malformed : (limit at : ℕ) (bytes : List ℕ) (e : ReadError) → IsMetAt e at → FaultOf (take limit bytes) e
    → (at ≤ length bytes) × IsMalformed limit bytes (length (take at bytes))
malformed limit at bytes e is f =
    let within = fault_within (take limit bytes) e at is f in
    let low : at < limit = omega (arith, within, length-take limit bytes) in
    let fits : at ≤ length bytes = omega (arith, within, length-take limit bytes) in
    (fits, rw (length-take-le at bytes fits) (inl (e, subst (λ (t : List ℕ). FaultOf t e) (take-append-drop limit bytes) (fault_more (take limit bytes) (drop limit bytes) e at is f), is, low)))

-- any refusal but out of memory is the fault of the bytes
pub refused : (bytes : List ℕ) (room : ℕ) (e : ReadError) → e ≢ Memory → Refuses bytes room e → FaultOf bytes e
refused bytes room Memory other r = absurd (other refl)
refused bytes room _ other r = r
