-- Parts of lists that are taken, filled and moved.
use Rattle.std.proofs.Common.{◌≡◌, ℕ, suc, ◌+◌, ◌-◌, ◌<◌, ◌≤◌, min, max, List, [], ◌∷◌, ◌++◌, length, get_or, take, drop, sym, ap, ◌∙◌, arith, refl, append-nil, length-append, length-drop, append_assoc}
use Rattle.std.proofs.lemmas.List.{get_or_default, drop-drop, take_min, drop_min, take_at, drop_at, take_more_set, drop-set-lt, drop_more, take-append-drop, length-take-le}
use Rattle.std.specs.Prelude.{set, replicate}
use Rattle.csicodec_screen.specs.Lists.{down, filled, up, within}

-- a part by places that are no further than the list
pub within_part : {A : Type 0} (a b n : ℕ) (f : List A → List A) (xs : List A) → n ≡ length xs → within (min a n) (min (max a b) n) f xs ≡ within a b f xs
within_part {A} a b n f xs e =
    let many : min (max a b) n - min a n ≡ min (b - a) (length (drop a xs)) = omega (arith, length-drop a xs, e) in
    let far : max (min a n) (min (max a b) n) ≡ min (max a b) (length xs) = omega (arith, e) in
    let front : take (min a n) xs ≡ take a xs = ap (λ (k : ℕ). take (min a k) xs) e ∙ take_min a xs in
    let rest : drop (min a n) xs ≡ drop a xs = ap (λ (k : ℕ). drop (min a k) xs) e ∙ drop_min a xs in
    let end : drop (max (min a n) (min (max a b) n)) xs ≡ drop (max a b) xs = ap (λ (k : ℕ). drop k xs) far ∙ drop_min (max a b) xs in
    let mid : take (min (max a b) n - min a n) (drop (min a n) xs) ≡ take (b - a) (drop a xs) =
    ap (λ (k : ℕ). take k (drop (min a n) xs)) many ∙ ap (take (min (b - a) (length (drop a xs)))) rest ∙ take_min (b - a) (drop a xs) in
    λ i. front i ++ (f (mid i) ++ end i)

-- the part itself
pub mid_part : {A : Type 0} (xs : List A) (a b len s e : ℕ) → len ≡ length xs → s ≡ min a len → e ≡ min (max a b) len → take (e - s) (drop s xs) ≡ take (b - a) (drop a xs)
mid_part {A} xs a b len s e h hs he =
    let many : e - s ≡ min (b - a) (length (drop a xs)) = omega (arith, length-drop a xs, h, hs, he) in
    let rest : drop s xs ≡ drop a xs = ap (λ (k : ℕ). drop k xs) hs ∙ ap (λ (k : ℕ). drop (min a k) xs) h ∙ drop_min a xs in
    ap (λ (k : ℕ). take k (drop s xs)) many ∙ ap (take (min (b - a) (length (drop a xs)))) rest ∙ take_min (b - a) (drop a xs)

-- a loop goes on by one place: what is left of the part gives the result
pub within_step : {A : Type 0} (f g : List A → List A) (xs : List A) (i e : ℕ) (x y : A) → i < e → e ≤ length xs → x ≡ get_or xs i x
    → ((rest : List A) → f (x ∷ rest) ≡ y ∷ g rest) → within (i + 1) e g (set xs i y) ≡ within i e f xs
within_step {A} f g xs i e x y h k is step =
    let less : i < length xs = omega (arith, h, k) in
    let rest : List A = take (e - (i + 1)) (drop (i + 1) xs) in
    let a : take (i + 1) (set xs i y) ≡ take i xs ++ (y ∷ []) = take_more_set xs i y less in
    let b : drop (i + 1) (set xs i y) ≡ drop (i + 1) xs = drop-set-lt (i + 1) xs i y (omega arith) in
    let far : max (i + 1) e ≡ e = omega (arith, h) in
    let c : drop (max (i + 1) e) (set xs i y) ≡ drop e xs = ap (λ (m : ℕ). drop m (set xs i y)) far ∙ drop-set-lt e xs i y h in
    let first : drop i xs ≡ x ∷ drop (i + 1) xs = drop_more xs i x less ∙ ap (λ (z : A). z ∷ drop (i + 1) xs) (sym is) in
    let many : e - i ≡ suc (e - (i + 1)) = omega (arith, h) in
    let mid : take (e - i) (drop i xs) ≡ x ∷ rest = ap (take (e - i)) first ∙ ap (λ (m : ℕ). take m (x ∷ drop (i + 1) xs)) many in
    let r : f (take (e - i) (drop i xs)) ≡ y ∷ g rest = ap f mid ∙ step rest in
    let far_too : max i e ≡ e = omega (arith, h) in
    let q : drop (max i e) xs ≡ drop e xs = ap (λ (m : ℕ). drop m xs) far_too in
    let left : within (i + 1) e g (set xs i y) ≡ (take i xs ++ (y ∷ [])) ++ (g rest ++ drop e xs) = λ j. a j ++ (g (take (e - (i + 1)) (b j)) ++ c j) in
    let right : within i e f xs ≡ take i xs ++ ((y ∷ g rest) ++ drop e xs) = λ j. take i xs ++ (r j ++ q j) in
    left ∙ append_assoc (take i xs) (y ∷ []) (g rest ++ drop e xs) ∙ sym right

-- the same, where the element that was read doesn't matter
pub within_set : {A : Type 0} (f g : List A → List A) (xs : List A) (i e : ℕ) (y : A) → i < e → e ≤ length xs
    → ((x : A) (rest : List A) → f (x ∷ rest) ≡ y ∷ g rest) → within (i + 1) e g (set xs i y) ≡ within i e f xs
within_set f g xs i e y h k step = within_step f g xs i e (get_or xs i y) y h k (get_or_default xs i y (get_or xs i y) (omega (arith, h, k))) (step (get_or xs i y))

-- and is over
pub within_done : {A : Type 0} (f : List A → List A) (xs : List A) (i e : ℕ) → e ≤ i → f [] ≡ [] → within i e f xs ≡ xs
within_done {A} f xs i e h nil =
    let none : e - i ≡ 0 = omega (arith, h) in
    let far : max i e ≡ i = omega (arith, h) in
    ap (λ (k : ℕ). take i xs ++ (f (take k (drop i xs)) ++ drop (max i e) xs)) none
    ∙ ap (λ (z : List A). take i xs ++ (z ++ drop (max i e) xs)) nil
    ∙ ap (λ (k : ℕ). take i xs ++ drop k xs) far
    ∙ take-append-drop i xs

-- where nothing changes
pub within_same : {A : Type 0} (f : List A → List A) (xs : List A) (a b : ℕ) → a ≤ b → ((rest : List A) → f rest ≡ rest) → within a b f xs ≡ xs
within_same {A} f xs a b h same =
    let far : max a b ≡ a + (b - a) = omega (arith, h) in
    ap (λ (z : List A). take a xs ++ (z ++ drop (max a b) xs)) (same (take (b - a) (drop a xs)))
    ∙ ap (λ (m : ℕ). take a xs ++ (take (b - a) (drop a xs) ++ drop m xs)) far
    ∙ ap (λ (z : List A). take a xs ++ (take (b - a) (drop a xs) ++ z)) (sym (drop-drop (b - a) a xs))
    ∙ ap (λ (z : List A). take a xs ++ z) (take-append-drop (b - a) (drop a xs))
    ∙ take-append-drop a xs

-- by places no further than the list
pub as_whole : {A : Type 0} (f : List A → List A) (xs : List A) (a b len s e : ℕ) → len ≡ length xs → s ≡ min a len → e ≡ min (max a b) len → within s e f xs ≡ within a b f xs
as_whole f xs a b len s e h hs he = (λ i. within (hs i) (he i) f xs) ∙ within_part a b len f xs h

-- a part that stands behind some, and ahead of others
pub within_at : {A : Type 0} (f : List A → List A) (p q r : List A) (a b : ℕ) → length p ≡ a → a + length q ≡ b → within a b f (p ++ (q ++ r)) ≡ p ++ (f q ++ r)
within_at {A} f p q r a b h k =
    let front : take a (p ++ (q ++ r)) ≡ p = take_at p (q ++ r) a h in
    let rest : drop a (p ++ (q ++ r)) ≡ q ++ r = drop_at p (q ++ r) a h in
    let mid : take (b - a) (drop a (p ++ (q ++ r))) ≡ q = ap (take (b - a)) rest ∙ take_at q r (b - a) (omega (arith, k)) in
    let end : drop (max a b) (p ++ (q ++ r)) ≡ r = ap (drop (max a b)) (sym (append_assoc p q r)) ∙ drop_at (p ++ q) r (max a b) (length-append p q ∙ omega (arith, h, k)) in
    λ i. front i ++ (f (mid i) ++ end i)

abbrev pub turned : {A : Type 0} → ℕ → List A → List A
turned n part = drop n part ++ take n part

module _ {A : Type 0} (x : A) (xs : List A) (s e n : ℕ) (h : s ≤ e) (k : e ≤ length xs) (few : n ≤ e - s) where
  abbrev pub mid : List A
  mid = take (e - s) (drop s xs)

  long : length mid ≡ e - s
  long = length-take-le (e - s) (drop s xs) (omega (arith, length-drop s xs, k))

  front_long : length (take s xs) ≡ s
  front_long = length-take-le s xs (omega (arith, h, k))

  far : max s e ≡ e
  far = omega (arith, h)

  pub moved_up : within (e - n) e (filled x) (within s e (turned n) xs) ≡ within s e (up n x) xs
  moved_up =
      let z : List A = drop (max s e) xs in
      let some : min n (length mid) ≡ n = omega (arith, long, few) in
      let taken : length (take n mid) ≡ n = length-take-le n mid (omega (arith, long, few)) in
      let ahead : length (take s xs ++ drop n mid) ≡ e - n = length-append (take s xs) (drop n mid) ∙ omega (arith, front_long, length-drop n mid, long, few, h) in
      ap (λ (v : List A). within (e - n) e (filled x) (take s xs ++ v)) (append_assoc (drop n mid) (take n mid) z)
      ∙ ap (within (e - n) e (filled x)) (sym (append_assoc (take s xs) (drop n mid) (take n mid ++ z)))
      ∙ within_at (filled x) (take s xs ++ drop n mid) (take n mid) z (e - n) e ahead (omega (arith, taken, few, h))
      ∙ append_assoc (take s xs) (drop n mid) (filled x (take n mid) ++ z)
      ∙ ap (λ (v : List A). take s xs ++ v) (sym (append_assoc (drop n mid) (filled x (take n mid)) z))
      ∙ ap (λ (m : ℕ). take s xs ++ ((drop n mid ++ replicate m x) ++ z)) taken
      ∙ ap (λ (m : ℕ). take s xs ++ ((drop m mid ++ replicate m x) ++ z)) (sym some)

  pub moved_down : within s (s + n) (filled x) (within s e (turned (e - s - n)) xs) ≡ within s e (down n x) xs
  moved_down =
      let z : List A = drop (max s e) xs in
      let t : ℕ = e - s - n in
      let some : min n (length mid) ≡ n = omega (arith, long, few) in
      let gone : length (drop (e - s - n) mid) ≡ n = length-drop (e - s - n) mid ∙ omega (arith, long, few) in
      let left : e - s - n ≡ length mid - min n (length mid) = omega (arith, long, few) in
      ap (λ (v : List A). within s (s + n) (filled x) (take s xs ++ v)) (append_assoc (drop t mid) (take t mid) z)
      ∙ within_at (filled x) (take s xs) (drop t mid) (take t mid ++ z) s (s + n) front_long (ap (λ (m : ℕ). s + m) gone)
      ∙ ap (λ (m : ℕ). take s xs ++ (replicate m x ++ (take t mid ++ z))) (gone ∙ sym some)
      ∙ ap (λ (m : ℕ). take s xs ++ (replicate (min n (length mid)) x ++ (take m mid ++ z))) left
      ∙ ap (λ (v : List A). take s xs ++ v) (sym (append_assoc (replicate (min n (length mid)) x) (take (length mid - min n (length mid)) mid) z))

-- what the code does: by places no further than the list, and a count no larger than the part
module _ {A : Type 0} (x : A) (xs ys : List A) (a b len s e n count : ℕ) (h : len ≡ length xs) (hs : s ≡ min a len) (he : e ≡ min (max a b) len) (hn : n ≡ min count (e - s)) where
  ordered : s ≤ e
  ordered = omega (arith, hs, he)

  inside : e ≤ length xs
  inside = omega (arith, he, h)

  few : n ≤ e - s
  few = omega (arith, hn)

  part_long : length (take (e - s) (drop s xs)) ≡ e - s
  part_long = length-take-le (e - s) (drop s xs) (omega (arith, length-drop s xs, inside))

  some : min n (length (take (e - s) (drop s xs))) ≡ min count (length (take (e - s) (drop s xs)))
  some = omega (arith, part_long, hn)

  placed : (f : List A → List A) → within s e f xs ≡ within a b f xs
  placed f = as_whole f xs a b len s e h hs he

  pub shifted_up : ys ≡ within s e (turned n) xs → within (e - n) e (filled x) ys ≡ within a b (up count x) xs
  shifted_up turn =
      ap (within (e - n) e (filled x)) turn ∙ moved_up x xs s e n ordered inside few
      ∙ ap (λ (m : ℕ). take s xs ++ ((drop m (take (e - s) (drop s xs)) ++ replicate m x) ++ drop (max s e) xs)) some
      ∙ placed (up count x)

  pub shifted_down : ys ≡ within s e (turned (e - s - n)) xs → within s (s + n) (filled x) ys ≡ within a b (down count x) xs
  shifted_down turn =
      ap (within s (s + n) (filled x)) turn ∙ moved_down x xs s e n ordered inside few
      ∙ ap (λ (m : ℕ). take s xs ++ ((replicate m x ++ take (length (take (e - s) (drop s xs)) - m) (take (e - s) (drop s xs))) ++ drop (max s e) xs)) some
      ∙ placed (down count x)

-- all of a list
pub within_all : {A : Type 0} (f : List A → List A) (xs : List A) (n : ℕ) → n ≡ length xs → within 0 n f xs ≡ f xs
within_all f xs n h = ap (within 0 n f) (sym (append-nil xs)) ∙ within_at f [] xs [] 0 n refl (omega (arith, h)) ∙ append-nil (f xs)
