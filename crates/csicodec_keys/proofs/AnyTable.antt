-- Values that may be none; and any table: what is computed of each of its rows holds of the one that is found by its key.
use Rattle.std.proofs.Common.{◌≡◌, Option, None, Some, refl, subst, arith, Bool, true, false, ◌&&◌, is_none, if◌then◌else◌, option_map, ℕ, List, [], ◌∷◌, inl, inr, eqb-true, find, ◌==◌}
use Rattle.std.proofs.{lemmas.Option.same_Some, lemmas.Bool.and_parts, lemmas.Bool.cases_Bool}
use Rattle.std.specs.{Option.option_or, List.list_all}
use Rattle.csicodec_keys.specs.{declared.code.KeyCode.KeyCode, declared.rows.Table.Table, declared.tables.Row.Row, SameKeys.same_code, Rows.row_of, Tables.rows}
use Rattle.csicodec_keys.proofs.SameKeys.{same-code}

-- what holds of each that it may be made of holds of it
pub made : {A B : Type 0} (P : B → Type 0) (g : A → B) (o : Option A) (b : B) → option_map g o ≡ Some b → ((a : A) → o ≡ Some a → P (g a)) → P b
made P g None b e all = cc
made P g (Some a) b e all = subst P (same_Some _ _ e) (all a refl)

pub allowed : {B : Type 0} (P : B → Type 0) (t : Bool) (x b : B) → (if t then Some x else None) ≡ Some b → (t ≡ true → P x) → P b
allowed P true x b e all = subst P (same_Some _ _ e) (all refl)
allowed P false x b e all = cc

pub either : {B : Type 0} (P : Type 0) (o p : Option B) (b : B) → option_or o p ≡ Some b → (o ≡ Some b → P) → (p ≡ Some b → P) → P
either P None p b e first second = second e
either P (Some x) p b e first second = first e

pub guarded : {X : Type 0} (b : Bool) (x : Option X) (y : X) → (if b then x else None) ≡ Some y → (b ≡ true) × (x ≡ Some y)
guarded true x y e = (refl, e)
guarded false x y e = cc

pub unless : {X : Type 0} (b : Bool) (x : Option X) (y : X) → (if b then None else x) ≡ Some y → (b ≡ false) × (x ≡ Some y)
unless true x y e = cc
unless false x y e = (refl, e)

pub none-is : {X : Type 0} (o : Option X) → is_none o ≡ true → o ≡ None
none-is None e = refl
none-is (Some x) e = cc

pub three : (a b c : Bool) → (a && (b && c)) ≡ true → (a ≡ true) × (b ≡ true) × (c ≡ true)
three a b c h = (grind arith, grind arith, grind arith)

pub four : (a b c d : Bool) → (a && (b && (c && d))) ≡ true → (a ≡ true) × (b ≡ true) × (c ≡ true) × (d ≡ true)
four a b c d h = (grind arith, grind arith, grind arith, grind arith)

-- ---- Any table: what is computed of each of its rows holds of the one that is found by its key.

-- what holds of all rows holds of the one that is found, and it passes the test
found-all : (test p : Row → Bool) (rows : List Row) (r : Row) → list_all p rows ≡ true → find test rows ≡ Some r → (test r ≡ true) × (p r ≡ true)
found-all test p [] r h e = cc
found-all test p (q ∷ rows) r h e =
    let both = and_parts (p q) (list_all p rows) h in
    elim (cases_Bool (test q)) [
      | inl here ↦ subst (λ (x : Row). (test x ≡ true) × (p x ≡ true)) (same_Some q r (rw here at e)) (here, both.0)
      | inr later ↦ found-all test p rows r both.1 (rw later at e)
    ]

-- what is made of a row that is found by its key, where all rows pass a test, and what is made of such a row has the property
pub of-rows : {B : Type 0} (test : Row → Bool) (P : KeyCode → ℕ → B → Type 0) (g : Row → B) (t : Table) (code : KeyCode) (held : ℕ) (b : B)
    → list_all test (rows t) ≡ true → ((r : Row) → test r ≡ true → P r.code r.held (g r)) → option_map g (row_of (rows t) code held) ≡ Some b → P code held b
unfolding row_of
of-rows test P g t code held b all each e = made (P code held) g (row_of (rows t) code held) b e (λ r is.
    let f = found-all (λ (x : Row). same_code x.code code && (x.held == held)) test (rows t) r all is in
    let p = and_parts (same_code r.code code) (r.held == held) f.0 in
    subst (λ (k : KeyCode). P k held (g r)) (same-code r.code code p.0) (subst (λ (n : ℕ). P r.code n (g r)) (eqb-true r.held held p.1) (each r f.1)))

-- a row is found as one of the same key
abbrev pub is_same : Option Row → Row → Bool
is_same None r = false
is_same (Some q) r = same_code q.code r.code && (q.held == r.held)

pub same-row : (o : Option Row) (r : Row) → is_same o r ≡ true → (q : Row) × (o ≡ Some q) × (q.code ≡ r.code) × (q.held ≡ r.held)
same-row None r h = cc
same-row (Some q) r h =
    let p = and_parts (same_code q.code r.code) (q.held == r.held) h in (q, refl, same-code q.code r.code p.0, eqb-true q.held r.held p.1)
