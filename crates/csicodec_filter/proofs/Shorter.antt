-- What is cut of bytes is cut so of fewer of them too, if one stands behind it.
use Rattle.std.proofs.Common.{◌≡◌, ◌<◌, ◌≤◌, ◌+◌, ◌⊎◌, ℕ, List, [], ◌∷◌, ◌++◌, length, refl, sym, ap, subst, ◌∙◌, inl, inr, append_assoc, arith, length-append}
use Rattle.std.proofs.{Math.ListN.get_or-append, lemmas.List.take-append-le}
use Rattle.csicodec_tokens.specs.{Fault.Begins, Fault.NoSeq, Fault.IsLeast, Fault.IsBad, Fault.FaultOf, Fault.IsMetAt, declared.reader.ReadError.ReadError}
use Rattle.csicodec_tokens.specs.{declared.reader.ReadError.TheVariants.BadByte, declared.reader.ReadError.TheVariants.NotCsi}
use Rattle.csicodec_tokens.specs.{declared.reader.ReadError.TheVariants.NumberTooLarge}
use Rattle.csicodec_spans.specs.{Parts.Allows, Parts.AllowsCsi, Parts.IsMalformed, Private.TableBy.look, Private.TableBy.meant, Table.Answer, Table.More}
use Rattle.csicodec_spans.specs.{Table.Anew, Table.Sequence, Table.Undecided, Table.ahead, declared.table.Kind.Kind, declared.table.Mode.Mode}
use Rattle.csicodec_spans.proofs.Agrees.{found}

-- ---- control sequences that went wrong

least_less : (s x : List ℕ) (n : ℕ) → n < length s → IsLeast (s ++ x) n → IsLeast s n
least_less s x n within least = record {
  within = within;
  before = λ k le. subst Begins (take-append-le k s x (omega (arith, le, within))) (least.before k le);
  there = λ t. least.there (subst Begins (sym (take-append-le (n + 1) s x (omega (arith, within)))) t);
}

none_less : (s x : List ℕ) → NoSeq (s ++ x) → NoSeq s
none_less s x none list final rest r =
    none list final (rest ++ x) (r.0, r.1, ap (λ (t : List ℕ). t ++ x) r.2 ∙ append_assoc r.0 rest x)

fault_less : (s x : List ℕ) (e : ReadError) (n : ℕ) → n < length s → IsMetAt e n → FaultOf (s ++ x) e → FaultOf s e
fault_less s x (NotCsi place) n within at f = (none_less s x f.0, (least_less s x place (omega (arith, within, at)) f.1.0, f.1.1))
fault_less s x (BadByte place) n within at f =
    let here : place < length s = omega (arith, within, at) in
    (none_less s x f.0, (least_less s x place here f.1.0, f.1.1, subst IsBad (get_or-append s x 0 place here) f.1.2))
fault_less s x (NumberTooLarge place) n within at f =
    let here : place < length s = omega (arith, within, at) in
    (none_less s x f.0, (least_less s x place here f.1.0, f.1.1, λ bad. f.1.2 (subst IsBad (sym (get_or-append s x 0 place here)) bad)))
fault_less s x _ n within at f = absurd at

malformed_less : (limit : ℕ) (s x : List ℕ) (n : ℕ) → n < length s → IsMalformed limit (s ++ x) n → IsMalformed limit s n
malformed_less limit s x n within (inl h) = inl (h.0, fault_less s x h.0 n within h.2 h.1, h.2, h.3)
malformed_less limit s x n within (inr h) =
    let long : limit ≤ length s = omega (arith, within, h.2) in
    inr (subst Begins (take-append-le limit s x long) h.0, long, h.2)

csi_less : (limit : ℕ) (s x : List ℕ) (k : Kind) (text : List ℕ) (a : Mode) → length text < length s → AllowsCsi limit (s ++ x) k text a → AllowsCsi limit s k text a
csi_less limit s x Kind.Csi text a within h = h
csi_less limit s x Kind.Other text a within h = (malformed_less limit s x (length text) within h.0, h.1)
csi_less limit s x _ text a within h = absurd h

allows_less : (f : Answer) (limit : ℕ) (s x : List ℕ) (k : Kind) (text : List ℕ) (a : Mode) → length text < length s → Allows f limit (s ++ x) k text a → Allows f limit s k text a
allows_less Sequence limit s x k text a within h = csi_less limit s x k text a within h
allows_less _ limit s x k text a within h = h

-- ---- what stands in front of two bytes at least

-- it takes two bytes, or isn't told
abbrev TakesTwo : Answer → Type 0
TakesTwo (More k n a) = 2 ≤ n
TakesTwo (Anew k n a) = 2 ≤ n
TakesTwo Sequence = ⊥
TakesTwo Undecided = Unit {0}

-- with more behind the rest it is the same, or it takes two where there was no rest
abbrev Near : List ℕ → Answer → Answer → Type 0
Near rest f g = (f ≡ g) ⊎ ((rest ≡ []) × TakesTwo g)

near_look : (m : Mode) (b c : ℕ) (rest more : List ℕ)
    → Near rest (meant m (look m (b ∷ c ∷ rest))) (meant m (look m (b ∷ c ∷ (rest ++ more))))
near_look m b c (d ∷ rest) more = inl refl
near_look m b c [] [] = inl refl
near_look m b c [] (d ∷ more) = grind arith

takes_two : (g : Answer) (limit : ℕ) (bytes : List ℕ) (k : Kind) (text : List ℕ) (a : Mode) → TakesTwo g
    → Allows g limit bytes k text a → 2 ≤ length text
takes_two (More j n b) limit bytes k text a h s = omega (arith, h, s.1)
takes_two (Anew j n b) limit bytes k text a h s = omega (arith, h, s.1)
takes_two Sequence limit bytes k text a h s = absurd h
takes_two Undecided limit bytes k text a h s = absurd s

by_two : (m : Mode) (b c : ℕ) (rest text x more : List ℕ) (limit : ℕ) (k : Kind) (a : Mode) → b ∷ c ∷ rest ≡ text ++ x → 0 < length x
    → Allows (ahead m ((text ++ x) ++ more)) limit ((text ++ x) ++ more) k text a
    → Allows (ahead m (text ++ x)) limit (text ++ x) k text a
by_two m b c rest text x more limit k a shape some s =
    let short = b ∷ c ∷ rest in
    let longer : ahead m ((text ++ x) ++ more) ≡ meant m (look m (short ++ more)) = ap (λ (t : List ℕ). ahead m (t ++ more)) (sym shape) ∙ found m (short ++ more) (look m (short ++ more)) refl in
    let shorter : meant m (look m short) ≡ ahead m (text ++ x) = sym (found m short (look m short) refl) ∙ ap (ahead m) shape in
    elim (near_look m b c rest more) [
      | inl e ↦ allows_less (ahead m (text ++ x)) limit (text ++ x) more k text a (omega (arith, some, length-append text x)) (subst (λ (f : Answer). Allows f limit ((text ++ x) ++ more) k text a) (longer ∙ sym e ∙ shorter) s)
      | inr h ↦
          let long = takes_two (meant m (look m (short ++ more))) limit ((text ++ x) ++ more) k text a h.1 (subst (λ (f : Answer). Allows f limit ((text ++ x) ++ more) k text a) longer s) in
          absurd (omega (arith, long, some, ap length shape, ap length h.0, length-append text x))
    ]

pub ahead_less : (m : Mode) (text x more : List ℕ) (limit : ℕ) (k : Kind) (a : Mode) → 0 < length text → 0 < length x
    → Allows (ahead m ((text ++ x) ++ more)) limit ((text ++ x) ++ more) k text a
    → Allows (ahead m (text ++ x)) limit (text ++ x) k text a
ahead_less m [] x more limit k a first some s = absurd (omega (arith, first))
ahead_less m (b ∷ text) [] more limit k a first some s = absurd (omega (arith, some))
ahead_less m (b ∷ []) (c ∷ x) more limit k a first some s = by_two m b c x (b ∷ []) (c ∷ x) more limit k a refl some s
ahead_less m (b ∷ c ∷ text) (d ∷ x) more limit k a first some s = by_two m b c (text ++ d ∷ x) (b ∷ c ∷ text)
    (d ∷ x) more limit k a refl some s
