-- From the mask of one load to the bytes in front that are of a class.
use Rattle.std.proofs.Common.{◌≡◌, ℕ, ◌+◌, ◌%◌, ◌^◌, ◌<◌, ◌≤◌, Bool, true, not, cond, List, [], ◌∷◌, map, length, get_or, take, Fits, w8, refl, ap, ◌∙◌, arith}
use Rattle.std.proofs.{lemmas.Bool.agree_below, lemmas.Bool.agree_below_at, lemmas.List.length-map, lemmas.List.length-take-le, lemmas.Simd.chunk-fits}
use Rattle.std.proofs.{lemmas.Simd.first_set_mask_l, lemmas.Simd.map-map, lemmas.Simd.mask_l-mod}
use Rattle.std.specs.List.{prefix_len}
use lib.Lanes.{Each1, mask_l, top}
use Rattle.csicodec_tokens.specs.Private.Walking.{first_set}

same_front : (p q : ℕ → Bool) (v : List ℕ) → ((x : ℕ) → x < 256 → p x ≡ q x) → Each1 (Fits w8) v → prefix_len p v ≡ prefix_len q v
same_front p q [] same fits = refl
same_front p q (x ∷ xs) same fits = ap (λ b. cond b (1 + prefix_len p xs) 0) (same x fits.0.fits) ∙ ap (λ n. cond (q x) (1 + n) 0) (same_front p q xs same fits.1)

module _ (p : ℕ → Bool) (d : List ℕ) (r : ℕ) (z : List ℕ) (room : 16 ≤ length d) (fits : (k : ℕ) → Fits w8 (get_or d k 0)) (found : r ≡ first_set (mask_l (map (top 7) z) % 2 ^ 64))
    (f : ℕ → ℕ) (lanes : z ≡ map f (take 16 d)) where
  abbrev stops : ℕ → Bool
  stops x = top 7 (f x)

  -- where the lanes that stop are those of the bytes outside of the class
  pub counted : agree_below (λ x. not (stops x)) p 256 ≡ true → r ≡ prefix_len p (take 16 d)
  counted all =
      let v = take 16 d in
      let long : length v ≡ 16 = length-take-le 16 d room in
      let mask = ap (λ l. mask_l l % 2 ^ 64) (ap (map (top 7)) lanes ∙ map-map (top 7) f v) ∙ mask_l-mod (map stops v) 64 (omega (arith, length-map v stops, long)) in
      found ∙ ap first_set mask ∙ first_set_mask_l stops v 16 long (omega arith)
      ∙ same_front (λ x. not (stops x)) p v (λ x low. agree_below_at (λ y. not (stops y)) p 256 x all low) (chunk-fits w8 0 16 d fits)
