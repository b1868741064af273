-- Colours that are reduced are among those that stay.
use Rattle.std.proofs.Common.{◌≡◌, ◌<◌, ◌≤◌, ◌+◌, ℕ, zero, suc, false, arith}
use Rattle.csicodec_clean.proofs.Common.{cond_both, nat_tests, ColorSpec, SrgbaTuple, ColorInRange, ReadsAlone, canonical-alone, alone-only, reduced, Depth, hides}
use Rattle.csicodec_clean.proofs.Coded.{style_range}
use Rattle.csicodec_base.specs.declared.sgr.Sgr.{Sgr}
use Rattle.csicodec_looks.specs.Xterm.{nearer, nearest_among, nearest_of_16, nearest_of_256, reduced_color}
use Rattle.csicodec_looks.proofs.Reduced.{none_left, one_on}
use Rattle.csicodec_actions.specs.Actions as action

-- ---- within

below : (n : ℕ) (c : SrgbaTuple) (i j m : ℕ) → i < m → j + n ≤ m → nearest_among c i j n < m
below zero c i j m h k = rw (none_left c i j) h
below (suc n) c i j m h k = rw (one_on c i j n) (below n c (nearer c i j) (suc j) m (cond_both _ j i (λ x. x < m) (λ _. omega (arith, k)) (λ _. h)) (omega (arith, k)))

pub below_256 : (c : SrgbaTuple) → nearest_of_256 c < 256
below_256 c = below 239 c 16 17 256 (omega arith) (omega arith)

pub below_16 : (c : SrgbaTuple) → nearest_of_16 c < 16
below_16 c = below 15 c 0 1 16 (omega arith) (omega arith)

-- ---- colours that stay

in_range : (d : Depth) (c : ColorSpec) → ColorInRange c → ColorInRange (reduced_color d c)
in_range d c h = grind (arith, nat_tests, below_16, below_256)

color_twice : (d : Depth) (c : ColorSpec) → reduced_color d (reduced_color d c) ≡ reduced_color d c
color_twice d c = grind (arith, nat_tests, below_16)

-- ---- attributes

pub reduced_twice : (d : Depth) (s : Sgr) → reduced d (reduced d s) ≡ reduced d s
reduced_twice d s = grind (arith, color_twice)

pub reduced_hides : (d : Depth) (s : Sgr) → hides (reduced d s) ≡ hides s
reduced_hides d s = grind arith

pub reduced_alone : (d : Depth) (s : Sgr) → ReadsAlone (action.Sgr s) false → ReadsAlone (action.Sgr (reduced d s)) false
reduced_alone d (Sgr.Foreground c) h = alone-only false _ (canonical-alone (action.Sgr (Sgr.Foreground (reduced_color d c))) false (in_range d c (style_range (Sgr.Foreground c) h)) tt)
reduced_alone d (Sgr.Background c) h = alone-only false _ (canonical-alone (action.Sgr (Sgr.Background (reduced_color d c))) false (in_range d c (style_range (Sgr.Background c) h)) tt)
reduced_alone d (Sgr.UnderlineColor c) h = alone-only false _ (canonical-alone (action.Sgr (Sgr.UnderlineColor (reduced_color d c))) false (in_range d c (style_range (Sgr.UnderlineColor c) h)) tt)
reduced_alone d s h = h
