-- What is done so many times.
use Rattle.std.proofs.Common.{◌≡◌, ◌∙◌, ◌<◌, ◌≤◌, ◌+◌, ◌-◌, ℕ, suc, ap, sym, arith}
use Rattle.csicodec_screen.specs.{Draws.times, declared.screen.Screen.Screen}

-- a loop goes on by one
pub times_more : (f : Screen → Screen) (n i : ℕ) (s t : Screen) → i < n → t ≡ f s → times (n - (i + 1)) f t ≡ times (n - i) f s
times_more f n i s t h e =
    let many : n - i ≡ suc (n - (i + 1)) = omega (arith, h) in
    ap (times (n - (i + 1)) f) e ∙ ap (λ (m : ℕ). times m f s) (sym many)

-- and is over
pub times_done : (f : Screen → Screen) (n i : ℕ) (s : Screen) → n ≤ i → times (n - i) f s ≡ s
times_done f n i s h =
    let none : n - i ≡ 0 = omega (arith, h) in
    ap (λ (m : ℕ). times m f s) none
