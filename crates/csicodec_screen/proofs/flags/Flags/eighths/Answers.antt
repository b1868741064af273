use Rattle.std.proofs.Common.{◌≡◌, ◌∙◌, ◌++◌, ◌+◌, ◌-◌, ◌<◌, ◌∷◌, [], ℕ, suc, Bool, List, ap, sym, arith, append_assoc, rules}
use Rattle.std.specs.Prelude.{nat_lt, ◌&&◌, ◌==◌, ◌%◌}
use Rattle.csicodec_screen.specs.Screen.{eighths}
use Rattle.csicodec_screen.proofs.flags.Flags.eighths.Goals as goal

one_more : (flags new : List Bool) (i n : ℕ) (b : Bool) (all : List Bool) → i < n → b ≡ (nat_lt 0 i && i % 8 == 0) → new ≡ flags ++ (b ∷ []) → flags ++ eighths i (n - i) ≡ all
    → new ++ eighths (i + 1) (n - (i + 1)) ≡ all
one_more flags new i n b all h is e k =
    let many : n - i ≡ suc (n - (i + 1)) = omega (arith, h) in
    ap (λ (v : List Bool). v ++ eighths (i + 1) (n - (i + 1))) e
    ∙ append_assoc flags (b ∷ []) (eighths (i + 1) (n - (i + 1)))
    ∙ ap (λ (z : Bool). flags ++ (z ∷ eighths (i + 1) (n - (i + 1)))) is
    ∙ ap (λ (m : ℕ). flags ++ eighths i m) (sym many)
    ∙ k

pub loop-i-preserved : goal.loop-i-preserved
loop-i-preserved c =
    let pushed : c.push.new.self.items ≡ c.loop-i.flags.items ++ (c.is_eighth.result ∷ []) = search rules in
    one_more c.loop-i.flags.items c.push.new.self.items c.loop-i.i c.args.count c.is_eighth.result (eighths 0 c.args.count) c.loop-i-test.true c.is_eighth.ensures pushed c.loop-i.invariant
