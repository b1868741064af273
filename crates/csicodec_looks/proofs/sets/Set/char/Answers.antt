use Rattle.std.proofs.{Common.◌≡◌, Common.◌∙◌, Common.◌≤◌, Common.◌<◌, Common.◌-◌, Common.ℕ, Common.get_or, Common.ap, Common.sym, Common.arith}
use Rattle.std.proofs.{lemmas.Bool.Decides.nat_tests, lemmas.List.get_or_default}
use Rattle.csicodec_looks.specs.{Sets.char_in, Sets.graphics, declared.sets.Set.Set, declared.sets.Set.TheVariants.Graphics}
use Rattle.csicodec_looks.proofs.sets.Set.char.Goals as goal

in_table : (c : ℕ) → 95 ≤ c → c ≤ 126 → char_in Graphics c ≡ get_or graphics (c - 95) c
in_table c h k = grind (arith, nat_tests)

pub returns-in-Graphics : goal.returns-in-Graphics
returns-in-Graphics c =
    let few : c.args.char - 95 < 32 = omega (arith, c.if-char-le126.true) in
    ap (λ (k : ℕ). get_or graphics k 0) c.saturating_sub.ensures
    ∙ get_or_default graphics (c.args.char - 95) 0 c.args.char few
    ∙ sym (in_table c.args.char c.if-char-ge95.true c.if-char-le126.true)
    ∙ ap (λ (s : Set). char_in s c.args.char) (sym c.in-Graphics.is)
