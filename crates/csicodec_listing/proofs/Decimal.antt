-- How many digits a number has.
use Rattle.std.proofs.{Common.ℕ, Common.◌<◌, Common.◌≤◌, Common.◌^◌, Common.length, Common.rules, lemmas.Fmt.length-decimal-le}
use Rattle.std.specs.Fmt.{decimal}

-- one of 64 bits has at most 20
pub twenty_digits : (n : ℕ) → n < 2 ^ 64 → length (decimal n) ≤ 20
twenty_digits n small = search (rules, length-decimal-le 20)
