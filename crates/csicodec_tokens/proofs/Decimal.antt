-- The decimal text of a number, digit by digit.
use Rattle.std.proofs.Common.{ℕ, ◌≡◌, ◌≤◌, ◌<◌, ◌+◌, ◌/◌, ◌%◌, ◌^◌, [], ◌∷◌, ◌∙◌, ap, append_assoc, length, length-append, arith, refl}
use Rattle.std.proofs.lemmas.Fmt.{decimal_digit, decimal_step, length-decimal-le}
use Rattle.std.specs.Fmt.{decimal}

pub two_digits : (n : ℕ) → 10 ≤ n → n < 100 → decimal n ≡ (48 + n / 10) ∷ (48 + n % 10) ∷ []
two_digits n above below = rw (decimal_step n above (omega arith), decimal_digit (n / 10) (omega arith)) refl

pub three_digits : (n : ℕ) → 100 ≤ n → n < 1000 → decimal n ≡ (48 + n / 100) ∷ (48 + n / 10 % 10) ∷ (48 + n % 10) ∷ []
three_digits n above below =
    let hundreds : n / 10 / 10 ≡ n / 100 = omega arith in
    rw (decimal_step n (omega arith) (omega arith), two_digits (n / 10) (omega arith) (omega arith), hundreds) refl

pub length-decimal_digit : (n : ℕ) → n < 10 → length (decimal n) ≡ 1
length-decimal_digit n below = ap length (decimal_digit n below)

pub length-decimal_step : (n : ℕ) → 10 ≤ n → n < 2 ^ 64 → length (decimal n) ≡ length (decimal (n / 10)) + 1
length-decimal_step n above fits = ap length (decimal_step n above fits) ∙ length-append (decimal (n / 10)) ((48 + n % 10) ∷ [])

pub length-decimal_u16 : (n : ℕ) → n < 2 ^ 16 → length (decimal n) ≤ 5
length-decimal_u16 n fits = length-decimal-le 5 n (omega arith) (omega arith) (omega arith)

pub length-decimal_u32 : (n : ℕ) → n < 2 ^ 32 → length (decimal n) ≤ 10
length-decimal_u32 n fits = length-decimal-le 10 n (omega arith) (omega arith) (omega arith)

pub length-decimal_i64 : (n : ℕ) → n ≤ 2 ^ 63 → length (decimal n) ≤ 19
length-decimal_i64 n fits = length-decimal-le 19 n (omega arith) (omega arith) (omega arith)

pub length-decimal_u64 : (n : ℕ) → n < 2 ^ 64 → length (decimal n) ≤ 20
length-decimal_u64 n fits = length-decimal-le 20 n (omega arith) (omega arith) fits

-- how long a text of parts is, with a number among them
pub ruleset lengths = (length-append, length-decimal_u16, length-decimal_u32, length-decimal_i64, length-decimal_u64)

-- the text of a number of three digits at most
pub ruleset digits = (append_assoc, decimal_digit, two_digits, three_digits)

-- the text of a number, and how long it is, by its last digit
pub ruleset steps = (append_assoc, length-append, decimal_digit, decimal_step, length-decimal_digit, length-decimal_step)
