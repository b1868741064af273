-- The printed text of a list is one of its spellings.
use Rattle.std.proofs.Common.{◌≡◌, ℕ, pos, negsuc, ◌^◌, ◌<◌, ◌≤◌, List, [], ◌∷◌, ◌++◌, refl, sym, ap, arith, rules}
use Rattle.std.proofs.{lemmas.Fmt.digits_decimal, lemmas.Fmt.digits_value-decimal, lemmas.Fmt.decimal_nonempty, lemmas.Int.ints, lemmas.Str.encode_ascii}
use Rattle.std.proofs.{lemmas.Str.Parse.IsNumeralModel, lemmas.Str.Parse.numerals_by_fold}
use Rattle.std.specs.{Fmt.decimal, Prelude.encode_utf8}
use Rattle.csicodec_tokens.specs.{declared.param.CsiParam.CsiParam, declared.param.CsiParam.TheVariants.Integer, declared.param.CsiParam.TheVariants.P}
use Rattle.csicodec_tokens.specs.{Digits.AreDigits, Digits.value_after, Digits.value, Digits.largest, Param.spells, Sequence.Spells, Sequence.Spellable}
use Rattle.csicodec_tokens.proofs.Reading.{not_above}

own : IsNumeralModel AreDigits value
own = numerals_by_fold AreDigits (search rules) value_after (search rules)

pub printed : (list : List CsiParam) → Spellable list → Spells (spells list) list
printed [] can = refl
printed (Integer (pos n) ∷ list) can =
    let le : n ≤ largest = not_above n (pos n) refl can.0.1 in
    let small : n < 2 ^ 64 = omega arith in
    (decimal n, spells list, refl, (decimal_nonempty n small, digits_decimal own n small, ap pos (sym (digits_value-decimal own n small))), printed list can.2)
printed (Integer (negsuc n) ∷ list) can = absurd (omega (arith, ints, can.0.0))
printed (P b ∷ list) can =
    (b ∷ [], spells list, ap (λ (t : List ℕ). t ++ spells list) (encode_ascii b (omega (arith, can.0.0))), refl, printed list can.2)
