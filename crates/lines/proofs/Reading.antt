-- Requests are read as they are written.
use Rattle.std.proofs.Common.{◌≡◌, ℕ, ◌^◌, ◌<◌, ◌≤◌, true, length, Some, decimal, refl, ap, arith, rules, le-leb}
use Rattle.std.specs.Int.Digits.{number_from_digits, number_from_digits_after}
use Rattle.std.proofs.lemmas.Fmt.{digits_decimal, digits_value-decimal, decimal_nonempty, length-decimal-le}
use Rattle.std.proofs.lemmas.Str.Parse.{IsNumeralModel, numerals_by_fold}
use Rattle.std.specs.List.{list_all}
use Rattle.decimal.specs.Digits.{is_digit, values}
use Rattle.lines.specs.Asking.{amount_of, spend_of, RequestsRead}

-- text of digits and the number that it spells, in the words of the definitions here
numerals : IsNumeralModel (λ ds. list_all is_digit ds ≡ true) (λ ds. number_from_digits 10 (values ds))
numerals = numerals_by_fold _ (search rules) (λ n ds. number_from_digits_after 10 n (values ds)) (search rules)

amount_decimal : (n : ℕ) → n < 10 ^ 9 → amount_of (decimal n) ≡ Some n
unfolding amount_of
amount_decimal n h =
    let k : n < 2 ^ 64 = omega arith in
    let low : 1 ≤ length (decimal n) = decimal_nonempty n k in
    let high : length (decimal n) ≤ 9 = length-decimal-le 9 n (omega arith) h k in
    rw (le-leb 1 (length (decimal n)) low, le-leb (length (decimal n)) 9 high, digits_decimal numerals n k, digits_value-decimal numerals n k)

pub requests_read : RequestsRead
requests_read = (λ text. refl, λ amount h. ap spend_of (amount_decimal amount h))
