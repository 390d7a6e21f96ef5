-- An amount of at most nine digits fits 32 bits: fits.
use Rattle.std.proofs.Common.{◌≡◌, ℕ, ◌^◌, ◌<◌, ◌≤◌, true, List, length, arith}
use native.Mathlib.Nat.{pow-le-pow_right}
use Rattle.std.specs.Int.Digits.{number_from_digits}
use Rattle.std.proofs.lemmas.Int.Digits.{number_lt}
use Rattle.std.proofs.lemmas.List.{length-map}
use Rattle.std.specs.List.{list_all}
use Rattle.decimal.specs.Digits.{is_digit, values}
use Rattle.decimal.proofs.Spelling.{under-values}

pub fits : (t : List ℕ) → length t ≤ 9 → list_all is_digit t ≡ true → number_from_digits 10 (values t) < 2 ^ 32
fits t h d =
    let b = number_lt 10 (values t) (under-values t d) in
    let l : length (values t) ≤ 9 = simp length-map h in
    let top : 10 ^ length (values t) ≤ 10 ^ 9 = pow-le-pow_right (omega arith) l in
    omega (arith, b, top)
