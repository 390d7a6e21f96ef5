-- Decimal text and digits: is_digit (a byte is a decimal digit), values (the digits of text), spelled (the text of digits), padded
-- (the digits of a number); number_in (the number that text spells); up_to (a test that holds of all numbers below a bound).
use Rattle.std.specs.Prelude.{ℕ, zero, suc, ◌+◌, ◌-◌, ◌/◌, ◌%◌, Bool, true, cond, ◌&&◌, List, [], ◌∷◌, ◌++◌, length, map, Option, Some, None, nat_le}
use Rattle.std.specs.Int.Digits.{number_from_digits}
use Rattle.std.specs.List.{list_all}

-- from '0', which is the byte 48, to '9'
abbrev pub is_digit : ℕ → Bool
is_digit byte = nat_le 48 byte && nat_le byte 57

abbrev pub up_to : (ℕ → Bool) → ℕ → Bool
up_to test zero = true
up_to test (suc n) = test n && up_to test n

abbrev pub values : List ℕ → List ℕ
values text = map (λ byte. byte - 48) text

abbrev pub spelled : List ℕ → List ℕ
spelled digits = map (λ digit. digit + 48) digits

-- The last so many digits of a number in a base, the highest first, zeros in front where it has fewer.
unfoldable pub padded : ℕ → ℕ → ℕ → List ℕ
padded b zero n = []
padded b (suc k) n = padded b k (n / b) ++ (n % b ∷ [])

-- Up to nineteen decimal digits spell a number, the highest first, and none spell 0. Nothing else does.
unfoldable pub number_in : List ℕ → Option ℕ
number_in text = cond (nat_le (length text) 19 && list_all is_digit text) (Some (number_from_digits 10 (values text))) None
