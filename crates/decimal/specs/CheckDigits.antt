-- The check digit of a row of decimal digits, by Verhoeff's rule: product, mapped, passes, running, whole, inverse, check_digit;
-- what makes it the right one: Checks; the check digit of a row of text: front, DigitBefore, check_digit_after.
use Rattle.std.specs.Prelude.{◌≡◌, ℕ, zero, suc, ◌+◌, ◌-◌, ◌%◌, ◌<◌, cond, List, [], ◌∷◌, ◌++◌, Some, None, Option, nat_lt, slice_index}
use Rattle.std.specs.List.{list_all}
use Rattle.decimal.specs.Digits.{is_digit, values}

-- The product of two digits, a times b. `a + 5 - b` is `a - b` counted round five, without falling below 0.
unfoldable pub product : ℕ → ℕ → ℕ
product a b =
    cond (nat_lt a 5)
    (cond (nat_lt b 5) ((a + b) % 5) (5 + (a + b) % 5))
    (cond (nat_lt b 5) (5 + (a + 5 - b) % 5) ((a + 5 - b) % 5))

-- One pass of a digit through the map.
unfoldable pub mapped : ℕ → ℕ
mapped d = slice_index (1 ∷ 5 ∷ 7 ∷ 6 ∷ 2 ∷ 8 ∷ 3 ∷ 0 ∷ 9 ∷ 4 ∷ []) d

-- So many passes.
unfoldable pub passes : ℕ → ℕ → ℕ
passes zero d = d
passes (suc k) d = passes k (mapped d)

-- The running product over digits, the first of which stands at a place, counted from 0 at the left.
unfoldable pub running : ℕ → ℕ → List ℕ → ℕ
running place p [] = p
running place p (d ∷ ds) = running (suc place) (product p (passes place d)) ds

-- The product of a whole row.
unfoldable pub whole : List ℕ → ℕ
whole ds = running 0 0 ds

-- The digit that brings a product to 0: from 5 on the product itself, below 5 what is missing to 5.
abbrev pub inverse : ℕ → ℕ
inverse p = cond (nat_lt p 5) ((5 - p) % 5) p

unfoldable pub check_digit : List ℕ → ℕ
check_digit ds = inverse (whole ds)

-- What a check digit is: the one digit that, multiplied on the right, brings the product of the row to 0.
pub record Checks (ds : List ℕ) (r : ℕ) : Type 0 where
  pub digit : r < 10
  pub closes : product (whole ds) r ≡ 0
  pub only : (d : ℕ) → d < 10 → product (whole ds) d ≡ 0 → d ≡ r

-- What is set in front of a row: the check digit before it, if there is one.
abbrev pub front : Option ℕ → List ℕ
front None = []
front (Some d) = d ∷ []

abbrev pub DigitBefore : Option ℕ → Type 0
DigitBefore None = Unit {0}
DigitBefore (Some d) = d < 10

-- The check digit of a row of text with a digit set in front; none where a byte is no digit.
unfoldable pub check_digit_after : Option ℕ → List ℕ → Option ℕ
check_digit_after before text = cond (list_all is_digit text) (Some (check_digit (front before ++ values text))) None
