-- From blocks to text: seal_of, group_of, groups_after, numbers_of, text_of; which blocks can be written: writable; the bytes of a
-- slip: slip_of.
use Rattle.std.specs.Prelude.{ℕ, ◌+◌, ◌-◌, ◌*◌, Bool, ◌&&◌, List, [], ◌∷◌, ◌++◌, length, replicate, Some, None, Option, nat_le}
use Rattle.std.specs.List.{list_all}
use Rattle.decimal.specs.Digits.{spelled, padded}
use Rattle.decimal.specs.CheckDigits.{front, check_digit}
use Rattle.decimal.specs.Groups.{offset, is_block}

-- the check digit of a number's nineteen digits, with the check digit before them set in front
abbrev pub seal_of : Option ℕ → ℕ → ℕ
seal_of earlier n = check_digit (front earlier ++ padded 10 19 n)

-- a number as the twenty digits of a group
abbrev pub group_of : Option ℕ → ℕ → List ℕ
group_of earlier n = padded 10 19 n ++ (seal_of earlier n ∷ [])

-- Numbers as groups, one after the other.
unfoldable pub groups_after : Option ℕ → List ℕ → List ℕ
groups_after earlier [] = []
groups_after earlier (n ∷ ns) = group_of earlier n ++ groups_after (Some (seal_of earlier n)) ns

-- the number of each block: only the first has the offset added
abbrev pub numbers_of : List ℕ → List ℕ
numbers_of [] = []
numbers_of (b ∷ bs) = (offset + b) ∷ bs

unfoldable pub text_of : List ℕ → List ℕ
text_of bs = spelled (groups_after None (numbers_of bs))

-- One to four blocks, each below 2^61.
unfoldable pub writable : List ℕ → Bool
writable bs = nat_le 1 (length bs) && nat_le (length bs) 4 && list_all is_block bs

-- The eighty bytes of a slip: the text first, the rest zero.
abbrev pub slip_of : List ℕ → List ℕ
slip_of bs = text_of bs ++ replicate (80 - 20 * length bs) 0
