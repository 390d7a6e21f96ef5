-- From text to blocks. The rules of one group, by its place i from 0, over the digits of the whole entry: before, body, sealed_at,
-- number_at, offset, lowest, is_block, has_block, block_at. The four tests of an entry's text: grouped, all_digits, all_sealed, all_blocks. What it
-- carries: blocks_in; what it comes to: blocks_of; what is known of blocks that were read: Sound. One group by itself,
-- with the check digit before it: checked_group.
use Rattle.std.specs.Prelude.{ℕ, zero, suc, ◌+◌, ◌-◌, ◌*◌, ◌/◌, ◌^◌, ◌≤◌, Bool, ◌&&◌, ◌||◌, List, ◌++◌, map, length, take, Some, None, Ok, Option, Result, ◌==◌, nat_le, nat_lt, slice_index}
use Rattle.std.specs.List.{between, range_with_len}
use Rattle.std.specs.Int.Digits.{number_from_digits, AllBelowBase}
use Rattle.refusal.specs.declared.Refusal.{Refusal}
use Rattle.refusal.specs.declared.Refusal.TheVariants.{Length, NotADigit, CheckDigit, NoBlock}
use Rattle.refusal.specs.Checks.{provided}
use Rattle.arrayvec.specs.ArrayVec.{ArrayVec}
use Rattle.std.specs.List.{list_all}
use Rattle.decimal.specs.Digits.{is_digit, up_to, values}
use Rattle.decimal.specs.CheckDigits.{front, check_digit}

-- what the number of a first group is where its block is 0
abbrev pub offset : ℕ
offset = 7394156990786306048

-- the check digit of the group before; none before the first
abbrev pub before : List ℕ → ℕ → Option ℕ
before ds zero = None
before ds (suc i) = Some (slice_index ds (20 * i + 19))

-- the nineteen digits that spell the number of a group
abbrev pub body : List ℕ → ℕ → List ℕ
body ds i = between (20 * i) (20 * i + 19) ds

-- A group ends in the check digit of its nineteen digits, with the check digit before the group set in front of them.
unfoldable pub sealed_at : List ℕ → ℕ → Bool
sealed_at ds i = slice_index ds (20 * i + 19) == check_digit (front (before ds i) ++ body ds i)

unfoldable pub number_at : List ℕ → ℕ → ℕ
number_at ds i = number_from_digits 10 (body ds i)

-- the number of a group whose block is 0: only the first group's numbers start at the offset
abbrev pub lowest : ℕ → ℕ
lowest zero = offset
lowest (suc i) = 0

abbrev pub is_block : ℕ → Bool
is_block b = nat_lt b (2 ^ 61)

-- The number of a group, less the lowest, is a block.
unfoldable pub has_block : List ℕ → ℕ → Bool
has_block ds i = nat_le (lowest i) (number_at ds i) && is_block (number_at ds i - lowest i)

abbrev pub block_at : List ℕ → ℕ → ℕ
block_at ds i = number_at ds i - lowest i

-- One to four groups of twenty.
unfoldable pub grouped : List ℕ → Bool
grouped text = length text == 20 || length text == 40 || length text == 60 || length text == 80

unfoldable pub all_digits : List ℕ → Bool
all_digits text = list_all is_digit text

unfoldable pub all_sealed : List ℕ → Bool
all_sealed text = up_to (sealed_at (values text)) (length text / 20)

unfoldable pub all_blocks : List ℕ → Bool
all_blocks text = up_to (has_block (values text)) (length text / 20)

-- The blocks, one for each group.
unfoldable pub blocks_in : List ℕ → List ℕ
blocks_in text = map (block_at (values text)) (range_with_len 0 (length text / 20))

-- An entry is refused for the first of the four tests that fails of the whole of it; else it comes to its blocks.
unfoldable pub blocks_of : List ℕ → Result (ArrayVec ℕ) Refusal
blocks_of text =
    provided (grouped text) Length
    (provided (all_digits text) NotADigit
    (provided (all_sealed text) CheckDigit
    (provided (all_blocks text) NoBlock
    (Ok (record { items = blocks_in text })))))

-- One to four blocks below 2^61.
pub record Sound (blocks : List ℕ) : Type 0 where
  pub some : 1 ≤ length blocks
  pub most : length blocks ≤ 4
  pub below : AllBelowBase (2 ^ 61) blocks

-- The tests of digits and of the check digit for the text of one group; where both hold, its own check digit.
unfoldable pub checked_group : Option ℕ → List ℕ → Result ℕ Refusal
checked_group earlier text =
    provided (list_all is_digit text) NotADigit
    (provided (slice_index (values text) 19 == check_digit (front earlier ++ take 19 (values text))) CheckDigit
    (Ok (slice_index (values text) 19)))
