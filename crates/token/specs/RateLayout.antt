-- How rate prices lie in data parts of 59 bits: first_part_widths, second_part_widths, third_part_widths, part_count, size_in_part, size_in; and how
-- small what is read there is: PricesSmall, FieldsSmall.
use Rattle.std.specs.Prelude.{ℕ, zero, suc, ◌+◌, ◌-◌, ◌*◌, ◌/◌, ◌%◌, ◌^◌, ◌<◌, cond, List, [], ◌∷◌, nat_le, slice_index, slice_index_or}

-- complete, type, sub-information, month, number code, multiplier code, size code, two prices, and bits that are unused
abbrev pub first_part_widths : ℕ → List ℕ
first_part_widths size = 1 ∷ 4 ∷ 4 ∷ 6 ∷ 4 ∷ 3 ∷ 2 ∷ (11 + size) ∷ (11 + size) ∷ (13 - 2 * size) ∷ []

-- four prices, and bits that are unused
abbrev pub second_part_widths : ℕ → List ℕ
second_part_widths size = (11 + size) ∷ (11 + size) ∷ (11 + size) ∷ (11 + size) ∷ (15 - 4 * size) ∷ []

-- two prices, and bits that are unused
abbrev pub third_part_widths : ℕ → List ℕ
third_part_widths size = (11 + size) ∷ (11 + size) ∷ (37 - 2 * size) ∷ []

-- how many parts so many prices take
abbrev pub part_count : ℕ → ℕ
part_count count = cond (nat_le count 2) 1 (cond (nat_le count 6) 2 3)

-- the size code that a first part names, in its bits 35 and 36
abbrev pub size_in_part : ℕ → ℕ
size_in_part word = word / 2 ^ 35 % 4

-- and the first of some parts
abbrev pub size_in : List ℕ → ℕ
size_in parts = size_in_part (slice_index parts 0)

-- the prices in so many fields from a place on have at most fourteen bits
abbrev pub PricesSmall : ℕ → ℕ → List ℕ → Type 0
PricesSmall from zero fields = Unit {0}
PricesSmall from (suc n) fields = (slice_index fields from < 2 ^ 14) × PricesSmall (suc from) n fields

-- what the fields of a first part are below, whatever its size code
pub record FieldsSmall (fields : List ℕ) : Type 0 where
  pub month : slice_index_or fields 3 0 < 64
  pub number : slice_index_or fields 4 0 < 16
  pub multiplier : slice_index_or fields 5 0 < 8
  pub prices : PricesSmall 7 2 fields
