-- Rate prices as data parts: first_part_fields, second_part_fields, third_part_fields, three, parts, fits, written, held, holding.
-- Data parts as rate prices: lawful, prices_in, spelled, from_fields, tariff_in.
-- Reads, parts that are those of prices; the laws Back and Only, and Judged and ReadBack, which say them of one answer.
use Rattle.std.specs.Prelude.{◌≡◌, ℕ, ◌+◌, ◌-◌, ◌^◌, Bool, true, cond, ◌&&◌, List, [], ◌∷◌, length, take, Some, None, Ok, Err, Option, Result, ◌==◌, ◌≢◌, nat_le, slice_index}
use mir.Val.{bool_byte}
use Rattle.refusal.specs.declared.Refusal.{Refusal}
use Rattle.refusal.specs.declared.Refusal.TheVariants.{RatePrices}
use Rattle.token.specs.Widths.{packed, unpacked}
use Rattle.token.specs.Limits.{under}
use Rattle.token.specs.Tariffs.{tariff_of}
use Rattle.token.specs.RateLayout.{first_part_widths, second_part_widths, third_part_widths, part_count, size_in}
use Rattle.token.specs.declared.tariff.Tariff.{Tariff}
use Rattle.token.specs.declared.parts.Parts.{Parts}

-- what the first part holds, with type and sub-information 1; `bool_byte` of a flag is 0 or 1
abbrev pub first_part_fields : Tariff → ℕ → List ℕ
first_part_fields t size =
    bool_byte t.complete ∷ 1 ∷ 1 ∷ t.month ∷ (t.count - 1) ∷ t.multiplier ∷ size ∷ slice_index t.prices 0 ∷ slice_index t.prices 1 ∷ 0 ∷ []

-- what the second part holds
abbrev pub second_part_fields : Tariff → List ℕ
second_part_fields t = slice_index t.prices 2 ∷ slice_index t.prices 3 ∷ slice_index t.prices 4 ∷ slice_index t.prices 5 ∷ 0 ∷ []

-- what the third part holds
abbrev pub third_part_fields : Tariff → List ℕ
third_part_fields t = slice_index t.prices 6 ∷ slice_index t.prices 7 ∷ 0 ∷ []

-- the three parts that eight prices take
abbrev pub three : Tariff → ℕ → List ℕ
three t size =
    packed (first_part_widths size) (first_part_fields t size) ∷ packed (second_part_widths size) (second_part_fields t) ∷ packed (third_part_widths size) (third_part_fields t) ∷ []

-- the data parts that the prices take
unfoldable pub parts : Tariff → ℕ → List ℕ
parts t size = take (part_count t.count) (three t size)

-- a size code from 0 to 3, and every price fits its field
abbrev pub fits : Tariff → ℕ → Bool
fits t size = nat_le size 3 && under (2 ^ (11 + size)) t.prices

-- the data parts, where the prices fit
abbrev pub written : Tariff → ℕ → Option (List ℕ)
written t size = cond (fits t size) (Some (parts t size)) None

-- the parts that the code made, as a list
abbrev pub held : Parts → List ℕ
held p = p.items

-- the same, where the code made parts
abbrev pub holding : Option Parts → Option (List ℕ)
holding None = None
holding (Some p) = Some (held p)

-- type and sub-information are 1, unused bits are zero, and there are as many parts as the prices take
abbrev pub lawful : ℕ → List ℕ → List ℕ → List ℕ → Bool
lawful n a b c =
    (slice_index a 1 == 1 && slice_index a 2 == 1) && (slice_index a 9 == 0 && slice_index b 4 == 0 && slice_index c 2 == 0)
    && n == part_count (slice_index a 4 + 1)

-- the prices in the fields of three parts
abbrev pub prices_in : List ℕ → List ℕ → List ℕ → List ℕ
prices_in a b c =
    slice_index a 7 ∷ slice_index a 8 ∷ slice_index b 0 ∷ slice_index b 1 ∷ slice_index b 2 ∷ slice_index b 3 ∷ slice_index c 0 ∷ slice_index c 1 ∷ []

-- the tariff that the fields of three parts spell, if it keeps its limits
abbrev pub spelled : List ℕ → List ℕ → List ℕ → Option Tariff
spelled a b c = tariff_of (slice_index a 0 == 1) (slice_index a 3) (slice_index a 5) (slice_index a 4 + 1) (prices_in a b c)

-- the rate prices in the fields of n parts
abbrev pub from_fields : ℕ → List ℕ → List ℕ → List ℕ → Option Tariff
from_fields n a b c = cond (lawful n a b c) (spelled a b c) None

-- the rate prices in data parts; a part that is not there reads as zero
unfoldable pub tariff_in : List ℕ → Option Tariff
tariff_in ps =
    from_fields (length ps)
    (unpacked (first_part_widths (size_in ps)) (slice_index ps 0))
    (unpacked (second_part_widths (size_in ps)) (slice_index ps 1))
    (unpacked (third_part_widths (size_in ps)) (slice_index ps 2))

-- Prices that fit their size are read back.
abbrev pub Back : Type 0
Back = (t : Tariff) (size : ℕ) → fits t size ≡ true → tariff_in (parts t size) ≡ Some t

-- Data parts are those of the prices, at the size that they name.
pub record Reads (ps : List ℕ) (t : Tariff) : Type 0 where
  pub same : ps ≡ parts t (size_in ps)
  pub fitting : fits t (size_in ps) ≡ true

-- Data parts of 59 bits that are taken are those of the prices read: nothing else is taken.
abbrev pub Only : Type 0
Only = (ps : List ℕ) (t : Tariff) → under (2 ^ 59) ps ≡ true → tariff_in ps ≡ Some t → Reads ps t

-- Parts are taken for the prices whose parts they are, and refused where there are no such prices.
abbrev pub Judged : List ℕ → Result Tariff Refusal → Type 0
Judged ps (Ok t) = under (2 ^ 59) ps ≡ true → Reads ps t
Judged ps (Err e) = (e ≡ RatePrices) × ((t : Tariff) (size : ℕ) → fits t size ≡ true → ps ≢ parts t size)

-- Parts that were made are read back.
abbrev pub ReadBack : Tariff → Option Parts → Type 0
ReadBack t None = Unit {0}
ReadBack t (Some p) = tariff_in (held p) ≡ Some t
