-- The limits of rate prices, as tests: under, unused_zero, priced, tariffable.
-- It names no type of the crate, so that the types can cite it.
use Rattle.std.specs.Prelude.{ℕ, ◌^◌, Bool, ◌&&◌, List, length, drop, ◌==◌, nat_le, nat_lt}
use Rattle.std.specs.List.{list_all}

-- each is below the limit
abbrev pub under : ℕ → List ℕ → Bool
under limit xs = list_all (λ x. nat_lt x limit) xs

-- those after the first n are 0
abbrev pub unused_zero : ℕ → List ℕ → Bool
unused_zero n prices = list_all (λ p. p == 0) (drop n prices)

-- eight prices of at most fourteen bits, those after the count zero
abbrev pub priced : ℕ → List ℕ → Bool
priced count prices = length prices == 8 && under (2 ^ 14) prices && unused_zero count prices

-- a month of six bits, a multiplier code from 0 to 6, and one to eight prices
abbrev pub tariffable : ℕ → ℕ → ℕ → List ℕ → Bool
tariffable month multiplier count prices =
    (nat_lt month 64 && nat_le multiplier 6) && (nat_lt 0 count && nat_le count 8) && priced count prices
