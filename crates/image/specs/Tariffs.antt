-- A tariff in twenty bytes: complete, month, multiplier code, count, and eight prices of two bytes. flag_of; pairs,
-- halves, numbers of two bytes; all_zero; tariff_in, the tariff that bytes tell; tariff_bytes, the bytes of a tariff.
use Rattle.std.specs.Prelude.{ℕ, ◌+◌, ◌*◌, ◌/◌, ◌%◌, Bool, true, false, cond, List, [], ◌∷◌, drop, replicate, Some, None, Option, ◌==◌, slice_index}
use Rattle.std.specs.List.{list_all}
use Rattle.token.specs.Tariffs.{tariff_of}
use Rattle.token.specs.declared.tariff.Tariff.{Tariff}
use Rattle.fields.specs.Options.{and_then}

-- 0 is no, 1 is yes
abbrev pub flag_of : ℕ → Option Bool
flag_of b = cond (b == 0) (Some false) (cond (b == 1) (Some true) None)

-- the numbers in two bytes each
abbrev pub pairs : List ℕ → List ℕ
pairs [] = []
pairs (high ∷ []) = []
pairs (high ∷ low ∷ rest) = (high * 256 + low) ∷ pairs rest

-- two bytes for each number
abbrev pub halves : List ℕ → List ℕ
halves [] = []
halves (p ∷ ps) = p / 256 ∷ p % 256 ∷ halves ps

abbrev pub all_zero : List ℕ → Bool
all_zero bytes = list_all (λ b. b == 0) bytes

-- A count of 0 tells that there is no tariff, and the other bytes are then zero. Else each value keeps its limits.
abbrev pub tariff_in : List ℕ → Option (Option Tariff)
tariff_in v =
    cond (slice_index v 3 == 0) (cond (all_zero v) (Some None) None)
    (and_then (flag_of (slice_index v 0)) (λ complete.
    and_then (tariff_of complete (slice_index v 1) (slice_index v 2) (slice_index v 3) (pairs (drop 4 v))) (λ t.
    Some (Some t))))

abbrev pub tariff_bytes : Option Tariff → List ℕ
tariff_bytes None = replicate 20 0
tariff_bytes (Some t) = cond t.complete 1 0 ∷ t.month ∷ t.multiplier ∷ t.count ∷ halves t.prices
