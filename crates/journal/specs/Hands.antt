-- The numbers in hand, which were drawn and neither issued nor voided: one, held, is_in_hand; Gains and SameHand, how hands differ.
use Rattle.std.specs.Prelude.{◌≡◌, ℕ, ◌+◌, Bool, cond, List, length, sum_by, ◌==◌, nat_lt}
use Rattle.till.specs.declared.drawn.DrawnNumber.{DrawnNumber}

-- 1 at n itself, else 0
abbrev pub one : ℕ → ℕ → ℕ
one n k = cond (k == n) 1 0

-- how often the number k is in hand
abbrev pub held : ℕ → List DrawnNumber → ℕ
held k hand = sum_by (λ d. one d.number k) hand

abbrev pub is_in_hand : ℕ → List DrawnNumber → Bool
is_in_hand k hand = nat_lt 0 (held k hand)

-- the second hand is the first with the number n added, in any order
pub record Gains (n : ℕ) (hand more : List DrawnNumber) : Type 0 where
  pub long : length more ≡ length hand + 1
  pub each : (k : ℕ) → held k more ≡ held k hand + one n k

-- both hold the same numbers, in any order
pub record SameHand (hand other : List DrawnNumber) : Type 0 where
  pub long : length other ≡ length hand
  pub each : (k : ℕ) → held k other ≡ held k hand
