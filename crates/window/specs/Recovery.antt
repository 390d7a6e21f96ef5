-- The window and the number that ten bits stand for. On any run of numbers: Ends, next_ending, reaches, recovered_in, Lowest, Only.
-- On the window round the highest number: lowest, uppermost, in_window, span, Stands, number_for, in_reach, recovered, Recovers.
use Rattle.std.specs.Prelude.{◌≡◌, ℕ, ◌+◌, ◌-◌, ◌%◌, ◌<◌, ◌≤◌, min, max, Bool, true, cond, ◌&&◌, Some, None, Option, MatchOption, nat_le, nat_lt}

-- n is one of the `count` numbers from `first` on, has 32 bits, and ends in the ten bits `low`
pub record Ends (first count low n : ℕ) : Type 0 where
  pub from : first ≤ n
  pub before : n < first + count
  pub fits : n ≤ 4294967295
  pub tail : n % 1024 ≡ low

-- the first number from `first` on that ends in `low`
abbrev pub next_ending : ℕ → ℕ → ℕ
next_ending first low = first + (low + 1024 - first % 1024) % 1024

-- the run of `count` numbers from `first` on gets to it
abbrev pub reaches : ℕ → ℕ → ℕ → Bool
reaches first count low = nat_lt low 1024 && (nat_lt (next_ending first low) (first + count) && nat_le (next_ending first low) 4294967295)

abbrev pub recovered_in : ℕ → ℕ → ℕ → Option ℕ
recovered_in first count low = cond (reaches first count low) (Some (next_ending first low)) None

-- r is the lowest number of the run that ends in `low`, and there is none where r is None
abbrev pub Lowest : ℕ → ℕ → ℕ → Option ℕ → Type 0
Lowest first count low r = MatchOption r
    ((m : ℕ) → Ends first count low m → ⊥)
    (λ n. Ends first count low n × ((m : ℕ) → Ends first count low m → n ≤ m))

-- r is the one number of the run that ends in `low`, and there is none where r is None
abbrev pub Only : ℕ → ℕ → ℕ → Option ℕ → Type 0
Only first count low r = MatchOption r
    ((m : ℕ) → Ends first count low m → ⊥)
    (λ n. Ends first count low n × ((m : ℕ) → Ends first count low m → m ≡ n))

-- the window's ends, by the highest number counted
abbrev pub lowest : ℕ → ℕ
lowest highest = max 1 (highest - 126)

abbrev pub uppermost : ℕ → ℕ
uppermost highest = min (highest + 128) 4294967295

abbrev pub in_window : ℕ → ℕ → Bool
in_window highest n = nat_le (lowest highest) n && nat_le n (uppermost highest)

-- how many numbers the window has
abbrev pub span : ℕ → ℕ
span highest = uppermost highest + 1 - lowest highest

-- n is in the window and ends in the ten bits `low`
pub record Stands (highest low n : ℕ) : Type 0 where
  pub within : in_window highest n ≡ true
  pub tail : n % 1024 ≡ low

-- the first number from the window's lower end on that ends in `low`
unfoldable pub number_for : ℕ → ℕ → ℕ
number_for highest low = next_ending (lowest highest) low

-- the window gets to it
unfoldable pub in_reach : ℕ → ℕ → Bool
in_reach highest low = reaches (lowest highest) (span highest) low

abbrev pub recovered : ℕ → ℕ → Option ℕ
recovered highest low = cond (in_reach highest low) (Some (number_for highest low)) None

-- r is the one number of the window that ends in `low`, and there is none where r is None
abbrev pub Recovers : ℕ → ℕ → Option ℕ → Type 0
Recovers highest low r = MatchOption r
    ((m : ℕ) → Stands highest low m → ⊥)
    (λ n. Stands highest low n × ((m : ℕ) → Stands highest low m → m ≡ n))
