-- A Feistel network over the two halves of a number, as FF1 of SP 800-38G has it, for any radix, length and round function: alternate,
-- round and unround, run and unrun, halves and whole, forward and backward; the laws Undoes, Redoes and Stays.
use Rattle.std.specs.Prelude.{◌≡◌, ℕ, zero, suc, ◌+◌, ◌-◌, ◌*◌, ◌/◌, ◌%◌, ◌^◌, ◌<◌}

-- m at even numbers, n at odd ones
abbrev pub alternate : (m n i : ℕ) → ℕ
alternate m n zero = m
alternate m n (suc zero) = n
alternate m n (suc (suc i)) = alternate m n i

-- over the size M i of the half that round i replaces, and the round function F
module _ (M : ℕ → ℕ) (F : ℕ → ℕ → ℕ) where
  -- the second half comes first, and the first is added to the round function's value at it
  unfoldable pub round : (i : ℕ) → ℕ × ℕ → ℕ × ℕ
  round i s = (s.1, (s.0 + F i s.1) % M i)

  unfoldable pub unround : (i : ℕ) → ℕ × ℕ → ℕ × ℕ
  unround i s = ((s.1 + (M i - F i s.0 % M i)) % M i, s.0)

  -- n rounds from round i on
  unfoldable pub run : (n i : ℕ) → ℕ × ℕ → ℕ × ℕ
  run zero i s = s
  run (suc n) i s = run n (suc i) (round i s)

  -- those n rounds taken back
  unfoldable pub unrun : (n i : ℕ) → ℕ × ℕ → ℕ × ℕ
  unrun zero i s = s
  unrun (suc n) i s = unround i (unrun n (suc i) s)

-- a number as its two halves, where the second is below m
abbrev pub halves : (m x : ℕ) → ℕ × ℕ
halves m x = (x / m, x % m)

abbrev pub whole : (m : ℕ) → ℕ × ℕ → ℕ
whole m s = s.0 * m + s.1

-- ten rounds on a number of n digits, of which the first half has n / 2
unfoldable pub forward : (radix n : ℕ) (F : ℕ → ℕ → ℕ) (x : ℕ) → ℕ
forward radix n F x =
    let u = radix ^ (n / 2) in
    let v = radix ^ (n - n / 2) in
    whole v (run (alternate u v) F 10 0 (halves v x))

unfoldable pub backward : (radix n : ℕ) (F : ℕ → ℕ → ℕ) (x : ℕ) → ℕ
backward radix n F x =
    let u = radix ^ (n / 2) in
    let v = radix ^ (n - n / 2) in
    whole v (unrun (alternate u v) F 10 0 (halves v x))

-- The rounds taken back give the number again.
abbrev pub Undoes : Type 0
Undoes = (radix n : ℕ) (F : ℕ → ℕ → ℕ) (x : ℕ) → 0 < radix → x < radix ^ n → backward radix n F (forward radix n F x) ≡ x

-- And the other way round.
abbrev pub Redoes : Type 0
Redoes = (radix n : ℕ) (F : ℕ → ℕ → ℕ) (x : ℕ) → 0 < radix → x < radix ^ n → forward radix n F (backward radix n F x) ≡ x

-- Both stay among the numbers of n digits.
abbrev pub Stays : Type 0
Stays = (radix n : ℕ) (F : ℕ → ℕ → ℕ) (x : ℕ) → 0 < radix → x < radix ^ n → (forward radix n F x < radix ^ n) × (backward radix n F x < radix ^ n)
