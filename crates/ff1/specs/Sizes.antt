-- The sizes of the halves: sizes_of, Sized, Within; and for which radix, length and tweak the code has room: allowed, room_for.
use Rattle.std.specs.Prelude.{ℕ, ◌-◌, ◌/◌, ◌^◌, ◌<◌, ◌≤◌, Bool, ◌&&◌, List, length, nat_le}
use Rattle.ff1.specs.Ff1.{half_bytes}
use Rattle.ff1.specs.declared.rounds.Sizes.{Sizes}

abbrev pub sizes_of : (radix n : ℕ) → Sizes
sizes_of radix n = record { left = radix ^ (n / 2); right = radix ^ (n - n / 2); bytes = half_bytes radix n }

-- a radix of 2 to 65536, and halves below 2^63
abbrev pub allowed : (radix n : ℕ) → Bool
allowed radix n = (nat_le 2 radix && nat_le radix 65536) && nat_le (radix ^ (n - n / 2)) (2 ^ 63)

-- and a tweak of at most 255 bytes
abbrev pub room_for : (radix n : ℕ) (tweak : List ℕ) → Bool
room_for radix n tweak = allowed radix n && nat_le (length tweak) 255

-- halves of these sizes have room in eight bytes and in their own count of bytes
pub record Sized (s : Sizes) : Type 0 where
  pub some_left : 0 < s.left
  pub some_right : 0 < s.right
  pub left_fits : s.left ≤ 2 ^ 63
  pub right_fits : s.right ≤ 2 ^ 63
  pub few : s.bytes ≤ 8
  pub left_spelled : s.left ≤ 256 ^ s.bytes
  pub right_spelled : s.right ≤ 256 ^ s.bytes

-- both halves are below their sizes
pub record Within (s : Sizes) (h : ℕ × ℕ) : Type 0 where
  pub left : h.0 < s.left
  pub right : h.1 < s.right
