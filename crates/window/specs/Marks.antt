-- What a window tells of the numbers counted: blank_window, window_of, marked_in, marked, stays, with_mark, counted, Counted.
use Rattle.std.specs.Prelude.{◌≡◌, ℕ, ◌+◌, ◌-◌, ◌<◌, ◌≤◌, max, Bool, cond, ◌&&◌, ◌||◌, Option, ◌==◌, nat_lt}
use Rattle.std.proofs.Common.{lt→ltb}
use Rattle.refusal.specs.Making.{where_so}
use Rattle.window.specs.Limits.{room, markable}
use Rattle.window.specs.Bits.{bit, bits_of, bits_of_lt}
use Rattle.window.specs.Recovery.{in_window}
use Rattle.window.specs.declared.state.Window.{Window}

-- nothing is counted
abbrev pub blank_window : Window
blank_window = record { highest = 0; marks = 0; ok = tt }

-- the window of this highest number and these marks, where no mark lies outside
abbrev pub window_of : ℕ → ℕ → Option Window
window_of highest marks = where_so (markable highest marks) (λ p. record { highest = highest; marks = marks; ok = p })

-- the highest number, unless it is 0, and below it each number whose bit is set
abbrev pub marked_in : ℕ → ℕ → ℕ → Bool
marked_in highest marks k = cond (nat_lt k highest) (bit marks (highest - 1 - k)) (k == highest && nat_lt 0 k)

unfoldable pub marked : Window → ℕ → Bool
marked w k = marked_in w.highest w.marks k

-- bit k of the marks once n is counted and the highest number is top: that number was marked, or is n
abbrev pub stays : Window → ℕ → ℕ → ℕ → Bool
stays w n top k = marked w (top - 1 - k) || top - 1 - k == n

-- n is marked; the highest number is then the greater of the two, and marks stay with the numbers that have one still
unfoldable pub with_mark : Window → ℕ → Window
with_mark w n = record {
  highest = max w.highest n;
  marks = bits_of (room (max w.highest n)) (stays w n (max w.highest n));
  ok = lt→ltb _ _ (bits_of_lt (room (max w.highest n)) (stays w n (max w.highest n)));
}

-- counting a number of the window marks it; any other number changes nothing
unfoldable pub counted : Window → ℕ → Window
counted w n = cond (in_window w.highest n) (with_mark w n) w

-- r is w with n counted, as a relation: each number above 0 that r still tells is marked where it was, or is n
pub record Counted (w : Window) (n : ℕ) (r : Window) : Type 0 where
  pub top : r.highest ≡ max w.highest n
  pub told : (k : ℕ) → 0 < k → r.highest ≤ k + 126 → marked r k ≡ (marked w k || k == n)
