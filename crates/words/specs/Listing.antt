-- Which numbers a list in a fixed number of places has: Kept. The list gives the places back: whole.
use Rattle.std.specs.Prelude.{ℕ, List, ◌≡◌, ◌≤◌, ◌-◌, ◌++◌, take, drop, length, replicate}
use Rattle.std.proofs.lemmas.List.{take-append-drop}

-- so many of the places are used, and those behind them are zero
pub record Kept (most n : ℕ) (ws : List ℕ) : Type 0 where
  pub fits : n ≤ most
  pub places : length ws ≡ most
  pub rest : drop n ws ≡ replicate (most - n) 0
  pub used : length (take n ws) ≡ n

pub whole : (most n : ℕ) (ws : List ℕ) → Kept most n ws → take n ws ++ replicate (most - length (take n ws)) 0 ≡ ws
whole most n ws kept = rw (kept.used, ← kept.rest) (take-append-drop n ws)
