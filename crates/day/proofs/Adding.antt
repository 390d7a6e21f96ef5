-- A sum over the lines so far: SoFar.
use Rattle.std.proofs.Common.{◌≡◌, ℕ, ◌*◌, ◌≤◌, List, take}
use Rattle.meter.specs.Journals.{total}
use Rattle.journal.specs.Noted.{Line}

-- x is the sum over the first i lines, and each of them added at most 32 bits
pub record SoFar (f : Line → ℕ) (lines : List Line) (i x : ℕ) : Type 0 where
  pub value : x ≡ total f (take i lines)
  pub most : x ≤ 4294967295 * i
