-- Fields of so many bits each, the highest first, in one number: total, packed, unpacked, Fit, Packs.
use Rattle.std.specs.Prelude.{◌≡◌, ℕ, ◌+◌, ◌*◌, ◌/◌, ◌%◌, ◌^◌, ◌<◌, List, [], ◌∷◌}

-- how many bits in all
abbrev pub total : List ℕ → ℕ
total [] = 0
total (w ∷ ws) = w + total ws

-- the number that holds the values, each in as many bits as its width says
abbrev pub packed : List ℕ → List ℕ → ℕ
packed [] vs = 0
packed (w ∷ ws) [] = 0
packed (w ∷ ws) (v ∷ vs) = v * 2 ^ total ws + packed ws vs

-- the values that a number holds; what lies above the fields does not matter
abbrev pub unpacked : List ℕ → ℕ → List ℕ
unpacked [] n = []
unpacked (w ∷ ws) n = n / 2 ^ total ws % 2 ^ w ∷ unpacked ws n

-- one value for each width, and none too large for its width
abbrev pub Fit : List ℕ → List ℕ → Type 0
Fit [] [] = Unit {0}
Fit [] (v ∷ vs) = ⊥
Fit (w ∷ ws) [] = ⊥
Fit (w ∷ ws) (v ∷ vs) = (v < 2 ^ w) × Fit ws vs

-- Packing and unpacking undo one another.
pub record Packs (ws : List ℕ) : Type 0 where
  pub fit : (n : ℕ) → Fit ws (unpacked ws n)
  pub below : (vs : List ℕ) → Fit ws vs → packed ws vs < 2 ^ total ws
  pub there : (vs : List ℕ) → Fit ws vs → unpacked ws (packed ws vs) ≡ vs
  pub back : (n : ℕ) → n < 2 ^ total ws → packed ws (unpacked ws n) ≡ n
