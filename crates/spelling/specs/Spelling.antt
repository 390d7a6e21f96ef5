-- Numbers in bytes, highest byte first: bytes_of, a number in so many bytes; spelled, a row of numbers, each in its own width;
-- widths_of, the widths of a row; Fits, each number has room in its width; the law SpellsApart.
use Rattle.std.specs.Prelude.{◌≡◌, ℕ, zero, suc, ◌/◌, ◌%◌, ◌^◌, ◌<◌, List, [], ◌∷◌, ◌++◌, map}
use Rattle.std.specs.List.{AllByRecursion}

-- the last so many bytes of a number
abbrev pub bytes_of : ℕ → ℕ → List ℕ
bytes_of zero n = []
bytes_of (suc zero) n = n % 256 ∷ []
bytes_of (suc (suc k)) n = n / 256 ^ suc k % 256 ∷ bytes_of (suc k) n

-- a row of numbers, each given as the bytes that it takes and the number
abbrev pub spelled : List (ℕ × ℕ) → List ℕ
spelled [] = []
spelled (f ∷ fs) = bytes_of f.0 f.1 ++ spelled fs

-- the bytes that each number takes
abbrev pub widths_of : List (ℕ × ℕ) → List ℕ
widths_of fs = map (λ f. f.0) fs

-- each number has room in its bytes
abbrev pub Fits : List (ℕ × ℕ) → Type 0
Fits fs = AllByRecursion (λ f. f.1 < 256 ^ f.0) fs

-- Rows of numbers with the same widths and the same bytes are the same row.
abbrev pub SpellsApart : Type 0
SpellsApart = (fs gs : List (ℕ × ℕ)) → widths_of fs ≡ widths_of gs → Fits fs → Fits gs → spelled fs ≡ spelled gs → fs ≡ gs
