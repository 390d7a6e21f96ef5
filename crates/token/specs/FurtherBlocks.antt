-- Further blocks of a slip, 61 bits each: further_widths, sequence_of, part_of, sequenced; and data parts turned into them:
-- carriable, numbered; the law Carried.
use Rattle.std.specs.Prelude.{◌≡◌, ℕ, ◌/◌, ◌%◌, ◌^◌, Bool, true, ◌&&◌, List, [], ◌∷◌, map, length, ◌==◌, nat_le}
use Rattle.token.specs.Widths.{packed, unpacked}
use Rattle.token.specs.Limits.{under}

-- the count of blocks after it, and a data part
abbrev pub further_widths : List ℕ
further_widths = 2 ∷ 59 ∷ []

-- the count of blocks after it that a block names
abbrev pub sequence_of : ℕ → ℕ
sequence_of block = block / 2 ^ 59 % 4

-- the data part of a block
abbrev pub part_of : ℕ → ℕ
part_of block = block % 2 ^ 59

-- each block names the count of blocks after it
abbrev pub sequenced : List ℕ → Bool
sequenced [] = true
sequenced (b ∷ bs) = sequence_of b == length bs && sequenced bs

-- at most three parts, each of 59 bits
abbrev pub carriable : List ℕ → Bool
carriable ps = nat_le (length ps) 3 && under (2 ^ 59) ps

-- the further blocks that carry the parts
abbrev pub numbered : List ℕ → List ℕ
numbered [] = []
numbered (p ∷ ps) = packed further_widths (length ps ∷ p ∷ []) ∷ numbered ps

-- The fields of a further block are those that its widths cut out. Parts that were numbered are in sequence, and are found again.
pub record Carried : Type 0 where
  pub cut : (b : ℕ) → sequence_of b ∷ part_of b ∷ [] ≡ unpacked further_widths b
  pub back : (ps : List ℕ) → carriable ps ≡ true → (sequenced (numbered ps) ≡ true) × (map part_of (numbered ps) ≡ ps)
