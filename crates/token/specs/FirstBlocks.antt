-- The first block of a slip, 61 bits: first_widths, first_fields, first_fits, first_block_of, Small; the law FirstBlockRoundTrip.
use Rattle.std.specs.Prelude.{◌≡◌, ℕ, ◌/◌, ◌%◌, ◌^◌, ◌<◌, Bool, true, ◌&&◌, List, [], ◌∷◌, nat_lt}
use Rattle.token.specs.Widths.{packed, unpacked}
use Rattle.token.specs.declared.first.FirstBlock.{FirstBlock}

-- SubClass, low bits of the number, the code of the multiplier, amount, tag
abbrev pub first_widths : List ℕ
first_widths = 4 ∷ 10 ∷ 2 ∷ 13 ∷ 32 ∷ []

-- the fields of a block, in that order
abbrev pub first_fields : FirstBlock → List ℕ
first_fields b = b.subclass ∷ b.tstn ∷ b.config ∷ b.amt ∷ b.tmac ∷ []

-- whether each field is below what its width says
abbrev pub first_fits : FirstBlock → Bool
first_fits b =
    nat_lt b.subclass (2 ^ 4) && nat_lt b.tstn (2 ^ 10) && nat_lt b.config (2 ^ 2) && nat_lt b.amt (2 ^ 13) && nat_lt b.tmac (2 ^ 32)

-- the first block that a number holds in its low 61 bits
abbrev pub first_block_of : ℕ → FirstBlock
first_block_of n = record {
  subclass = n / 2 ^ 57 % 2 ^ 4;
  tstn = n / 2 ^ 47 % 2 ^ 10;
  config = n / 2 ^ 45 % 2 ^ 2;
  amt = n / 2 ^ 32 % 2 ^ 13;
  tmac = n % 2 ^ 32;
}

-- each field is below what its width says
pub record Small (b : FirstBlock) : Type 0 where
  pub subclass : b.subclass < 2 ^ 4
  pub tstn : b.tstn < 2 ^ 10
  pub config : b.config < 2 ^ 2
  pub amt : b.amt < 2 ^ 13
  pub tmac : b.tmac < 2 ^ 32

-- The fields of a first block are those that its widths cut out. A block that fits is found again in the number that it packs to; a
-- number of 61 bits gives a block that fits and packs to it.
pub record FirstBlockRoundTrip : Type 0 where
  pub cut : (n : ℕ) → first_fields (first_block_of n) ≡ unpacked first_widths n
  pub there : (b : FirstBlock) → first_fits b ≡ true → first_block_of (packed first_widths (first_fields b)) ≡ b
  pub back : (n : ℕ) → n < 2 ^ 61 → packed first_widths (first_fields (first_block_of n)) ≡ n
  pub fits : (n : ℕ) → first_fits (first_block_of n) ≡ true
