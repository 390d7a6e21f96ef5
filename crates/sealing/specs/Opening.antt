-- The cipher over the blocks of a slip, one way for till and meter: through_block, through_all, through_low; and the slip that blocks
-- hold: further_of, parts_of, opened_as, opened.
use Rattle.std.specs.Prelude.{ℕ, ◌+◌, ◌*◌, ◌/◌, ◌%◌, ◌^◌, List, [], ◌∷◌, map, drop, Ok, Result, slice_index}
use Rattle.refusal.specs.Checks.{and_then}
use Rattle.refusal.specs.declared.Refusal.{Refusal}
use Rattle.cipher.specs.Widths.{bits}
use Rattle.cipher.specs.declared.width.Width.{Width}
use Rattle.cipher.specs.declared.width.Width.TheVariants.{First, Further}
use Rattle.token.specs.declared.subclass.SubClass.{SubClass}
use Rattle.token.specs.declared.subclass.SubClass.TheVariants.{Clear, Enciphered, Rates}
use Rattle.token.specs.FirstBlocks.{first_block_of}
use Rattle.token.specs.FurtherBlocks.{part_of}
use Rattle.token.specs.Shapes.{shape_of}
use Rattle.sealing.specs.declared.opening.Opened.{Opened}

-- a block whose low bits, as many as its width, go through a map; those above them stay
abbrev pub through_block : (Width → ℕ → ℕ) → Width → ℕ → ℕ
through_block through width block = block / 2 ^ bits width * 2 ^ bits width + through width (block % 2 ^ bits width)

-- all blocks, as a map goes over their low bits: 57 of the first, 59 of each further one
abbrev pub through_all : (Width → ℕ → ℕ) → List ℕ → List ℕ
through_all through [] = []
through_all through (first ∷ further) = through_block through First first ∷ map (through_block through Further) further

-- SubClass 0 is in clear; in the others the low bits are enciphered
abbrev pub through_low : (Width → ℕ → ℕ) → SubClass → List ℕ → List ℕ
through_low through Clear blocks = blocks
through_low through Enciphered blocks = through_all through blocks
through_low through Rates blocks = through_all through blocks

-- the further blocks of a slip, in clear
abbrev pub further_of : Opened → List ℕ
further_of o = drop 1 o.blocks.items

-- the data parts that they carry
abbrev pub parts_of : Opened → List ℕ
parts_of o = map part_of (further_of o)

-- the slip in blocks in clear, of a SubClass
abbrev pub opened_as : SubClass → List ℕ → Opened
opened_as k clear = record { subclass = k; first = first_block_of (slice_index clear 0); blocks = record { items = clear } }

-- the slip that blocks hold, deciphered; the SubClass and the sequences are never enciphered
unfoldable pub opened : (Width → ℕ → ℕ) → List ℕ → Result Opened Refusal
opened deciphered blocks = and_then (shape_of blocks) (λ k. Ok (opened_as k (through_low deciphered k blocks)))
