-- Which blocks make a slip: sub_class_in, fitting, shape_of; and the same in words of the subject: Shaped, Unserved, Misshapen, Judged.
use Rattle.std.specs.Prelude.{◌≡◌, ℕ, ◌/◌, ◌%◌, ◌^◌, ◌≤◌, Bool, ◌&&◌, ◌⊎◌, List, ◌∷◌, ◌++◌, length, drop, Ok, Err, Result, ◌≢◌, slice_index}
use Rattle.refusal.specs.Checks.{provided}
use Rattle.refusal.specs.declared.Refusal.{Refusal}
use Rattle.refusal.specs.declared.Refusal.TheVariants.{OtherSubClass, WrongBlocks}
use Rattle.token.specs.declared.subclass.SubClass.{SubClass}
use Rattle.token.specs.SubClasses.{row, code, takes, served, sub_class_named}
use Rattle.token.specs.FurtherBlocks.{sequence_of, sequenced}

-- the code in the top four bits of the first block; where there is no block, 0
abbrev pub sub_class_in : List ℕ → ℕ
sub_class_in blocks = slice_index blocks 0 / 2 ^ 57 % 2 ^ 4

-- as many blocks as the SubClass takes, and each further one names the count of blocks after it
abbrev pub fitting : List ℕ → Bool
fitting blocks = takes (sub_class_named (sub_class_in blocks)) (length blocks) && sequenced (drop 1 blocks)

-- the SubClass of a slip of these blocks, or why they are no slip: first the SubClass, then the blocks
unfoldable pub shape_of : List ℕ → Result SubClass Refusal
shape_of blocks =
    provided (served (sub_class_in blocks)) OtherSubClass
    (provided (fitting blocks) WrongBlocks
    (Ok (sub_class_named (sub_class_in blocks))))

-- The blocks make a slip of the SubClass: the first names it, there are as many as it takes, and each further one names the
-- count of blocks after it.
pub record Shaped (blocks : List ℕ) (k : SubClass) : Type 0 where
  pub named : sub_class_in blocks ≡ code k
  pub fewest : (row k).fewest ≤ length blocks
  pub most : length blocks ≤ (row k).most
  pub sequence : (before after : List ℕ) (b : ℕ) → drop 1 blocks ≡ before ++ b ∷ after → sequence_of b ≡ length after

-- The first block names no SubClass.
abbrev pub Unserved : List ℕ → Type 0
Unserved blocks = (k : SubClass) → sub_class_in blocks ≢ code k

-- The first block names a SubClass, but the blocks make no slip.
pub record Misshapen (blocks : List ℕ) : Type 0 where
  pub named : (k : SubClass) × (sub_class_in blocks ≡ code k)
  pub unshaped : (k : SubClass) → Shaped blocks k → ⊥

-- Blocks are taken for the slip that they make; they are refused for another SubClass, or else for making no slip.
abbrev pub Judged : List ℕ → Result SubClass Refusal → Type 0
Judged blocks (Ok k) = Shaped blocks k
Judged blocks (Err e) = ((e ≡ OtherSubClass) × Unserved blocks) ⊎ ((e ≡ WrongBlocks) × Misshapen blocks)
