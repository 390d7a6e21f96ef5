-- A slip in clear: Slip.
use Rattle.arrayvec.specs.ArrayVec.{ArrayVec}
use Rattle.token.specs.declared.first.FirstBlock.{FirstBlock}
use Rattle.token.specs.declared.subclass.SubClass.{SubClass}
use Rattle.std.specs.Prelude.{ℕ}

-- its SubClass, the fields of its first block, and all its blocks
pub record Slip : Type 0 where
  pub subclass : SubClass
  pub first : FirstBlock
  pub blocks : ArrayVec ℕ
