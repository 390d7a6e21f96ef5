-- The slip that a till prints for a number and a sale, at the index that it keeps: further_sold, first_sold, tag_sold, clear_blocks, its
-- blocks in clear; sealed_blocks, with the low bits enciphered; slip_text, slip_length and slip_for, as text. For the code: readied, a
-- sale before its number is known; printed, what is answered.
use Rattle.std.specs.Prelude.{ℕ, suc, ◌*◌, ◌%◌, List, ◌∷◌, length}
use Rattle.token.specs.declared.first.FirstBlock.{FirstBlock}
use Rattle.token.specs.FirstBlocks.{first_widths, first_fields}
use Rattle.token.specs.FurtherBlocks.{numbered}
use Rattle.token.specs.SubClasses.{sub_class_named}
use Rattle.token.specs.Widths.{packed}
use Rattle.decimal.specs.Slips.{text_of, slip_of}
use Rattle.sealing.specs.Messages.{index_for}
use Rattle.sealing.specs.Messages.{tag_field}
use Rattle.sealing.specs.Suites.{Suite}
use Rattle.sealing.specs.Opening.{through_low}
use Rattle.sale.specs.declared.checking.Ready.{Ready}
use Rattle.sale.specs.declared.orders.Sale.{Sale}
use Rattle.sale.specs.declared.printing.Printed.{Printed}
use Rattle.sale.specs.Sales.{parts_sold}

-- the further blocks in clear: each carries a data part and the count of blocks after it
abbrev pub further_sold : Sale → List ℕ
further_sold sale = numbered (parts_sold sale.prices)

-- the fields of the first block: SubClass, low ten bits of the number, AMTConfig, AMT, and a tag field
abbrev pub first_sold : ℕ → Sale → ℕ → FirstBlock
first_sold number sale tag = record {
  subclass = sale.subclass;
  tstn = number % 1024;
  config = sale.config;
  amt = sale.amt;
  tmac = tag;
}

-- the tag field, over number, index, the fields before it and the further blocks in clear
unfoldable pub tag_sold : Suite → ℕ → ℕ → Sale → ℕ
tag_sold s number index sale =
    tag_field s.settings s.tagged number (index_for (sub_class_named sale.subclass) index) (first_sold number sale 0) (further_sold sale)

-- the blocks in clear
abbrev pub clear_blocks : Suite → ℕ → ℕ → Sale → List ℕ
clear_blocks s number index sale = packed first_widths (first_fields (first_sold number sale (tag_sold s number index sale))) ∷ further_sold sale

-- the blocks as they are printed: in SubClasses 8 and 10 with their low bits enciphered
unfoldable pub sealed_blocks : Suite → ℕ → ℕ → Sale → List ℕ
sealed_blocks s number index sale = through_low s.enciphered (sub_class_named sale.subclass) (clear_blocks s number index sale)

-- the digits
abbrev pub slip_text : Suite → ℕ → ℕ → Sale → List ℕ
slip_text s number index sale = text_of (sealed_blocks s number index sale)

-- how many they are: twenty for each block
abbrev pub slip_length : Sale → ℕ
slip_length sale = 20 * suc (length (parts_sold sale.prices))

-- the eighty bytes: the digits first, the rest zero
abbrev pub slip_for : Suite → ℕ → ℕ → Sale → List ℕ
slip_for s number index sale = slip_of (sealed_blocks s number index sale)

-- a sale that can be sold, with a place for its first block
abbrev pub readied : Sale → Ready
readied sale = record { subclass = sub_class_named sale.subclass; blocks = record { items = 0 ∷ further_sold sale } }

-- the length of the text, and the SubClass
abbrev pub printed : Sale → Printed
printed sale = record { length = slip_length sale; subclass = sub_class_named sale.subclass }
