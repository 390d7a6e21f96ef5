-- The number of each refusal: number_of.
use Rattle.std.specs.Prelude.{ℕ}
use Rattle.refusal.specs.declared.Refusal.{Refusal}
use Rattle.refusal.specs.declared.Refusal.TheVariants.{Length, NotADigit, CheckDigit, NoBlock, OtherSubClass, WrongBlocks, IndexFull, OutsideWindow, WrongTag, AlreadyCounted, ReservedConfig, RatePrices, AboveCeiling, NoWrites, SpendAmount, SpendAboveCredit, Settings, Sale, TillIndexFull, NoMoreNumbers, ShortMemory, WriteBehindLength}

abbrev pub number_of : Refusal → ℕ
number_of Length = 1
number_of NotADigit = 2
number_of CheckDigit = 3
number_of NoBlock = 4
number_of OtherSubClass = 5
number_of WrongBlocks = 6
number_of IndexFull = 7
number_of OutsideWindow = 8
number_of WrongTag = 9
number_of AlreadyCounted = 10
number_of ReservedConfig = 11
number_of RatePrices = 12
number_of AboveCeiling = 13
number_of NoWrites = 14
number_of SpendAmount = 15
number_of SpendAboveCredit = 16
number_of Settings = 17
number_of Sale = 18
number_of TillIndexFull = 19
number_of NoMoreNumbers = 20
number_of ShortMemory = 21
number_of WriteBehindLength = 22
