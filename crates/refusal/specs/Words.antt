-- What each refusal says: words_of.
use Rattle.std.specs.Prelude.{ℕ, List, codes}
use Rattle.refusal.specs.declared.Refusal.{Refusal}
use Rattle.refusal.specs.declared.Refusal.TheVariants.{Length, NotADigit, CheckDigit, NoBlock, OtherSubClass, WrongBlocks, IndexFull, OutsideWindow, WrongTag, AlreadyCounted, ReservedConfig, RatePrices, AboveCeiling, NoWrites, SpendAmount, SpendAboveCredit, Settings, Sale, TillIndexFull, NoMoreNumbers, ShortMemory, WriteBehindLength}

-- why the call was not performed, in a few words
abbrev pub words_of : Refusal → List ℕ
words_of Length = codes "not 20, 40, 60 or 80 digits"
words_of NotADigit = codes "a byte is no digit"
words_of CheckDigit = codes "a check digit is wrong"
words_of NoBlock = codes "a number has no block"
words_of OtherSubClass = codes "no such SubClass"
words_of WrongBlocks = codes "blocks that make no slip"
words_of IndexFull = codes "the meter's index is at its end"
words_of OutsideWindow = codes "no such number in the window"
words_of WrongTag = codes "the tag is wrong"
words_of AlreadyCounted = codes "the number was counted before"
words_of ReservedConfig = codes "a reserved multiplier"
words_of RatePrices = codes "a rule of rate prices is broken"
words_of AboveCeiling = codes "the credit would pass the ceiling"
words_of NoWrites = codes "no writes are left"
words_of SpendAmount = codes "no amount to be spent"
words_of SpendAboveCredit = codes "more than the credit"
words_of Settings = codes "settings outside their limits"
words_of Sale = codes "a sale that no slip can carry"
words_of TillIndexFull = codes "the till's index is at its end"
words_of NoMoreNumbers = codes "every number was drawn"
words_of ShortMemory = codes "too little memory"
words_of WriteBehindLength = codes "a length outside its limits"
