-- The SubClasses that are served, as a table with a row for each: Row, row, sub_classes; and what is read off it: code, takes,
-- coded, sub_class_of, among, served, coded_or_rates, sub_class_named.
use Rattle.std.specs.Prelude.{ℕ, Bool, false, cond, ◌&&◌, ◌||◌, List, [], ◌∷◌, Some, None, Option, ◌==◌, nat_le}
use Rattle.token.specs.declared.subclass.SubClass.{SubClass}
use Rattle.token.specs.declared.subclass.SubClass.TheVariants.{Clear, Enciphered, Rates}

-- the code that a block has for a SubClass, and the fewest and the most blocks of its slips
pub record Row : Type 0 where
  pub code : ℕ
  pub fewest : ℕ
  pub most : ℕ

-- credit in clear; credit enciphered; credit and rate prices, enciphered
abbrev pub row : SubClass → Row
row Clear = record { code = 0; fewest = 1; most = 1 }
row Enciphered = record { code = 8; fewest = 1; most = 1 }
row Rates = record { code = 10; fewest = 2; most = 4 }

-- all that have a row
abbrev pub sub_classes : List SubClass
sub_classes = Clear ∷ Enciphered ∷ Rates ∷ []

-- the code that a block has for it
abbrev pub code : SubClass → ℕ
code k = (row k).code

-- whether a slip may have so many blocks
abbrev pub takes : SubClass → ℕ → Bool
takes k n = nat_le (row k).fewest n && nat_le n (row k).most

-- the first of a list that has the code
abbrev pub coded : List SubClass → ℕ → Option SubClass
coded [] n = None
coded (k ∷ ks) n = cond (n == code k) (Some k) (coded ks n)

-- the SubClass of a code, if it is served
abbrev pub sub_class_of : ℕ → Option SubClass
sub_class_of n = coded sub_classes n

-- whether one of a list has the code
abbrev pub among : List SubClass → ℕ → Bool
among [] n = false
among (k ∷ ks) n = n == code k || among ks n

-- whether a code is served
abbrev pub served : ℕ → Bool
served n = among sub_classes n

-- the first of a list that has the code, or Rates where none has
abbrev pub coded_or_rates : List SubClass → ℕ → SubClass
coded_or_rates [] n = Rates
coded_or_rates (k ∷ ks) n = cond (n == code k) k (coded_or_rates ks n)

-- the SubClass of a code that is served; any other code, which is refused before it is read, reads as Rates
abbrev pub sub_class_named : ℕ → SubClass
sub_class_named n = coded_or_rates sub_classes n
