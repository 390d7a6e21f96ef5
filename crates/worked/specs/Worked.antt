-- Slips worked out by hand, and what the definitions give for each: two_group_slip, after_first, stands_for, WorkedSlips.
use Rattle.std.specs.Prelude.{◌≡◌, ℕ, List, [], ◌∷◌, ◌++◌, map, Ok, Err, codes, Result}
use Rattle.refusal.specs.Checks.{AllKept, found}
use Rattle.refusal.specs.declared.Refusal.{Refusal}
use Rattle.refusal.specs.declared.Refusal.TheVariants.{NoBlock, OutsideWindow, WrongTag, AlreadyCounted, AboveCeiling}
use Rattle.decimal.specs.Digits.{values}
use Rattle.decimal.specs.CheckDigits.{check_digit}
use Rattle.decimal.specs.Groups.{blocks_in, blocks_of}
use Rattle.window.specs.Recovery.{recovered}
use Rattle.record.specs.declared.Record.{Record}
use Rattle.entry.specs.Rules.{digit_rules, shape_rules}
use Rattle.meter.specs.Answering.{taking}
use Rattle.worked.specs.Bench.{blank, entered, leaves}

-- a slip of two groups, with the check digits 1 and 2
abbrev pub two_group_slip : List ℕ
two_group_slip = codes "88897937238209270181" ++ codes "01660992186693955792"

-- the record that the bench's first entry leaves
abbrev pub after_first : Record
after_first = leaves blank (entered blank "73942998757583096280")

-- the number that ten bits stand for, by the highest number counted; else the refusal
abbrev pub stands_for : ℕ → ℕ → Result ℕ Refusal
stands_for highest low = found (recovered highest low) OutsideWindow

pub record WorkedSlips : Type 0 where
  -- the check digit of a first group
  pub first_check_digit : check_digit (values (codes "8889793723820927018")) ≡ 1
  -- the check digit of the group after it, whose digits have the 1 in front
  pub second_check_digit : check_digit (values (codes "10166099218669395579")) ≡ 2
  -- both groups as one entry keep the rules of digits and of blocks, which are the first six
  pub two_groups : AllKept (digit_rules two_group_slip ++ shape_rules (blocks_in two_group_slip))
  -- the number 7394156990786306047 of a first group has no block, one more has block 0; each stands before its check digit
  pub lowest_number :
      map blocks_of (codes "73941569907863060471" ∷ codes "73941569907863060483" ∷ [])
      ≡ Err NoBlock ∷ Ok (record { items = 0 ∷ [] }) ∷ []
  -- nothing is counted: the window is from 1 to 128
  pub new_window : map (stands_for 0) (1 ∷ 128 ∷ 0 ∷ 129 ∷ []) ≡ Ok 1 ∷ Ok 128 ∷ Err OutsideWindow ∷ Err OutsideWindow ∷ []
  -- 1024 is the highest number counted: the window is from 898 to 1152, whose low ten bits are 128
  pub middle_window :
      map (stands_for 1024) (898 ∷ 0 ∷ 128 ∷ 897 ∷ 129 ∷ []) ≡ Ok 898 ∷ Ok 1024 ∷ Ok 1152 ∷ Err OutsideWindow ∷ Err OutsideWindow ∷ []
  -- the last number of all is counted: the window ends there
  pub last_window : map (stands_for 4294967295) (1023 ∷ 0 ∷ []) ≡ Ok 4294967295 ∷ Err OutsideWindow ∷ []
  -- the bench's first entry is taken: number 1, and 500 of credit
  pub first_entry : taking (entered blank "73942998757583096280") ≡ Ok (record { number = 1; amount = 500; credit = 500 })
  -- keyed in again, it is refused
  pub second_entry : taking (entered after_first "73942998757583096280") ≡ Err AlreadyCounted
  -- a slip with another amount and the tag of the first
  pub third_entry : taking (entered after_first "73942998800532769246") ≡ Err WrongTag
  -- a good slip of 3000, which with the credit of 500 is above the ceiling of 3400
  pub fourth_entry : taking (entered after_first "73944749386252943917") ≡ Err AboveCeiling
