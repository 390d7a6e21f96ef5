-- What a line asks: Asked, a request as plain data; plain (a request read so); amount_of (the amount that text spells);
-- opens (how a line begins); spend_of, request_of (the request of a line). That requests are read as they are written: RequestsRead.
use Rattle.std.specs.Prelude.{◌≡◌, ℕ, ◌^◌, ◌<◌, Bool, cond, ◌&&◌, List, ◌++◌, length, drop, Some, None, codes, decimal, Option, ◌==◌, nat_le, slice_index}
use Rattle.std.specs.Int.Digits.{number_from_digits}
use Rattle.std.specs.List.{list_all}
use Rattle.decimal.specs.Digits.{is_digit, values}
use Rattle.lines.specs.declared.asking.Request.{Request}
use Rattle.lines.specs.declared.asking.Request.TheVariants.{Enter, Spend}

-- enter these bytes, spend this amount, or nothing that is known
pub data Asked : Type 0 where
  entry : List ℕ → Asked
  spend : ℕ → Asked
  unknown : Asked

-- a request with the bytes that it borrows, if there is one
abbrev pub plain : Option Request → Asked
plain (Some (Enter text)) = entry text.now
plain (Some (Spend amount)) = spend amount
plain None = unknown

-- One to nine decimal digits, zeros in front among them, spell an amount; nothing else does.
unfoldable pub amount_of : List ℕ → Option ℕ
amount_of text = cond (nat_le 1 (length text) && nat_le (length text) 9) (cond (list_all is_digit text) (Some (number_from_digits 10 (values text))) None) None

-- A line opens with a letter and one blank, which is the byte 32. A line that is too short reads 0 there.
abbrev pub opens : ℕ → List ℕ → Bool
opens letter line = slice_index line 0 == letter && slice_index line 1 == 32

-- a spend of the amount, if there is one
abbrev pub spend_of : Option ℕ → Asked
spend_of (Some amount) = spend amount
spend_of None = unknown

-- "E", which is the byte 69, and a blank enter all that follows; "U", the byte 85, and a blank spend the amount that follows.
abbrev pub request_of : List ℕ → Asked
request_of line =
    cond (opens 69 line) (entry (drop 2 line))
    (cond (opens 85 line) (spend_of (amount_of (drop 2 line)))
    unknown)

-- Any bytes are entered by a line that spells "E", a blank and them; an amount below 10^9 is spent by "U", a blank and its decimal.
abbrev pub RequestsRead : Type 0
RequestsRead =
    ((text : List ℕ) → request_of (codes "E " ++ text) ≡ entry text)
    × ((amount : ℕ) → amount < 10 ^ 9 → request_of (codes "U " ++ decimal amount) ≡ spend amount)
