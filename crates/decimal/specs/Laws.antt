-- What holds of every text and of all blocks: RoundTrip, WellKeyed, NoticesWrongDigit, swapped, NoticesSwap.
use Rattle.std.specs.Prelude.{◌≡◌, ℕ, ◌+◌, ◌%◌, ◌^◌, ◌<◌, ◌≤◌, true, List, length, Ok, Err, ◌≢◌, slice_index, slice_set}
use Rattle.std.specs.Int.Digits.{AllBelowBase}
use Rattle.refusal.specs.declared.Refusal.TheVariants.{CheckDigit}
use Rattle.decimal.specs.Digits.{is_digit}
use Rattle.decimal.specs.Groups.{grouped, all_digits, all_sealed, blocks_of}
use Rattle.decimal.specs.Slips.{text_of}

-- Reading undoes writing, and writing undoes reading: blocks have one text, and a text that comes to blocks is that one.
pub record RoundTrip : Type 0 where
  pub there : (bs : List ℕ) → 1 ≤ length bs → length bs ≤ 4 → AllBelowBase (2 ^ 61) bs →
      blocks_of (text_of bs) ≡ Ok (record { items = bs })
  pub back : (text bs : List ℕ) → blocks_of text ≡ Ok (record { items = bs }) → text ≡ text_of bs

-- a text of one to four groups of digits, each with its right check digit
pub record WellKeyed (text : List ℕ) : Type 0 where
  pub in_groups : grouped text ≡ true
  pub digits : all_digits text ≡ true
  pub seals : all_sealed text ≡ true

-- A well-keyed text, with another digit at any one place, is refused for a check digit.
abbrev pub NoticesWrongDigit : Type 0
NoticesWrongDigit = (text : List ℕ) (k byte : ℕ) → WellKeyed text →
    k < length text → is_digit byte ≡ true → (byte ≢ slice_index text k) → blocks_of (slice_set text k byte) ≡ Err CheckDigit

-- the places k and k + 1 exchanged
abbrev pub swapped : List ℕ → ℕ → List ℕ
swapped text k = slice_set (slice_set text k (slice_index text (k + 1))) (k + 1) (slice_index text k)

-- So is one with two different neighbours exchanged, both among the first nineteen of their group.
abbrev pub NoticesSwap : Type 0
NoticesSwap = (text : List ℕ) (k : ℕ) → WellKeyed text →
    k < length text → k % 20 < 18 → (slice_index text k ≢ slice_index text (k + 1)) → blocks_of (swapped text k) ≡ Err CheckDigit
