-- The network as the code runs it: masked, the round function over what is computed once; ten_rounds and ten_back on two halves; through and
-- back_through on a number.
use Rattle.std.specs.Prelude.{ℕ, ◌+◌, ◌-◌, ◌*◌, ◌/◌, ◌%◌, ◌^◌, List, bit_xor}
use Rattle.chaining.specs.Blocks.{aes_block}
use Rattle.feistel.specs.Feistel.{run, unrun, alternate, halves, whole}
use Rattle.ff1.specs.Ff1.{drawn_bytes}
use Rattle.ff1.specs.declared.rounds.Rounds.{Rounds}

-- the mask is added to the last block's number and half, and the sum is enciphered
unfoldable pub masked : (key : List ℕ) (mask b i x : ℕ) → ℕ
masked key mask b i x = aes_block key (bit_xor mask (i % 256 * 256 ^ b + x % 256 ^ b)) / 256 ^ (16 - drawn_bytes b)

abbrev pub ten_rounds : (key : List ℕ) → Rounds → ℕ × ℕ → ℕ × ℕ
ten_rounds key r s = run (alternate r.sizes.left r.sizes.right) (masked key r.mask r.sizes.bytes) 10 0 s

abbrev pub ten_back : (key : List ℕ) → Rounds → ℕ × ℕ → ℕ × ℕ
ten_back key r s = unrun (alternate r.sizes.left r.sizes.right) (masked key r.mask r.sizes.bytes) 10 0 s

abbrev pub through : (key : List ℕ) → Rounds → ℕ → ℕ
through key r x = whole r.sizes.right (ten_rounds key r (halves r.sizes.right x))

abbrev pub back_through : (key : List ℕ) → Rounds → ℕ → ℕ
back_through key r x = whole r.sizes.right (ten_back key r (halves r.sizes.right x))
