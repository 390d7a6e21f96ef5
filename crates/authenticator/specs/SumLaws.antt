-- The byte sum is an authenticator: byte_sum_sixteen, a tag is sixteen long; byte_sum_bytes, and made of bytes.
use Rattle.std.proofs.Common.{◌≡◌, ℕ, List, length, rules}
use Rattle.std.specs.Int.Digits.{AllBelowBase}
use Rattle.authenticator.specs.declared.byte_sum.ByteSum.{ByteSum}
use Rattle.authenticator.specs.Sum.{byte_sum}

pub byte_sum_sixteen : (a : ByteSum) (nonce message : List ℕ) → length (byte_sum a nonce message) ≡ 16
unfolding byte_sum
byte_sum_sixteen a nonce message = search rules

pub byte_sum_bytes : (a : ByteSum) (nonce message : List ℕ) → AllBelowBase 256 (byte_sum a nonce message)
unfolding byte_sum
byte_sum_bytes a nonce message = search rules
