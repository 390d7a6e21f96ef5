-- The byte sum: byte_sum, its tag, and byte_sum_for, the byte sum for a key and a meter, which is the byte sum again.
use Rattle.std.specs.Prelude.{ℕ, ◌+◌, List, ◌++◌, replicate, sum}
use Rattle.spelling.specs.Spelling.{bytes_of}
use Rattle.authenticator.specs.declared.byte_sum.ByteSum.{ByteSum}

-- four bytes that spell the sum of all bytes of nonce and message, and twelve zeros
unfoldable pub byte_sum : ByteSum → List ℕ → List ℕ → List ℕ
byte_sum a nonce message = bytes_of 4 (sum nonce + sum message) ++ replicate 12 0

abbrev pub byte_sum_for : List ℕ → ℕ → ByteSum
byte_sum_for key meter = record {}
