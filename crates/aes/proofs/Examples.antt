-- The values that the standard works out, computed.
use Rattle.std.proofs.Common.{refl}
use Rattle.aes.specs.Field.{xtime, mul_bits, mul, squares, inverse, turned_left, affine, sbox}
use Rattle.aes.specs.Aes.{sub_bytes, shift_rows, mix_columns, add_round_key, rounds, cipher, round_constant, key_byte, next_key, round_key, schedule, aes}
use Rattle.aes.specs.Examples.{WorkedOut}

pub worked_out : WorkedOut
unfolding xtime mul_bits mul squares inverse turned_left affine sbox sub_bytes shift_rows mix_columns add_round_key rounds cipher round_constant key_byte next_key round_key schedule aes
worked_out = record { product = refl; substitution = refl; block = refl }
