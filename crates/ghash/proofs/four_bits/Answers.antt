use Rattle.std.proofs.Common.{ℕ, ◌-◌, ◌*◌, ◌/◌, ◌%◌, ◌^◌, ap, ◌∙◌, arith}
use lib.Bits.{bit_xor}
use Rattle.ghash.specs.Ghash.{product_from}
use Rattle.ghash.proofs.Horner.{bit_more, bits_all}
use Rattle.ghash.proofs.four_bits.Goals as goal

pub loop-place-preserved : goal.loop-place-preserved
loop-place-preserved c =
    let n = c.args.n in
    let p = c.loop-place.place in
    let v = c.loop-place.v in
    let z = c.loop-place.z in (
      c.times_x-v.type_inv,
      ap (λ (w : ℕ). product_from (p - 1) n w (bit_xor z (n / 2 ^ (p - 1) % 2 * v))) c.times_x-v.ensures
          ∙ bit_more n v z p _ (omega arith) c.loop-place.invariant.1,
    )

pub returns : goal.returns
returns c = bits_all c.args.n c.loop-place.v c.loop-place.z c.loop-place.place _ (omega arith) c.loop-place.invariant.1
