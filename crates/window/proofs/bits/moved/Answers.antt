use Rattle.std.proofs.Common.{◌≡◌, ◌-◌, ◌*◌, ◌%◌, ◌^◌, cond, arith}
use lib.Bits.{bit_or}
use Rattle.std.proofs.lemmas.Nat.{one_shl}
use Rattle.window.proofs.BitLaws.{moved_bits, dropped_bits}
use Rattle.window.proofs.bits.moved.Goals as goal
use Rattle.window.proofs.bits.moved.Goals.{then-also, else-also}

pub returns-then-by-gt126-clause-bits : goal.returns-then-by-gt126-clause-bits
returns-then-by-gt126-clause-bits c = λ i h. dropped_bits c.args.bits c.args.by i c.args.also c.if-by-gt126.true (omega arith)

pub returns-clause-bits : goal.returns-clause-bits
returns-clause-bits c =
    let n = c.args.bits in
    let by = c.args.by in
    let left = c.args.left in
    let e : c.if-also.all ≡ cond c.args.also (bit_or ((n * 2 ^ by) % 2 ^ 128) ((1 * 2 ^ (by - 1)) % 2 ^ 128)) ((n * 2 ^ by) % 2 ^ 128) =
    elim c.if-also.branch [ then-also w ↦ rw w.if-also.true w.all-is | else-also w ↦ rw w.if-also.false w.all-is ] in
    let f : (1 * 2 ^ left) % 2 ^ 128 ≡ 2 ^ left = one_shl left 128 (omega arith) in
    rw f (λ i h. moved_bits n by i left c.args.also c.if-also.all c.requires.up c.if-by-gt126.false c.requires.few h e)
