use Rattle.std.proofs.Common.{◌≡◌, ◌+◌, ◌-◌, ◌*◌, ◌^◌, ◌<◌, true, get_or, sym, refl, ap, arith}
use Rattle.std.proofs.lemmas.Bool.{ltb-true}
use Rattle.decimal.specs.Groups.{is_block}
use Rattle.decimal.specs.Slips.{text_of, writable}
use Rattle.decimal.proofs.Spelling.{every_at}
use Rattle.decimal.proofs.Printing.{writable-parts, seal_lt, lowest_le, write_step, write_end}
use Rattle.decimal.proofs.writing.write_blocks.Goals as goal

pub loop-i-init : goal.loop-i-init
unfolding text_of
loop-i-init c = (tt, refl, refl, refl)

pub overflow_add-number : goal.overflow_add-number
overflow_add-number c =
    let bs = c.args.blocks.now in
    let i = c.loop-i.i in
    let w = writable-parts bs (sym c.if-not-is_writable.ensures.value) in
    let b : get_or bs i 0 < 2 ^ 61 = ltb-true (get_or bs i 0) (2 ^ 61) (every_at is_block bs i w.2 (omega arith)) in
    let l = lowest_le i in
    omega (arith, c.lowest_number.ensures)

pub loop-i-preserved : goal.loop-i-preserved
loop-i-preserved c =
    let bs = c.args.blocks.now in
    let i = c.loop-i.i in
    let b = c.loop-i.before in
    let n = c.lowest_number.result + get_or bs i 0 in
    let few = c.if-not-is_writable.ensures.few refl in
    let s = write_step c.loop-i.slip bs c.write_group.new.group i (20 * i + 20 - 20 * i) n c.write_group.result b
    c.write_group.ensures.text c.write_group.ensures.check (ap (λ m. m + get_or bs i 0) c.lowest_number.ensures)
    (omega arith) few c.loop-i.invariant.1 (omega arith) c.loop-i.invariant.2 c.loop-i.invariant.3 in
    let e = c.write_group.ensures.check in
    let l = seal_lt b n c.loop-i.invariant.0 in
    (omega (arith, e, l), s.0, s.1, s.2)

pub returns : goal.returns
returns c =
    let bs = c.args.blocks.now in
    let w : writable bs ≡ true = sym c.if-not-is_writable.ensures.value in
    let e = write_end c.loop-i.slip bs c.loop-i.i c.loop-i.before (omega arith) c.loop-i.invariant.2 c.loop-i.invariant.3 in
    record { answer = rw w; bytes = rw w e }
