use Rattle.std.proofs.Common.{◌≡◌, length, is_some, ap, arith, length-drop}
use borrow.Rule.Slice.PartMut.{post_of}
use Rattle.decimal.specs.Slips.{seal_of}
use Rattle.decimal.proofs.Printing.{nineteen, seal_lt, seal_is, group_written}
use Rattle.decimal.proofs.writing.write_group.Goals as goal

pub unwrap-check-requires : goal.unwrap-check-requires
unwrap-check-requires c =
    ap is_some (seal_is c.args.before c.args.number c.args.group.now c.write_digits.new.out _ c.check_digit_after.result
    c.requires.twenty c.write_digits.ensures c.check_digit_after.ensures.value)

pub overflow_add-group : goal.overflow_add-group
overflow_add-group c =
    let k = seal_is c.args.before c.args.number c.args.group.now c.write_digits.new.out _ c.check_digit_after.result
    c.requires.twenty c.write_digits.ensures c.check_digit_after.ensures.value in
    let u = c.unwrap-check.ensures in
    let e : c.unwrap-check.result ≡ seal_of c.args.before c.args.number = cc in
    let l = seal_lt c.args.before c.args.number c.requires.digit in
    omega (arith, e, l)

pub returns : goal.returns
returns c =
    let k = seal_is c.args.before c.args.number c.args.group.now c.write_digits.new.out _ c.check_digit_after.result
    c.requires.twenty c.write_digits.ensures c.check_digit_after.ensures.value in
    let u = c.unwrap-check.ensures in
    let e : c.unwrap-check.result ≡ seal_of c.args.before c.args.number = cc in
    let l : length (post_of 0 19 c.args.group.now) ≡ 1 = simp length-drop (omega arith) in
    record {
      text = group_written c.args.before c.args.number c.unwrap-check.result c.write_digits.new.out (post_of 0 19 c.args.group.now)
          (nineteen c.args.number c.args.group.now c.write_digits.new.out c.requires.twenty c.write_digits.ensures) l e;
      check = e;
    }
