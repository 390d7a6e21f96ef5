use Rattle.std.proofs.Common.{◌-◌, arith}
use Rattle.std.proofs.lemmas.Bool.Decides.{nat_tests}
use Rattle.window.specs.Bits.{bit}
use Rattle.window.specs.Marks.{marked}
use Rattle.window.proofs.Counting.{far_bit}
use Rattle.window.proofs.state.Window.is_marked.Goals as goal

pub returns-then-place-lt126 : goal.returns-then-place-lt126
unfolding marked bit
returns-then-place-lt126 c = grind (arith, nat_tests)

pub returns-else-place-lt126 : goal.returns-else-place-lt126
unfolding marked
returns-else-place-lt126 c =
    let w = c.args.self.now in
    grind (arith, nat_tests, far_bit w (w.highest - 1 - c.args.n) (omega arith))

pub returns-in-Equal : goal.returns-in-Equal
unfolding marked
returns-in-Equal c = grind (arith, nat_tests)

pub returns-in-Greater : goal.returns-in-Greater
unfolding marked
returns-in-Greater c = grind (arith, nat_tests)
