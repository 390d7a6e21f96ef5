use Rattle.std.proofs.Common.{sym}
use Rattle.ff1.specs.Sizes.{sizes_of, allowed}
use Rattle.ff1.proofs.Powers.{passed, allowed_means, sized}
use Rattle.ff1.proofs.preparing.rounds_of.Goals as goal

pub invariant_of-numerals : goal.invariant_of-numerals
invariant_of-numerals c =
    let r = c.args.radix in
    let n = c.args.digits in
    let p = passed (allowed r n) (sizes_of r n) _ (sym c.in_ok-sizes.ensures) in
    let m = allowed_means r n p.0 in
    record { halves = sym p.1; few = (sized r n m.0 m.2).few }
