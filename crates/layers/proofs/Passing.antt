-- What a quota passes over a list of writes: passing. Assumes nothing.
use Rattle.std.proofs.Common.{◌≡◌, suc, ◌-◌, [], ◌∷◌, length, ap, ◌∙◌, arith}
use Rattle.record.specs.declared.Record.{Record}
use Rattle.layers.specs.Quota.{quota_over}
use Rattle.layers.specs.Passing.{all_below, PassingLaw}

module _ {S : Type 0} (after : S → Record → S) where
  pub passing : PassingLaw after
  passing store q [] = let same : q ≡ q - 0 = omega arith in ap (quota_over store) same
  passing store q (r ∷ rs) =
      let less : q - 1 - length rs ≡ q - suc (length rs) = omega arith in
      passing (after store r) (q - 1) rs ∙ ap (quota_over (all_below after (after store r) rs)) less
