-- What a quota passes over a list of writes: all_passed, PassingLaw.
use Rattle.std.specs.Prelude.{◌≡◌, ℕ, ◌-◌, List, [], ◌∷◌, length}
use Rattle.record.specs.declared.Record.{Record}
use Rattle.layers.specs.declared.quota.WriteQuota.{WriteQuota}
use Rattle.layers.specs.Quota.{quota_over, quota_after}

module _ {S : Type 0} (after : S → Record → S) where
  -- a quota after the writes of these records, one after the other
  abbrev pub all_passed : WriteQuota S → List Record → WriteQuota S
  all_passed s [] = s
  all_passed s (r ∷ rs) = all_passed (quota_after after s r) rs

  -- a store after the same writes, without the quota
  abbrev pub all_below : S → List Record → S
  all_below s [] = s
  all_below s (r ∷ rs) = all_below (after s r) rs

  -- as many less are left as records were written, and below is as without the quota
  abbrev pub PassingLaw : Type 0
  PassingLaw = (store : S) (q : ℕ) (rs : List Record) → all_passed (quota_over store q) rs ≡ quota_over (all_below store rs) (q - length rs)
