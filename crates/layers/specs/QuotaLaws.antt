-- A quota over a store is a store: quota_holds, it means the record written; quota_most and quota_least, its count is lowered by
-- one or none. Each takes the same law of the store below.
use Rattle.std.specs.Prelude.{◌≡◌, ℕ, ◌-◌, ◌<◌, ◌≤◌, min}
use Rattle.std.proofs.Common.{arith}
use Rattle.record.specs.declared.Record.{Record}
use Rattle.layers.specs.declared.quota.WriteQuota.{WriteQuota}
use Rattle.layers.specs.Quota.{quota_kept, quota_writes, quota_after}

-- there are writes left below, where there are any
some_below : (left below : ℕ) → 0 < min left below → 0 < below
some_below left below h = omega arith

module _ {S : Type 0} (kept : S → Record) (writes : S → ℕ) (after : S → Record → S) where
  pub quota_holds : ((s : S) (r : Record) → 0 < writes s → kept (after s r) ≡ r)
      → (s : WriteQuota S) (r : Record) → 0 < quota_writes writes s → quota_kept kept (quota_after after s r) ≡ r
  quota_holds held s r h = held s.below r (some_below s.left (writes s.below) h)

  pub quota_most : ((s : S) (r : Record) → 0 < writes s → writes (after s r) ≤ writes s)
      → (s : WriteQuota S) (r : Record) → 0 < quota_writes writes s → quota_writes writes (quota_after after s r) ≤ quota_writes writes s
  quota_most most s r h = let below = most s.below r (some_below s.left (writes s.below) h) in omega arith

  pub quota_least : ((s : S) (r : Record) → 0 < writes s → writes s - 1 ≤ writes (after s r))
      → (s : WriteQuota S) (r : Record) → 0 < quota_writes writes s → quota_writes writes s - 1 ≤ quota_writes writes (quota_after after s r)
  quota_least least s r h = let below = least s.below r (some_below s.left (writes s.below) h) in omega arith
