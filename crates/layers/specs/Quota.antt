-- The write quota, by what the store below it means: quota_over, quota_kept, quota_writes, quota_after.
use Rattle.std.specs.Prelude.{ℕ, ◌-◌, min}
use Rattle.record.specs.declared.Record.{Record}
use Rattle.layers.specs.declared.quota.WriteQuota.{WriteQuota}

-- so many writes are left to pass
abbrev pub quota_over : {S : Type 0} → S → ℕ → WriteQuota S
quota_over below left = record { left = left; below = below }

-- it means the record below
abbrev pub quota_kept : {S : Type 0} → (S → Record) → WriteQuota S → Record
quota_kept kept s = kept s.below

-- it has the writes left to pass, or those of below where these are fewer
abbrev pub quota_writes : {S : Type 0} → (S → ℕ) → WriteQuota S → ℕ
quota_writes writes s = min s.left (writes s.below)

-- a write goes below, and leaves one less to pass
abbrev pub quota_after : {S : Type 0} → (S → Record → S) → WriteQuota S → Record → WriteQuota S
quota_after after s r = record { left = s.left - 1; below = after s.below r }
