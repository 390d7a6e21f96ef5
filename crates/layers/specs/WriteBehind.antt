-- The write-behind layer, by what the store below it means: behind_over, newest_of, count_of, behind_kept, behind_writes;
-- only_keeps (which writes are only kept), keeping, writing, behind_after; flushed_with, flushed.
use Rattle.std.specs.Prelude.{ℕ, ◌+◌, ◌-◌, Bool, true, false, cond, ◌&&◌, Some, None, Option, nat_lt}
use Rattle.record.specs.declared.Record.{Record}
use Rattle.layers.specs.declared.length.Length.{Length}
use Rattle.layers.specs.declared.write_behind.Kept.{Kept}
use Rattle.layers.specs.declared.write_behind.WriteBehind.{WriteBehind}

-- nothing is kept at first
abbrev pub behind_over : {S : Type 0} → S → Length → WriteBehind S
behind_over below length = record { length = length; kept = None; below = below }

-- the record that is kept, where there is one and below has writes left; else the record below
abbrev pub newest_of : Bool → Option Kept → Record → Record
newest_of true (Some k) below = k.newest
newest_of true None below = below
newest_of false kept below = below

-- how many writes were only kept since the last one below
abbrev pub count_of : Option Kept → ℕ
count_of (Some k) = k.count
count_of None = 0

-- the record is kept, and below is as it was
abbrev pub keeping : {S : Type 0} → WriteBehind S → Record → WriteBehind S
keeping s r = record { length = s.length; kept = Some (record { newest = r; count = count_of s.kept + 1 }); below = s.below }

-- the record is written below, and nothing is kept
abbrev pub writing : {S : Type 0} → (S → Record → S) → WriteBehind S → Record → WriteBehind S
writing after s r = record { length = s.length; kept = None; below = after s.below r }

-- flushed, by whether below has writes left and by what is kept
abbrev pub flushed_with : {S : Type 0} → (S → Record → S) → Bool → Option Kept → WriteBehind S → WriteBehind S
flushed_with after true (Some k) s = writing after s k.newest
flushed_with after true None s = s
flushed_with after false kept s = s

-- it means the newest record
abbrev pub behind_kept : {S : Type 0} → (S → Record) → (S → ℕ) → WriteBehind S → Record
behind_kept kept writes s = newest_of (nat_lt 0 (writes s.below)) s.kept (kept s.below)

-- and has the writes of below
abbrev pub behind_writes : {S : Type 0} → (S → ℕ) → WriteBehind S → ℕ
behind_writes writes s = writes s.below

-- a write that lowers the credit is only kept, while fewer than one less than the length are
abbrev pub only_keeps : {S : Type 0} → (S → Record) → (S → ℕ) → WriteBehind S → Record → Bool
only_keeps kept writes s r = nat_lt r.credit (behind_kept kept writes s).credit && nat_lt (count_of s.kept) (s.length.value - 1)

-- any other goes below
abbrev pub behind_after : {S : Type 0} → (S → Record) → (S → ℕ) → (S → Record → S) → WriteBehind S → Record → WriteBehind S
behind_after kept writes after s r = cond (only_keeps kept writes s r) (keeping s r) (writing after s r)

-- a record that is kept is written below, unless below has no writes left
abbrev pub flushed : {S : Type 0} → (S → ℕ) → (S → Record → S) → WriteBehind S → WriteBehind S
flushed writes after s = flushed_with after (nat_lt 0 (writes s.below)) s.kept s
