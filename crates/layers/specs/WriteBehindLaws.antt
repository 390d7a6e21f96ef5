-- A layer that writes behind is a store, over any store: behind_holds, it means the record written; behind_most and behind_least,
-- its count is lowered by one or none. Each takes the same law of the store below. none_newest, some_newest, what it means by
-- what is kept.
use Rattle.std.specs.Prelude.{◌≡◌, ℕ, ◌-◌, ◌<◌, ◌≤◌, Bool, true, false, cond, Some, None, ltb, refl}
use Rattle.std.proofs.Common.{◌∙◌, arith}
use Rattle.std.proofs.lemmas.Bool.{lt-ltb}
use Rattle.record.specs.declared.Record.{Record}
use Rattle.layers.specs.declared.write_behind.Kept.{Kept}
use Rattle.layers.specs.declared.write_behind.WriteBehind.{WriteBehind}
use Rattle.layers.specs.WriteBehind.{newest_of, keeping, writing, behind_kept, behind_writes, only_keeps, behind_after}

pub none_newest : (b : Bool) (r : Record) → newest_of b None r ≡ r
none_newest true r = refl
none_newest false r = refl

pub some_newest : (b : Bool) (k : Kept) (r : Record) → b ≡ true → newest_of b (Some k) r ≡ k.newest
some_newest true k r e = refl
some_newest false k r e = absurd (let z : ◌≡◌ {A = ℕ} 0 1 = cc in omega arith)

module _ {S : Type 0} (kept : S → Record) (writes : S → ℕ) (after : S → Record → S) where
  -- the three, by whether the record is only kept
  held_by : ((s : S) (r : Record) → 0 < writes s → kept (after s r) ≡ r)
      → (b : Bool) (s : WriteBehind S) (r : Record) → 0 < writes s.below → behind_kept kept writes (cond b (keeping s r) (writing after s r)) ≡ r
  held_by held true s r h = some_newest (ltb 0 (writes s.below)) _ (kept s.below) (lt-ltb 0 (writes s.below) h)
  held_by held false s r h = none_newest (ltb 0 (writes (after s.below r))) (kept (after s.below r)) ∙ held s.below r h

  most_by : ((s : S) (r : Record) → 0 < writes s → writes (after s r) ≤ writes s)
      → (b : Bool) (s : WriteBehind S) (r : Record) → 0 < writes s.below → behind_writes writes (cond b (keeping s r) (writing after s r)) ≤ writes s.below
  most_by most true s r h = omega arith
  most_by most false s r h = most s.below r h

  least_by : ((s : S) (r : Record) → 0 < writes s → writes s - 1 ≤ writes (after s r))
      → (b : Bool) (s : WriteBehind S) (r : Record) → 0 < writes s.below → writes s.below - 1 ≤ behind_writes writes (cond b (keeping s r) (writing after s r))
  least_by least true s r h = omega arith
  least_by least false s r h = least s.below r h

  pub behind_holds : ((s : S) (r : Record) → 0 < writes s → kept (after s r) ≡ r)
      → (s : WriteBehind S) (r : Record) → 0 < behind_writes writes s → behind_kept kept writes (behind_after kept writes after s r) ≡ r
  behind_holds held s r h = held_by held (only_keeps kept writes s r) s r h

  pub behind_most : ((s : S) (r : Record) → 0 < writes s → writes (after s r) ≤ writes s)
      → (s : WriteBehind S) (r : Record) → 0 < behind_writes writes s → behind_writes writes (behind_after kept writes after s r) ≤ behind_writes writes s
  behind_most most s r h = most_by most (only_keeps kept writes s r) s r h

  pub behind_least : ((s : S) (r : Record) → 0 < writes s → writes s - 1 ≤ writes (after s r))
      → (s : WriteBehind S) (r : Record) → 0 < behind_writes writes s → behind_writes writes s - 1 ≤ behind_writes writes (behind_after kept writes after s r)
  behind_least least s r h = least_by least (only_keeps kept writes s r) s r h
