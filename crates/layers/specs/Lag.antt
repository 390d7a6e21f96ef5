-- How far a write-behind layer runs ahead of the store below. last_of, the last record of a list; Falls, the credit falls
-- with each record; all_written, the layer after a list of writes; Lags, what then stands below and what is ahead; LagLaw.
use Rattle.std.specs.Prelude.{◌≡◌, ℕ, ◌<◌, ◌≤◌, List, [], ◌∷◌, ◌++◌, length}
use Rattle.record.specs.declared.Record.{Record}
use Rattle.layers.specs.declared.length.Length.{Length}
use Rattle.layers.specs.declared.write_behind.WriteBehind.{WriteBehind}
use Rattle.layers.specs.WriteBehind.{behind_over, count_of, behind_kept, behind_after}

-- the last of the records, or the first where there is none
abbrev pub last_of : Record → List Record → Record
last_of first [] = first
last_of first (r ∷ rs) = last_of r rs

-- the credit falls from each record to the next
abbrev pub Falls : Record → List Record → Type 0
Falls first [] = Unit {0}
Falls first (r ∷ rs) = (r.credit < first.credit) × Falls r rs

module _ {S : Type 0} (kept : S → Record) (writes : S → ℕ) (after : S → Record → S) where
  -- a layer after the writes of these records, one after the other
  abbrev pub all_written : WriteBehind S → List Record → WriteBehind S
  all_written s [] = s
  all_written s (r ∷ rs) = all_written (behind_after kept writes after s r) rs

  -- Of the records written, those up to the last one below, and those ahead of it. The layer means the last of all. Below is
  -- the last that went there. Those ahead are fewer than the length, each lowered the credit, and the layer counts them.
  pub record Lags (first : Record) (rs : List Record) (s : WriteBehind S) : Type 0 where
    pub below : List Record
    pub ahead : List Record
    pub split : rs ≡ below ++ ahead
    pub newest : behind_kept kept writes s ≡ last_of first rs
    pub reached : kept s.below ≡ last_of first below
    pub falls : Falls (kept s.below) ahead
    pub few : length ahead < s.length.value
    pub count : count_of s.kept ≡ length ahead

  -- any records, written to a layer over a store that has writes left for all of them
  abbrev pub LagLaw : Type 0
  LagLaw = (store : S) (k : Length) (rs : List Record) → length rs ≤ writes store → Lags (kept store) rs (all_written (behind_over store k) rs)
