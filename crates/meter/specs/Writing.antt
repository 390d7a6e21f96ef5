-- What a call does to a record and the writes left: OneWrite, next_of, Moved.
use Rattle.std.specs.Prelude.{◌≡◌, ℕ, ◌+◌, ◌≤◌, Ok, Err, Result}
use Rattle.refusal.specs.declared.Refusal.{Refusal}
use Rattle.record.specs.declared.Record.{Record}
use Rattle.entry.specs.declared.worth.Worth.{Worth}

-- one write was made: there was one, and the count fell by one or none
pub record OneWrite (before after : ℕ) : Type 0 where
  pub left : 1 ≤ before
  pub most : after ≤ before
  pub least : before ≤ after + 1

-- the record of a verdict on an entry
abbrev pub next_of : Result Worth Refusal → Result Record Refusal
next_of (Ok w) = Ok w.next
next_of (Err e) = Err e

-- from one record and writes left to the next: one write of the new record, or nothing
abbrev pub Moved : Result Record Refusal → Record → ℕ → Record → ℕ → Type 0
Moved (Ok next) r writes new left = (new ≡ next) × OneWrite writes left
Moved (Err e) r writes new left = (new ≡ r) × (left ≡ writes)
