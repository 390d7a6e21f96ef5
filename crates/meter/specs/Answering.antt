-- What is answered, and what becomes of the store. Entries: taking, entry_obeyed. Spends: spend_rules, spend_judged,
-- spending, spend_obeyed.
use Rattle.std.specs.Prelude.{ℕ, ◌&&◌, List, [], ◌∷◌, Ok, Err, Result, nat_le, nat_lt}
use Rattle.refusal.specs.Checks.{Rule, rule, checked}
use Rattle.refusal.specs.declared.Refusal.{Refusal}
use Rattle.refusal.specs.declared.Refusal.TheVariants.{NoWrites, SpendAmount, SpendAboveCredit}
use Rattle.record.specs.declared.Record.{Record}
use Rattle.record.specs.Changes.{spent}
use Rattle.entry.specs.declared.worth.Worth.{Worth}
use Rattle.entry.specs.Rules.{Standing, standing}
use Rattle.meter.specs.declared.answers.Taken.{Taken}
use Rattle.meter.specs.declared.answers.Spent.{Spent}

-- the answer to an entry: number, amount and new credit, or the refusal
abbrev pub taking : Result Worth Refusal → Result Taken Refusal
taking (Ok w) = Ok (record { number = w.number; amount = w.amount; credit = w.next.credit })
taking (Err e) = Err e

-- the store after an entry: one write where it is taken; refused, the very same
abbrev pub entry_obeyed : {S : Type 0} → (S → Record → S) → Result Worth Refusal → S → S
entry_obeyed after (Ok w) store = after store w.next
entry_obeyed after (Err e) store = store

-- the rules of a spend in their order: the amount itself, then the credit, then a write
abbrev pub spend_rules : Standing → ℕ → List Rule
spend_rules m amount =
    rule SpendAmount (nat_lt 0 amount && nat_le amount 1000000)
    ∷ rule SpendAboveCredit (nat_le amount m.credit)
    ∷ rule NoWrites (nat_lt 0 m.writes)
    ∷ []

-- the next record after a spend, or the refusal for the first rule that is broken
unfoldable pub spend_judged : Record → ℕ → ℕ → Result Record Refusal
spend_judged r writes amount = checked (spend_rules (standing r writes) amount) (Ok (spent r amount))

-- the answer to a spend: its amount and the new credit, or the refusal
abbrev pub spending : ℕ → Result Record Refusal → Result Spent Refusal
spending amount (Ok next) = Ok (record { amount = amount; credit = next.credit })
spending amount (Err e) = Err e

-- the store after a spend: one write where it is performed; refused, the very same
abbrev pub spend_obeyed : {S : Type 0} → (S → Record → S) → Result Record Refusal → S → S
spend_obeyed after (Ok next) store = after store next
spend_obeyed after (Err e) store = store
