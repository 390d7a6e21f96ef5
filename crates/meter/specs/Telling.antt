-- What each answer says: Told, a number and values; told; entry_answer and spend_answer, what a result is answered as.
use Rattle.std.specs.Prelude.{ℕ, List, [], ◌∷◌, Ok, Err, Result}
use Rattle.refusal.specs.declared.Refusal.{Refusal}
use Rattle.refusal.specs.Numbers.{number_of}
use Rattle.meter.specs.declared.answers.Answer.{Answer}
use Rattle.meter.specs.declared.answers.Answer.TheVariants.{Taken, Spent, Refused}
use Rattle.meter.specs.declared.answers.Taken as taken
use Rattle.meter.specs.declared.answers.Spent as spent

-- 0 where the call was performed, else the number of the refusal; and the values that are answered
pub record Told : Type 0 where
  pub number : ℕ
  pub values : List ℕ

-- taken: number, amount and credit; spent: amount and credit; refused: the number alone
abbrev pub told : Answer → Told
told (Taken t) = record { number = 0; values = t.number ∷ t.amount ∷ t.credit ∷ [] }
told (Spent p) = record { number = 0; values = p.amount ∷ p.credit ∷ [] }
told (Refused e) = record { number = number_of e; values = [] }

-- an entry or a spend that was performed answers what it came to, another its refusal
abbrev pub entry_answer : Result taken.Taken Refusal → Answer
entry_answer (Ok t) = Taken t
entry_answer (Err e) = Refused e

abbrev pub spend_answer : Result spent.Spent Refusal → Answer
spend_answer (Ok p) = Spent p
spend_answer (Err e) = Refused e
