-- What each answer says: Told, a number and values; told.
use Rattle.std.specs.Prelude.{ℕ, List, [], ◌∷◌, Some, None, Option}
use Rattle.refusal.specs.Numbers.{number_of}
use Rattle.journal.specs.declared.answers.Answer.{Answer}
use Rattle.journal.specs.declared.answers.Answer.TheVariants.{Drawn, Issued, Voided, Taken, Spent, NotInHand, Refused}

-- 0 where the call was performed, else the number of the refusal, and none where nobody was asked; and the values that are answered
pub record Told : Type 0 where
  pub number : Option ℕ
  pub values : List ℕ

-- drawn: the number; issued: the length of the slip, whose bytes stand beside it; voided: nothing; taken: number, amount and
-- credit; spent: amount and credit; refused: the number alone
abbrev pub told : Answer → Told
told (Drawn d) = record { number = Some 0; values = d.number ∷ [] }
told (Issued i) = record { number = Some 0; values = i.length ∷ [] }
told Voided = record { number = Some 0; values = [] }
told (Taken t) = record { number = Some 0; values = t.number ∷ t.amount ∷ t.credit ∷ [] }
told (Spent p) = record { number = Some 0; values = p.amount ∷ p.credit ∷ [] }
told NotInHand = record { number = None; values = [] }
told (Refused e) = record { number = Some (number_of e); values = [] }
