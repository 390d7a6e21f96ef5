-- The line of an answer: spaced (numbers as text), answer_text (the whole line).
use Rattle.std.specs.Prelude.{ℕ, List, [], ◌∷◌, ◌++◌, codes, decimal}
use Rattle.meter.specs.declared.answers.Answer.{Answer}
use Rattle.meter.specs.declared.answers.Answer.TheVariants.{Taken, Spent, Refused}
use Rattle.meter.specs.Telling.{told}

-- each number in decimal without zeros in front, with a blank before it
abbrev pub spaced : List ℕ → List ℕ
spaced [] = []
spaced (n ∷ ns) = codes " " ++ (decimal n ++ spaced ns)

-- A letter for the kind of the answer, then its values. A refusal has its number for them, and the credit is added.
abbrev pub answer_text : Answer → ℕ → List ℕ
answer_text (Taken t) credit = codes "A" ++ spaced (told (Taken t)).values
answer_text (Spent p) credit = codes "S" ++ spaced (told (Spent p)).values
answer_text (Refused e) credit = codes "R" ++ spaced ((told (Refused e)).number ∷ credit ∷ [])
