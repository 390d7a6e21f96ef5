-- What a journal comes to at a meter, whatever else is asked and noted in it. A line: Effect, nothing. A journal of lines with effects:
-- total, one_if, or_zero, highest_of, tariff_of, writes_after; AtEach, what holds of each line by those before it.
use Rattle.std.specs.Prelude.{◌≡◌, ℕ, max, cond, List, [], ◌∷◌, ◌++◌, Some, None, sum_by, Option, ◌==◌}
use Rattle.token.specs.declared.tariff.Tariff.{Tariff}
use Rattle.record.specs.Changes.{tariff_with}
use Rattle.meter.specs.declared.calls.Line.{Line}

-- what a line does at the meter: the amount added to the credit and the one taken off it, the number counted, the slips with rate
-- prices taken and the tariff that they bring
pub record Effect : Type 0 where
  pub added : ℕ
  pub subtracted : ℕ
  pub counted : Option ℕ
  pub rates : ℕ
  pub tariff : Option Tariff

abbrev pub nothing : Effect
nothing = record { added = 0; subtracted = 0; counted = None; rates = 0; tariff = None }

-- the sum of something over a journal
abbrev pub total : {X : Type 0} → (X → ℕ) → List X → ℕ
total f lines = sum_by f lines

-- 1 where there is a number and it is n
abbrev pub one_if : Option ℕ → ℕ → ℕ
one_if None n = 0
one_if (Some k) n = cond (n == k) 1 0

-- a number, 0 where there is none
abbrev pub or_zero : Option ℕ → ℕ
or_zero None = 0
or_zero (Some k) = k

-- the highest number counted, 0 at first
abbrev pub highest_of : {X : Type 0} → (X → Effect) → List X → ℕ
highest_of e [] = 0
highest_of e (l ∷ ls) = max (or_zero (e l).counted) (highest_of e ls)

-- the tariff that the last slip with rate prices brought
abbrev pub tariff_of : {X : Type 0} → (X → Effect) → Option Tariff → List X → Option Tariff
tariff_of e old [] = old
tariff_of e old (l ∷ ls) = tariff_of e (tariff_with (e l).tariff old) ls

-- the writes left after a journal
abbrev pub writes_after : {C A : Type 0} → ℕ → List (Line C A) → ℕ
writes_after writes [] = writes
writes_after writes (l ∷ ls) = writes_after l.writes ls

-- P holds of each line and of all that went before it
abbrev pub AtEach : {X : Type 0} → (List X → X → Type 0) → List X → Type 0
AtEach {X} P lines = (before after : List X) (l : X) → lines ≡ before ++ l ∷ after → P before l
