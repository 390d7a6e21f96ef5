-- What a journal says once a line is added: total_push, highest_push, tariff_push, writes_push.
use Rattle.std.proofs.Common.{◌≡◌, ℕ, ◌+◌, max, List, [], ◌∷◌, ◌++◌, Option, refl, arith}
use Rattle.std.proofs.lemmas.List.Sums.{sum_by_push}
use Rattle.token.specs.declared.tariff.Tariff.{Tariff}
use Rattle.record.specs.Changes.{tariff_with}
use Rattle.meter.specs.Journals.{Effect, total, or_zero, highest_of, tariff_of, writes_after}
use Rattle.meter.specs.declared.calls.Line.{Line}

module _ {X : Type 0} where
  pub total_push : (f : X → ℕ) (h : List X) (x : X) → total f (h ++ x ∷ []) ≡ total f h + f x
  total_push f h x = sum_by_push f h x

  pub highest_push : (e : X → Effect) (h : List X) (x : X) → highest_of e (h ++ x ∷ []) ≡ max (highest_of e h) (or_zero (e x).counted)
  highest_push e [] x = omega arith
  highest_push e (l ∷ ls) x = let rest = highest_push e ls x in omega (arith, rest)

  pub tariff_push : (e : X → Effect) (old : Option Tariff) (h : List X) (x : X) →
      tariff_of e old (h ++ x ∷ []) ≡ tariff_with (e x).tariff (tariff_of e old h)
  tariff_push e old [] x = refl
  tariff_push e old (l ∷ ls) x = tariff_push e (tariff_with (e l).tariff old) ls x

pub writes_push : {C A : Type 0} (writes : ℕ) (h : List (Line C A)) (x : Line C A) → writes_after writes (h ++ x ∷ []) ≡ x.writes
writes_push writes [] x = refl
writes_push writes (l ∷ ls) x = writes_push l.writes ls x
