-- A fold that does not look at what it goes over, as so many laps.
use Rattle.std.proofs.Common.{◌≡◌, ℕ, List, [], ◌∷◌, length, fold, refl}
use Rattle.throughput.specs.Laps.{repeated}

pub fold_repeats : (f : ℕ → ℕ) (x : ℕ) (is : List ℕ) → fold (λ n i. f n) x is ≡ repeated (length is) f x
unfolding repeated
fold_repeats f x [] = refl
fold_repeats f x (i ∷ is) = fold_repeats f (f x) is
