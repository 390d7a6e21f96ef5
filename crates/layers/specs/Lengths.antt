-- Lengths within their limits: length_of.
use Rattle.std.specs.Prelude.{ℕ, Result}
use Rattle.refusal.specs.Making.{where_so}
use Rattle.refusal.specs.Checks.{found}
use Rattle.refusal.specs.declared.Refusal.{Refusal}
use Rattle.refusal.specs.declared.Refusal.TheVariants.{WriteBehindLength}
use Rattle.layers.specs.Limits.{lengthable}
use Rattle.layers.specs.declared.length.Length.{Length}

-- the length of this number, or the refusal where it is outside the limits
abbrev pub length_of : ℕ → Result Length Refusal
length_of k = found (where_so (lengthable k) (λ p. record { value = k; ok = p })) WriteBehindLength
