-- Numbers of two bytes, there and back: pairs-halves, halves_pairs; length-halves. Assumes nothing.
use Rattle.std.proofs.Common.{◌≡◌, ℕ, zero, suc, ◌+◌, ◌*◌, ◌/◌, ◌%◌, List, [], ◌∷◌, length, refl, arith}
use Rattle.fields.specs.Fields.{Bytes}
use Rattle.image.specs.Tariffs.{pairs, halves}

-- numbers are read back from their bytes
pub pairs-halves : (ps : List ℕ) → pairs (halves ps) ≡ ps
pairs-halves [] = refl
pairs-halves (p ∷ ps) =
    let here : p / 256 * 256 + p % 256 ≡ p = omega arith in
    let more = pairs-halves ps in
    λ i. here i ∷ more i

-- and bytes, two for each number, are those of the numbers that they spell
pub halves_pairs : (k : ℕ) (v : List ℕ) → Bytes v → length v ≡ 2 * k → halves (pairs v) ≡ v
halves_pairs k [] u l = refl
halves_pairs k (a ∷ []) u l = absurd (omega arith)
halves_pairs zero (a ∷ b ∷ v) u l = absurd (omega arith)
halves_pairs (suc k) (a ∷ b ∷ v) u l =
    let high : (a * 256 + b) / 256 ≡ a = omega (arith, u.1.0) in
    let low : (a * 256 + b) % 256 ≡ b = omega (arith, u.1.0) in
    let more = halves_pairs k v u.1.1 (omega arith) in
    λ i. high i ∷ low i ∷ more i

pub length-halves : (ps : List ℕ) → length (halves ps) ≡ 2 * length ps
length-halves [] = refl
length-halves (p ∷ ps) = omega (arith, length-halves ps)
