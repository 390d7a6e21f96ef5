-- The bytes of a number and the number of bytes: number_spell, spell_number; spelled_bytes, where the number
-- has room. Assumes nothing.
use Rattle.std.proofs.Common.{◌≡◌, ℕ, zero, suc, ◌+◌, ◌*◌, ◌/◌, ◌%◌, ◌^◌, ◌<◌, ◌≤◌, List, [], ◌∷◌, length, sym, refl, ap, ◌∙◌, mul-le-mul_right, mod-eq_of_lt, mul_assoc, div-lt_iff_lt-mul, div-add-mod', div-one, arith}
use native.Mathlib.Nat.{pow-zero, pow-succ', div-eq_of_lt-le, one-le-pow}
use Rattle.std.specs.Int.Digits.{number_from_digits, number_from_digits_after}
use Rattle.std.proofs.lemmas.Int.Digits.{number_after_lt}
use Rattle.spelling.specs.Spelling.{bytes_of}
use Rattle.spelling.proofs.Apart.{bytes_after}
use Rattle.fields.specs.Spelling.{spell}
use Rattle.fields.specs.Fields.{Bytes}

-- at every number, with no bound
pub number_spell : (k n : ℕ) → number_from_digits 256 (spell (suc k) n) ≡ n
number_spell k n =
    let q = n / 256 ^ k in
    let first : 0 * 256 + q ≡ q = omega arith in
    ap (λ (a : ℕ). number_from_digits_after 256 a (bytes_of k n)) first ∙ bytes_after k q n ∙ div-add-mod' n (256 ^ k)

-- what was read before stands above the bytes
after_least : (a : ℕ) (ds : List ℕ) → a * 256 ^ length ds ≤ number_from_digits_after 256 a ds
after_least a [] = omega (arith, ap (λ x. a * x) (pow-zero 256))
after_least a (d ∷ ds) =
    let step : a * 256 ≤ a * 256 + d = omega arith in
    omega (arith, after_least (a * 256 + d) ds, mul-le-mul_right (256 ^ length ds) step, mul_assoc a 256 (256 ^ length ds), ap (λ x. a * x) (pow-succ' 256 (length ds)))

above : (a : ℕ) (ds : List ℕ) → Bytes ds → number_from_digits_after 256 a ds / 256 ^ length ds ≡ a
above a ds u = div-eq_of_lt-le (256 ^ length ds) (after_least a ds) (number_after_lt 256 a ds u)

-- the last bytes of a number are those that were read last
bytes_number : (a : ℕ) (ds : List ℕ) → Bytes ds → bytes_of (length ds) (number_from_digits_after 256 a ds) ≡ ds
bytes_number a [] u = refl
bytes_number a (d ∷ []) u = ap (λ (x : ℕ). x ∷ []) (omega (arith, u.0))
bytes_number a (d ∷ e ∷ ds) u =
    let top : number_from_digits_after 256 (a * 256 + d) (e ∷ ds) / 256 ^ length (e ∷ ds) % 256 ≡ d = ap (λ (x : ℕ). x % 256) (above (a * 256 + d) (e ∷ ds) u.1) ∙ omega (arith, u.0) in
    let more = bytes_number (a * 256 + d) (e ∷ ds) u.1 in
    λ i. top i ∷ more i

-- bytes are those of the number that they spell
pub spell_number : (k : ℕ) (v : List ℕ) → Bytes v → length v ≡ suc k → spell (suc k) (number_from_digits 256 v) ≡ v
spell_number k [] u l = absurd (omega arith)
spell_number k (d ∷ ds) u l =
    let long : length ds ≡ k = omega arith in
    let n = number_from_digits_after 256 (0 * 256 + d) ds in
    let first : 0 * 256 + d ≡ d = omega arith in
    let top : n / 256 ^ length ds ≡ d = above (0 * 256 + d) ds u.1 ∙ first in
    let more : bytes_of (length ds) n ≡ ds = bytes_number (0 * 256 + d) ds u.1 in
    ap (λ (j : ℕ). n / 256 ^ j ∷ bytes_of j n) (sym long) ∙ (λ i. top i ∷ more i)

-- a number that has room spells as the bytes that it has
pub spelled_bytes : (k n : ℕ) → n < 256 ^ suc k → bytes_of (suc k) n ≡ spell (suc k) n
spelled_bytes zero n h = ap (λ (x : ℕ). x ∷ []) (omega (arith, div-one n))
spelled_bytes (suc k) n h =
    let power : 256 ^ suc (suc k) ≡ 256 * 256 ^ suc k = pow-succ' 256 (suc k) in
    let small : n / 256 ^ suc k < 256 = (div-lt_iff_lt-mul {k = 256 ^ suc k} {x = n} {y = 256} (one-le-pow (suc k) 256 (omega arith))).1 (omega (arith, h, power)) in
    ap (λ (x : ℕ). x ∷ bytes_of (suc k) n) (mod-eq_of_lt small)
