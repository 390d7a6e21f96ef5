-- A row of bytes tells the numbers that it spells: number_bytes, length_bytes, spells_apart.
use Rattle.std.proofs.Common.{◌≡◌, ℕ, zero, suc, ◌+◌, ◌*◌, ◌/◌, ◌%◌, ◌^◌, ◌<◌, List, [], ◌∷◌, ◌++◌, length, take, drop, sym, refl, ap, ◌∙◌, subst, mod-eq_of_lt, mul_assoc, add-mul, arith}
use native.Mathlib.Nat.{mod-one, pow-succ', one-le-pow}
use lib.Arith.{mod-mul}
use Rattle.std.specs.Int.Digits.{number_from_digits, number_from_digits_after}
use Rattle.std.proofs.lemmas.List.{take_at, drop_at}
use Rattle.spelling.specs.Spelling.{bytes_of, spelled, widths_of, SpellsApart}

mix : (a d x m : ℕ) → (a * 256 + d) * x + m ≡ a * (256 * x) + (d * x + m)
mix a d x m = omega (arith, add-mul (a * 256) d x, mul_assoc a 256 x)

-- reading on, from a number read so far
pub bytes_after : (k a n : ℕ) → number_from_digits_after 256 a (bytes_of k n) ≡ a * 256 ^ k + n % 256 ^ k
bytes_after zero a n = rw (mod-one n) (omega arith)
bytes_after (suc zero) a n = refl
bytes_after (suc (suc k)) a n =
    let x = 256 ^ suc k in
    let d = n / x % 256 in
    let power : 256 ^ suc (suc k) ≡ 256 * x = pow-succ' 256 (suc k) in
    let split : n % (256 * x) ≡ d * x + n % x = mod-mul n (omega arith) (one-le-pow (suc k) 256 (omega arith)) in
    bytes_after (suc k) (a * 256 + d) n ∙ mix a d x (n % x) ∙ sym (rw (power, split) refl)

-- the number that its bytes spell
pub number_bytes : (k n : ℕ) → n < 256 ^ k → number_from_digits 256 (bytes_of k n) ≡ n
number_bytes k n h = bytes_after k 0 n ∙ rw (mod-eq_of_lt h) (omega arith)

pub length_bytes : (k n : ℕ) → length (bytes_of k n) ≡ k
length_bytes zero n = refl
length_bytes (suc zero) n = refl
length_bytes (suc (suc k)) n = ap suc (length_bytes (suc k) n)

-- the first number of a row, and the row after it
first_same : (j m n : ℕ) (xs ys : List ℕ) → bytes_of j m ++ xs ≡ bytes_of j n ++ ys → (bytes_of j m ≡ bytes_of j n) × (xs ≡ ys)
first_same j m n xs ys e = (
  sym (take_at (bytes_of j m) xs j (length_bytes j m)) ∙ ap (take j) e ∙ take_at (bytes_of j n) ys j (length_bytes j n),
  sym (drop_at (bytes_of j m) xs j (length_bytes j m)) ∙ ap (drop j) e ∙ drop_at (bytes_of j n) ys j (length_bytes j n),
)

pub spells_apart : SpellsApart
spells_apart [] [] w f g e = refl
spells_apart [] (y ∷ ys) w f g e = absurd (let z : ◌≡◌ {A = ℕ} 0 1 = cc in omega arith)
spells_apart (x ∷ xs) [] w f g e = absurd (let z : ◌≡◌ {A = ℕ} 0 1 = cc in omega arith)
spells_apart (x ∷ xs) (y ∷ ys) w f g e =
    let same : x.0 ≡ y.0 = cc in
    let rest : widths_of xs ≡ widths_of ys = cc in
    let there : bytes_of x.0 y.1 ++ spelled ys ≡ bytes_of y.0 y.1 ++ spelled ys = ap (λ k. bytes_of k y.1 ++ spelled ys) same in
    let parts = first_same x.0 x.1 y.1 (spelled xs) (spelled ys) (e ∙ sym there) in
    let room : y.1 < 256 ^ x.0 = subst (λ k. y.1 < 256 ^ k) (sym same) g.0 in
    let number_same : x.1 ≡ y.1 = sym (number_bytes x.0 x.1 f.0) ∙ ap (number_from_digits 256) parts.0 ∙ number_bytes x.0 y.1 room in
    let tail = spells_apart xs ys rest f.1 g.1 parts.1 in
    λ i. (same i, number_same i) ∷ tail i
