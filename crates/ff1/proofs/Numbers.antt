-- Rows of bytes as numbers: rows put together, filled up with zeros, or cut to a block.
use Rattle.std.proofs.Common.{◌≡◌, ℕ, zero, suc, ◌+◌, ◌-◌, ◌*◌, ◌%◌, ◌^◌, ◌<◌, ◌≤◌, List, [], ◌∷◌, ◌++◌, length, get_or, drop, replicate, sym, refl, ap, ◌∙◌, le_of_suc-le-suc, not-suc-le-zero, mul_assoc, add-mul, arith}
use native.Mathlib.Nat.{pow-succ'}
use lib.ListN.{length-replicate}
use Rattle.std.specs.Int.Digits.{number_from_digits, number_from_digits_after}
use Rattle.std.proofs.lemmas.Int.Digits.{number_after_append}
use Rattle.std.proofs.lemmas.List.{drop-append-le, drop-replicate}
use Rattle.std.proofs.lemmas.List.FromFn.{fill_by_all}
use Rattle.spelling.specs.Spelling.{bytes_of}
use Rattle.spelling.proofs.Apart.{bytes_after}
use Rattle.chaining.specs.Blocks.{block_of}

mix : (a d x m : ℕ) → (a * 256 + d) * x + m ≡ a * (256 * x) + (d * x + m)
mix a d x m = omega (arith, add-mul (a * 256) d x, mul_assoc a 256 x)

after : (a : ℕ) (ys : List ℕ) → number_from_digits_after 256 a ys ≡ a * 256 ^ length ys + number_from_digits 256 ys
after a [] = omega arith
after a (y ∷ ys) =
    let x = 256 ^ length ys in
    let p : 256 ^ suc (length ys) ≡ 256 * x = pow-succ' 256 (length ys) in
    after (a * 256 + y) ys ∙ mix a y x (number_from_digits 256 ys) ∙ ap (λ (k : ℕ). a * k + (y * x + number_from_digits 256 ys)) (sym p)
    ∙ ap (λ (k : ℕ). a * 256 ^ suc (length ys) + k) (sym (after (0 * 256 + y) ys ∙ ap (λ (k : ℕ). k * x + number_from_digits 256 ys) (let e : 0 * 256 + y ≡ y = omega arith in e)))

-- the number of two rows, one after the other
pub number_append : (xs ys : List ℕ) → number_from_digits 256 (xs ++ ys) ≡ number_from_digits 256 xs * 256 ^ length ys + number_from_digits 256 ys
number_append xs ys = number_after_append 256 0 xs ys ∙ after (number_from_digits 256 xs) ys

pub number_zeros : (n : ℕ) (ys : List ℕ) → number_from_digits 256 (replicate n 0 ++ ys) ≡ number_from_digits 256 ys
number_zeros zero ys = refl
number_zeros (suc n) ys = number_zeros n ys

pub number_nothing : (n : ℕ) → number_from_digits 256 (replicate n 0) ≡ 0
number_nothing zero = refl
number_nothing (suc n) = number_nothing n

-- a number in one byte and another in b
pub number_tail : (b i x : ℕ) → number_from_digits 256 (bytes_of 1 i ++ bytes_of b x) ≡ i % 256 * 256 ^ b + x % 256 ^ b
number_tail b i x =
    number_after_append 256 0 (bytes_of 1 i) (bytes_of b x)
    ∙ bytes_after b (number_from_digits 256 (bytes_of 1 i)) x ∙ ap (λ (k : ℕ). k * 256 ^ b + x % 256 ^ b) (let e : 0 * 256 + i % 256 ≡ i % 256 = omega arith in e)

-- ---- blocks

-- a block of sixteen bytes is their number
pub block_exact : (xs : List ℕ) → length xs ≡ 16 → block_of xs ≡ number_from_digits 256 xs
unfolding block_of
block_exact xs e = ap (number_from_digits 256) (sym (fill_by_all (λ (i : ℕ). get_or xs i 0) xs 16 0 e (λ k h. refl)))

zeros_zero : (n j : ℕ) → ◌≡◌ {A = ℕ} (get_or (replicate n 0) j 0) 0
zeros_zero zero j = refl
zeros_zero (suc n) zero = refl
zeros_zero (suc n) (suc j) = zeros_zero n j

pub get_or_filled : (xs : List ℕ) (n j : ℕ) → get_or (xs ++ replicate n 0) j 0 ≡ get_or xs j 0
get_or_filled [] n j = zeros_zero n j
get_or_filled (x ∷ xs) n zero = refl
get_or_filled (x ∷ xs) n (suc j) = get_or_filled xs n j

zeros_front : (z j : ℕ) (ys : List ℕ) → j < z → get_or (replicate z 0 ++ ys) j 0 ≡ 0
zeros_front zero j ys h = absurd (not-suc-le-zero h)
zeros_front (suc z) zero ys h = refl
zeros_front (suc z) (suc j) ys h = zeros_front z j ys (le_of_suc-le-suc h)

-- a row with zeros behind it, up to the end of the zeros
pub get_d_front : (xs : List ℕ) (z : ℕ) (ys : List ℕ) (j : ℕ) → j < length xs + z → get_or (xs ++ (replicate z 0 ++ ys)) j 0 ≡ get_or xs j 0
get_d_front [] z ys j h = zeros_front z j ys (omega arith)
get_d_front (x ∷ xs) z ys zero h = refl
get_d_front (x ∷ xs) z ys (suc j) h = get_d_front xs z ys j (omega arith)

drop_nil : (n : ℕ) → drop {A = ℕ} n [] ≡ []
drop_nil zero = refl
drop_nil (suc n) = refl

-- and from a place before that end on
pub drop-front : (xs : List ℕ) (z n : ℕ) (ys : List ℕ) → n ≤ length xs + z
    → drop n (xs ++ (replicate z 0 ++ ys)) ≡ drop n xs ++ (replicate (z - (n - length xs)) 0 ++ ys)
drop-front [] z n ys h =
    let le : n ≤ length (replicate {A = ℕ} z 0) = simp length-replicate (omega arith) in
    drop-append-le n (replicate z 0) ys le ∙ ap (λ (zs : List ℕ). zs ++ ys) (drop-replicate n z 0)
    ∙ ap (λ (k : ℕ). replicate (z - k) 0 ++ ys) (let e : n ≡ n - 0 = omega arith in e)
    ∙ ap (λ (zs : List ℕ). zs ++ (replicate (z - (n - 0)) 0 ++ ys)) (sym (drop_nil n))
drop-front (x ∷ xs) z zero ys h = ap (λ (k : ℕ). (x ∷ xs) ++ (replicate k 0 ++ ys)) (let e : z ≡ z - (0 - suc (length xs)) = omega arith in e)
drop-front (x ∷ xs) z (suc n) ys h =
    drop-front xs z n ys (omega arith)
    ∙ ap (λ (k : ℕ). drop n xs ++ (replicate (z - k) 0 ++ ys)) (let e : n - length xs ≡ suc n - suc (length xs) = omega arith in e)
