-- The bits of a sum, a shift and a remainder, and the bits that a set or a moved mark leaves.
use Rattle.std.proofs.Common.{◌≡◌, ℕ, zero, suc, ◌+◌, ◌-◌, ◌*◌, ◌/◌, ◌%◌, ◌^◌, ◌<◌, ◌≤◌, Bool, true, false, cond, ◌&&◌, ◌||◌, eqb, ltb, sym, refl, ap, ◌∙◌, ⊎_elim, one-mul, arith}
use native.Mathlib.Nat.{div-eq_of_lt, mul-mod_left}
use lib.Bits.{bit_or}
use lib.Pow.{mod-mod-pow}
use Rattle.std.proofs.lemmas.Nat.{field_of, shr-shr, shl-shr, or_shr, or_mod, pow_pos, pow_below, one_shl, or_lt}
use Rattle.std.proofs.Math.Bool.{and-false}
use Rattle.std.proofs.lemmas.Bool.{eq-eqb, ne_eqb, lt-ltb, le-ltb, cases_order, cases_lt}
use Rattle.std.proofs.lemmas.Bool.Decides.{nat_tests}
use Rattle.window.specs.Bits.{bit}

-- a remainder has the low bits
pub bit_mod : (n d i : ℕ) → i < d → bit (n % 2 ^ d) i ≡ bit n i
unfolding bit
bit_mod n d i h =
    let j = d - i - 1 in
    let e : d ≡ (j + 1) + i = omega arith in
    let f : n % 2 ^ ((j + 1) + i) / 2 ^ i % 2 ≡ n / 2 ^ i % 2 = ap (λ m. m % 2) (field_of n (j + 1) i) ∙ mod-mod-pow (n / 2 ^ i) j 1 in
    ap (λ k. eqb (n % 2 ^ k / 2 ^ i % 2) 1) e ∙ ap (λ m. eqb m 1) f

pub bit_small : (n i : ℕ) → n < 2 ^ i → bit n i ≡ false
unfolding bit
bit_small n i h = ap (λ m. eqb (m % 2) 1) (div-eq_of_lt h)

pub bit_none : (i : ℕ) → bit 0 i ≡ false
bit_none i = bit_small 0 i (pow_pos i)

-- a shift
pub bit_high : (n d i : ℕ) → d ≤ i → bit (n * 2 ^ d) i ≡ bit n (i - d)
unfolding bit
bit_high n d i h =
    let e : i ≡ d + (i - d) = omega arith in
    let f : n * 2 ^ d / 2 ^ (d + (i - d)) ≡ n / 2 ^ (i - d) = sym (shr-shr (n * 2 ^ d) d (i - d)) ∙ ap (λ m. m / 2 ^ (i - d)) (shl-shr n d) in
    ap (λ k. eqb (n * 2 ^ d / 2 ^ k % 2) 1) e ∙ ap (λ m. eqb (m % 2) 1) f

pub bit-low : (n d i : ℕ) → i < d → bit (n * 2 ^ d) i ≡ false
bit-low n d i h = sym (bit_mod (n * 2 ^ d) d i h) ∙ ap (λ m. bit m i) (mul-mod_left n (2 ^ d)) ∙ bit_none i

here : bit 1 0 ≡ true
unfolding bit
here = refl

-- a number that is one bit
pub bit-one : (j i : ℕ) → bit (1 * 2 ^ j) i ≡ eqb i j
bit-one j i = ⊎_elim
    (λ (e : i ≡ j). bit_high 1 j i (omega arith) ∙ (let z : i - j ≡ 0 = omega arith in ap (bit 1) z) ∙ here ∙ sym (eq-eqb i j e))
    (⊎_elim
    (λ (l : i < j). bit-low 1 j i l ∙ sym (ne_eqb i j (λ e. omega arith)))
    (λ (l : j < i). bit_high 1 j i (omega arith) ∙ bit_small 1 (i - j) (pow_below 0 (i - j) (omega arith)) ∙ sym (ne_eqb i j (λ e. omega arith))))
    (cases_order i j)

-- either number's bits
or_bits : (a b : ℕ) → a < 2 → b < 2 → eqb (bit_or a b) 1 ≡ (eqb a 1 || eqb b 1)
or_bits zero zero h k = refl
or_bits zero (suc zero) h k = refl
or_bits (suc zero) zero h k = refl
or_bits (suc zero) (suc zero) h k = refl
or_bits zero (suc (suc b)) h k = absurd (omega arith)
or_bits (suc zero) (suc (suc b)) h k = absurd (omega arith)
or_bits (suc (suc a)) b h k = absurd (omega arith)

pub bit-or : (a b i : ℕ) → bit (bit_or a b) i ≡ (bit a i || bit b i)
unfolding bit
bit-or a b i =
    ap (λ m. eqb (m % 2) 1) (or_shr a b i) ∙ ap (λ m. eqb m 1) (or_mod (a / 2 ^ i) (b / 2 ^ i) 1)
    ∙ or_bits (a / 2 ^ i % 2) (b / 2 ^ i % 2) (omega arith) (omega arith)

pub bit_pow : (j i : ℕ) → bit (2 ^ j) i ≡ eqb i j
bit_pow j i = sym (ap (λ m. bit m i) (one-mul (2 ^ j))) ∙ bit-one j i

-- `1 << j` at 128 bits
pub bit_flag : (j i : ℕ) → j < 128 → bit ((1 * 2 ^ j) % 2 ^ 128) i ≡ eqb i j
bit_flag j i h = ap (λ m. bit m i) (one_shl j 128 h) ∙ bit_pow j i

or_cond : (x y : Bool) → (x || y) ≡ cond y true x
or_cond true true = refl
or_cond true false = refl
or_cond false true = refl
or_cond false false = refl

-- one bit more is set
pub set-bits : (n j i : ℕ) → j < 126 → bit (bit_or n ((1 * 2 ^ j) % 2 ^ 128)) i ≡ cond (eqb i j) true (bit n i)
set-bits n j i h = bit-or n ((1 * 2 ^ j) % 2 ^ 128) i ∙ ap (λ b. bit n i || b) (bit_flag j i (omega arith)) ∙ or_cond (bit n i) (eqb i j)

pub set_below : (k n j : ℕ) → n < 2 ^ k → j < k → k ≤ 126 → bit_or n ((1 * 2 ^ j) % 2 ^ 128) < 2 ^ k
set_below k n j h l m =
    let f : (1 * 2 ^ j) % 2 ^ 128 ≡ 2 ^ j = one_shl j 128 (omega arith) in
    rw f (or_lt k n (2 ^ j) h (pow_below j k l))

-- `bits << by`, at a place below 128
up_bits : (n by i : ℕ) → i < 128 → bit ((n * 2 ^ by) % 2 ^ 128) i ≡ cond (ltb i by) false (bit n (i - by))
up_bits n by i h = bit_mod (n * 2 ^ by) 128 i h ∙ ⊎_elim
    (λ (l : i < by). let t = lt-ltb i by l in rw t (bit-low n by i l))
    (λ (l : by ≤ i). let t = le-ltb i by l in rw t (bit_high n by i l))
    (cases_lt i by)

joined_bits : (t : Bool) (b e : Bool) → (t ≡ false → e ≡ false) → (cond t false b || e) ≡ cond t e b
joined_bits true b e h = refl
joined_bits false true e h = refl
joined_bits false false e h = h refl

-- the bits that are moved up, and the one below them
pub moved_bits : (n by i left : ℕ) (also : Bool) (all : ℕ) → 0 < by → by ≤ 126 → left ≤ 126 → i < left →
    all ≡ cond also (bit_or ((n * 2 ^ by) % 2 ^ 128) ((1 * 2 ^ (by - 1)) % 2 ^ 128)) ((n * 2 ^ by) % 2 ^ 128) →
    bit (all % 2 ^ left) i ≡ cond (ltb i by) (also && eqb (i + 1) by) (bit n (i - by))
moved_bits n by i left true all p q m h e =
    let place : eqb i (by - 1) ≡ eqb (i + 1) by = grind (arith, nat_tests) in
    let none : ltb i by ≡ false → eqb (i + 1) by ≡ false = λ t. grind (arith, nat_tests) in
    bit_mod all left i h ∙ ap (λ m. bit m i) e ∙ bit-or ((n * 2 ^ by) % 2 ^ 128) ((1 * 2 ^ (by - 1)) % 2 ^ 128) i
    ∙ ap (λ b. b || bit ((1 * 2 ^ (by - 1)) % 2 ^ 128) i) (up_bits n by i (omega arith))
    ∙ ap (λ b. cond (ltb i by) false (bit n (i - by)) || b) (bit_flag (by - 1) i (omega arith) ∙ place)
    ∙ joined_bits (ltb i by) (bit n (i - by)) (eqb (i + 1) by) none
moved_bits n by i left false all p q m h e = bit_mod all left i h ∙ ap (λ m. bit m i) e ∙ up_bits n by i (omega arith)

-- all bits drop out
pub dropped_bits : (n by i : ℕ) (also : Bool) → 126 < by → i < 126 → bit 0 i ≡ cond (ltb i by) (also && eqb (i + 1) by) (bit n (i - by))
dropped_bits n by i also p h =
    let t : ltb i by ≡ true = lt-ltb i by (omega arith) in
    let e : eqb (i + 1) by ≡ false = ne_eqb (i + 1) by (λ q. omega arith) in
    bit_none i ∙ rw (t, e) (sym (and-false also))
