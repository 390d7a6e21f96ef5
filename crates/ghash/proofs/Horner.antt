-- Products by Horner's rule, bit by bit and four bits at a time; the laws of the product; the table of folded bits.
use Rattle.std.proofs.Common.{◌≡◌, ℕ, zero, suc, ◌+◌, ◌-◌, ◌*◌, ◌/◌, ◌%◌, ◌^◌, ◌<◌, ◌≤◌, Bool, eqb, List, [], ◌∷◌, length, get_or, fold, replicate, IfSome, slice_get, sym, refl, ap, ◌∙◌, subst, ap₂, suc-add, one-mul, zero-add, zero-mul, arith, eqb→eq, shr-shr}
use mathlib.Core.Path.{Cosingl, contract'}
use lib.Bits.{bit_xor, xor_shr, xor_mod, xor_assoc, xor_comm, xor_zero_l, xor_zero_r, xor_self, xor_shifted}
use Rattle.std.proofs.lemmas.List.FromFn.{get_or-map-range_with_len}
use Rattle.std.proofs.lemmas.Option.{IfSome_then}
use Rattle.aes.proofs.Table.{at, computed}
use Rattle.ghash.specs.Ghash.{times_x, product_from, product, Multiplies}
use Rattle.ghash.specs.Folding.{times_xs, times_x4}
use Rattle.ghash.specs.Products.{products_of}
use Rattle.ghash.specs.Keyed.{hash_for}
use Rattle.ghash.specs.declared.state.HashKey.{HashKey}

swap : (a b c d : ℕ) → bit_xor (bit_xor a b) (bit_xor c d) ≡ bit_xor (bit_xor a c) (bit_xor b d)
swap a b c d =
    xor_assoc a b (bit_xor c d)
    ∙ ap (bit_xor a) (sym (xor_assoc b c d) ∙ ap (λ (n : ℕ). bit_xor n d) (xor_comm b c) ∙ xor_assoc c b d)
    ∙ sym (xor_assoc a c (bit_xor b d))

-- ---- the product with x

-- a bit times a block, at the sum of two bits
bit_sum : (p q v : ℕ) → p < 2 → q < 2 → bit_xor p q * v ≡ bit_xor (p * v) (q * v)
bit_sum zero q v hp hq =
    ap (λ (n : ℕ). n * v) (xor_zero_l q) ∙ sym (ap (λ (n : ℕ). bit_xor n (q * v)) (zero-mul v) ∙ xor_zero_l (q * v))
bit_sum (suc zero) zero v hp hq =
    sym (ap (bit_xor (1 * v)) (zero-mul v) ∙ xor_zero_r (1 * v))
bit_sum (suc zero) (suc zero) v hp hq = zero-mul v ∙ sym (xor_self (1 * v))
bit_sum (suc zero) (suc (suc q)) v hp hq = absurd (omega arith)
bit_sum (suc (suc p)) q v hp hq = absurd (omega arith)

pub times_x_sum : (a b : ℕ) → times_x (bit_xor a b) ≡ bit_xor (times_x a) (times_x b)
unfolding times_x
times_x_sum a b =
    let P : ℕ = 0xe1000000000000000000000000000000 in
    ap₂ (λ (m n : ℕ). bit_xor m (n * P)) (xor_shr a b 1) (xor_mod a b 1)
    ∙ ap (bit_xor (bit_xor (a / 2) (b / 2))) (bit_sum (a % 2) (b % 2) P (omega arith) (omega arith))
    ∙ swap (a / 2) (b / 2) (a % 2 * P) (b % 2 * P)

times_x_zero : times_x 0 ≡ 0
unfolding times_x
times_x_zero = refl

times_x-bit : (p v : ℕ) → p < 2 → times_x (p * v) ≡ p * times_x v
times_x-bit zero v h = ap times_x (zero-mul v) ∙ times_x_zero ∙ sym (zero-mul (times_x v))
times_x-bit (suc zero) v h = ap times_x (one-mul v) ∙ sym (one-mul (times_x v))
times_x-bit (suc (suc p)) v h = absurd (omega arith)

times_xs_sum : (n a b : ℕ) → times_xs n (bit_xor a b) ≡ bit_xor (times_xs n a) (times_xs n b)
unfolding times_xs
times_xs_sum zero a b = refl
times_xs_sum (suc n) a b = ap times_x (times_xs_sum n a b) ∙ times_x_sum (times_xs n a) (times_xs n b)

-- ---- products by Horner's rule, over the low k bits of a block

unfoldable pub horner : (k block v : ℕ) → ℕ
horner zero block v = 0
horner (suc k) block v = bit_xor (block / 2 ^ k % 2 * v) (times_x (horner k block v))

horner_x : (k a v : ℕ) → horner k a (times_x v) ≡ times_x (horner k a v)
unfolding horner times_x
horner_x zero a v = refl
horner_x (suc k) a v =
    ap₂ bit_xor (sym (times_x-bit (a / 2 ^ k % 2) v (omega arith))) (ap times_x (horner_x k a v))
    ∙ sym (times_x_sum (a / 2 ^ k % 2 * v) (times_x (horner k a v)))

pub by_horner : (k a v z : ℕ) → product_from k a v z ≡ bit_xor z (horner k a v)
unfolding product_from horner
by_horner zero a v z = sym (xor_zero_r z)
by_horner (suc k) a v z =
    by_horner k a (times_x v) (bit_xor z (a / 2 ^ k % 2 * v))
    ∙ ap (bit_xor (bit_xor z (a / 2 ^ k % 2 * v))) (horner_x k a v)
    ∙ xor_assoc z (a / 2 ^ k % 2 * v) (times_x (horner k a v))

pub product_horner : (a b : ℕ) → product a b ≡ horner 128 a b
unfolding product
product_horner a b = by_horner 128 a b 0 ∙ xor_zero_l (horner 128 a b)

-- the low k bits after the j bits above them
horner_split : (j k a v : ℕ) → horner (j + k) a v ≡ bit_xor (horner j (a / 2 ^ k) v) (times_xs j (horner k a v))
unfolding horner times_xs
horner_split zero k a v = ap (λ (n : ℕ). horner n a v) (zero-add k) ∙ sym (xor_zero_l (horner k a v))
horner_split (suc j) k a v =
    let y : ℕ = a / 2 ^ k in
    let bit : a / 2 ^ (j + k) % 2 * v ≡ y / 2 ^ j % 2 * v =
    ap (λ (n : ℕ). n % 2 * v) (ap (λ (n : ℕ). a / 2 ^ n) (let e : j + k ≡ k + j = omega arith in e) ∙ sym (shr-shr a k j)) in
    ap (λ (n : ℕ). horner n a v) (suc-add j k)
    ∙ ap₂ bit_xor bit (ap times_x (horner_split j k a v) ∙ times_x_sum (horner j y v) (times_xs j (horner k a v)))
    ∙ sym (xor_assoc (y / 2 ^ j % 2 * v) (times_x (horner j y v)) (times_x (times_xs j (horner k a v))))

-- the lowest four bits alone
horner_low : (y v : ℕ) → horner 4 (y % 16) v ≡ horner 4 y v
unfolding horner
horner_low y v =
    let b3 : y % 16 / 2 ^ 3 % 2 ≡ y / 2 ^ 3 % 2 = omega arith in
    let b2 : y % 16 / 2 ^ 2 % 2 ≡ y / 2 ^ 2 % 2 = omega arith in
    let b1 : y % 16 / 2 ^ 1 % 2 ≡ y / 2 ^ 1 % 2 = omega arith in
    let b0 : y % 16 / 2 ^ 0 % 2 ≡ y / 2 ^ 0 % 2 = omega arith in
    λ i.
    bit_xor (b3 i * v) (times_x (bit_xor (b2 i * v) (times_x (bit_xor (b1 i * v) (times_x (bit_xor (b0 i * v) (times_x 0)))))))

-- four bits more
pub four_more : (i a v z : ℕ) → z ≡ horner (4 * i) a v
    → bit_xor (times_x4 z) (product_from 4 (a / 2 ^ (4 * i) % 16) v 0) ≡ horner (4 * (i + 1)) a v
four_more i a v z e =
    let y : ℕ = a / 2 ^ (4 * i) in
    ap₂ (λ (m n : ℕ). bit_xor (times_x4 m) n) e (by_horner 4 (y % 16) v 0 ∙ xor_zero_l (horner 4 (y % 16) v) ∙ horner_low y v)
    ∙ xor_comm (times_x4 (horner (4 * i) a v)) (horner 4 y v)
    ∙ sym (ap (λ (n : ℕ). horner n a v) (let e : 4 * (i + 1) ≡ 4 + 4 * i = omega arith in e) ∙ horner_split 4 (4 * i) a v)

-- ---- four products with x at once

times_x_even : (c : ℕ) → times_x (c * 2) ≡ c
unfolding times_x
times_x_even c =
    let P : ℕ = 0xe1000000000000000000000000000000 in
    ap₂ (λ (m n : ℕ). bit_xor m (n * P)) (let e : c * 2 / 2 ≡ c = omega arith in e) (let e : c * 2 % 2 ≡ 0 = omega arith in e) ∙ xor_zero_r c

high_four : (q : ℕ) → times_x4 (q * 16) ≡ q
unfolding times_xs
high_four q =
    ap (λ (n : ℕ). times_x (times_x (times_x (times_x n)))) (let e : q * 16 ≡ q * 8 * 2 = omega arith in e)
    ∙ ap (λ (n : ℕ). times_x (times_x (times_x n))) (times_x_even (q * 8) ∙ (let e : q * 8 ≡ q * 4 * 2 = omega arith in e))
    ∙ ap (λ (n : ℕ). times_x (times_x n)) (times_x_even (q * 4) ∙ (let e : q * 4 ≡ q * 2 * 2 = omega arith in e))
    ∙ ap times_x (times_x_even (q * 2)) ∙ times_x_even q

-- what the lowest four bits become
abbrev pub folded : List ℕ
folded =
    0x00000000000000000000000000000000 ∷
    0x1c200000000000000000000000000000 ∷
    0x38400000000000000000000000000000 ∷
    0x24600000000000000000000000000000 ∷
    0x70800000000000000000000000000000 ∷
    0x6ca00000000000000000000000000000 ∷
    0x48c00000000000000000000000000000 ∷
    0x54e00000000000000000000000000000 ∷
    0xe1000000000000000000000000000000 ∷
    0xfd200000000000000000000000000000 ∷
    0xd9400000000000000000000000000000 ∷
    0xc5600000000000000000000000000000 ∷
    0x91800000000000000000000000000000 ∷
    0x8da00000000000000000000000000000 ∷
    0xa9c00000000000000000000000000000 ∷
    0xb5e00000000000000000000000000000 ∷ []

low_four : (r : ℕ) → r < 16 → get_or folded r 0 ≡ times_x4 r
unfolding times_x times_xs
low_four r h = computed times_x4 folded tt r h

pub four_at_once : (v : ℕ) → bit_xor (v / 16) (get_or folded (v % 16) 0) ≡ times_x4 v
four_at_once v =
    let q : ℕ = v / 16 in
    let r : ℕ = v % 16 in
    let small : r < 16 = omega arith in
    ap₂ bit_xor (sym (high_four q)) (low_four r small) ∙ sym (times_xs_sum 4 (q * 16) r)
    ∙ ap times_x4 (xor_shifted q 4 r small ∙ (let e : q * 16 + r ≡ v = omega arith in e))

-- ---- the laws of the product

low_bit : ℕ → ℕ → Bool
low_bit k x = eqb (2 ^ 127 / 2 ^ k % 2) 0

low_bits : (k : ℕ) → k < 127 → 2 ^ 127 / 2 ^ k % 2 ≡ 0
unfolding low_bit
low_bits k h = eqb→eq (2 ^ 127 / 2 ^ k % 2) 0 (at low_bit (replicate 127 0) tt k h)

below_one : (k v : ℕ) → k ≤ 127 → horner k (2 ^ 127) v ≡ 0
unfolding horner
below_one zero v h = refl
below_one (suc k) v h =
    ap₂ (λ (m n : ℕ). bit_xor (m * v) (times_x n)) (low_bits k (omega arith)) (below_one k v (omega arith))
    ∙ ap₂ bit_xor (zero-mul v) times_x_zero

one_is : (v : ℕ) → horner 128 (2 ^ 127) v ≡ v
unfolding horner
one_is v = ap (λ (n : ℕ). bit_xor (1 * v) (times_x n)) (below_one 127 v (omega arith)) ∙ ap₂ bit_xor (one-mul v) times_x_zero ∙ xor_zero_r v

left_sums : (k a c v : ℕ) → horner k (bit_xor a c) v ≡ bit_xor (horner k a v) (horner k c v)
unfolding horner
left_sums zero a c v = refl
left_sums (suc k) a c v =
    let p : ℕ = a / 2 ^ k % 2 in
    let q : ℕ = c / 2 ^ k % 2 in
    let bit : bit_xor a c / 2 ^ k % 2 ≡ bit_xor p q = ap (λ (n : ℕ). n % 2) (xor_shr a c k) ∙ xor_mod (a / 2 ^ k) (c / 2 ^ k) 1 in
    ap₂ (λ (m n : ℕ). bit_xor (m * v) (times_x n)) bit (left_sums k a c v)
    ∙ ap₂ bit_xor (bit_sum p q v (omega arith) (omega arith)) (times_x_sum (horner k a v) (horner k c v))
    ∙ swap (p * v) (q * v) (times_x (horner k a v)) (times_x (horner k c v))

bit-times : (p b c : ℕ) → p < 2 → p * bit_xor b c ≡ bit_xor (p * b) (p * c)
bit-times zero b c h = zero-mul (bit_xor b c) ∙ sym (ap₂ bit_xor (zero-mul b) (zero-mul c))
bit-times (suc zero) b c h = one-mul (bit_xor b c) ∙ sym (ap₂ bit_xor (one-mul b) (one-mul c))
bit-times (suc (suc p)) b c h = absurd (omega arith)

right_sums : (k a b c : ℕ) → horner k a (bit_xor b c) ≡ bit_xor (horner k a b) (horner k a c)
unfolding horner
right_sums zero a b c = refl
right_sums (suc k) a b c =
    let p : ℕ = a / 2 ^ k % 2 in
    ap₂ bit_xor (bit-times p b c (omega arith)) (ap times_x (right_sums k a b c) ∙ times_x_sum (horner k a b) (horner k a c))
    ∙ swap (p * b) (p * c) (times_x (horner k a b)) (times_x (horner k a c))

pub multiplies : Multiplies
multiplies =
    record {
      one = λ b. product_horner (2 ^ 127) b ∙ one_is b;
      left_sum =
          λ a c b. product_horner (bit_xor a c) b ∙ left_sums 128 a c b ∙ sym (ap₂ bit_xor (product_horner a b) (product_horner c b));
      right_sum =
          λ a b c. product_horner a (bit_xor b c) ∙ right_sums 128 a b c ∙ sym (ap₂ bit_xor (product_horner a b) (product_horner a c));
      right_x = λ a b. product_horner a (times_x b) ∙ horner_x 128 a b ∙ sym (ap times_x (product_horner a b));
    }

-- ---- the values of the code

-- the products at hand
pub product_at : (key : ℕ) (ps : List ℕ) (n : ℕ) → n < 16 → ps ≡ products_of key → get_or ps n 0 ≡ product_from 4 n key 0
unfolding products_of
product_at key ps n h e =
    ap (λ (xs : List ℕ). get_or xs n 0) e ∙ get_or-map-range_with_len (λ m. product_from 4 m key 0) 0 16 n n 0 h (omega arith)

-- a fold over the places of four bits in turn, from the place j on
module _ (a v : ℕ) (ps : List ℕ) (e : ps ≡ products_of v) where
  abbrev pub turn : ℕ → ℕ → ℕ
  turn z i = bit_xor (times_x4 z) (get_or ps (a / 2 ^ (4 * i) % 16) 0)

  turned : (j z x : ℕ) → x ≡ j → z ≡ horner (4 * j) a v → turn z x ≡ horner (4 * (j + 1)) a v
  turned j z x ex ez =
      let small : a / 2 ^ (4 * j) % 16 < 16 = omega arith in
      ap (turn z) ex ∙ ap (bit_xor (times_x4 z)) (product_at v ps (a / 2 ^ (4 * j) % 16) small e) ∙ four_more j a v z ez

  folded_on : (is : List ℕ) (j z : ℕ) → ((k : ℕ) → IfSome (slice_get is k) (λ x. x ≡ j + k)) → z ≡ horner (4 * j) a v
      → fold turn z is ≡ horner (4 * (j + length is)) a v
  folded_on [] j z h ez = ez ∙ ap (λ (n : ℕ). horner (4 * n) a v) (let f : j ≡ j + 0 = omega arith in f)
  folded_on (x ∷ is) j z h ez =
      let first : x ≡ j = h 0 ∙ (omega arith) in
      folded_on is (j + 1) (turn z x)
      (λ k. IfSome_then (slice_get is k) (h (suc k)) (λ y g. g ∙ (let f : j + suc k ≡ j + 1 + k = omega arith in f)))
      (turned j z x first ez)
      ∙ ap (λ (n : ℕ). horner (4 * n) a v) (let f : j + 1 + length is ≡ j + suc (length is) = omega arith in f)

  -- and over all 32 of them
  pub fold_is : (is : List ℕ) → length is ≡ 32 → ((k : ℕ) → IfSome (slice_get is k) (λ x. x ≡ 0 + k)) → fold turn 0 is ≡ product a v
  unfolding horner
  fold_is is l h =
      folded_on is 0 0 h refl ∙ ap (λ (n : ℕ). horner (4 * n) a v) (let f : 0 + length is ≡ 32 = omega arith in f) ∙ sym (product_horner a v)

-- one bit more, where p are left
pub bit_more : (n v z p G : ℕ) → 0 < p → product_from p n v z ≡ G → product_from (p - 1) n (times_x v) (bit_xor z (n / 2 ^ (p - 1) % 2 * v)) ≡ G
unfolding product_from
bit_more n v z p G h inv = sym (ap (λ (k : ℕ). product_from k n v z) (let e : p ≡ suc (p - 1) = omega arith in e)) ∙ inv

pub bits_all : (n v z p G : ℕ) → p ≡ 0 → product_from p n v z ≡ G → z ≡ G
unfolding product_from
bits_all n v z p G e inv = subst (λ (k : ℕ). product_from k n v z ≡ G) e inv

-- a key with its products is the one that the key makes
pub made : (key : ℕ) (ps : List ℕ) (e : ps ≡ products_of key) → ◌≡◌ {A = HashKey} (record { key = key; products = ps; kept = e }) (hash_for key)
made key ps e = sym (ap (λ (t : Cosingl (products_of key)). record { key = key; products = t.0; kept = t.1 }) (contract' e))
