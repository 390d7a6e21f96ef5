-- The round function of the standard is the masked one: the chain over a round's blocks, but the last, is the same in every round.
use Rattle.std.proofs.Common.{◌≡◌, ℕ, suc, ◌+◌, ◌-◌, ◌*◌, ◌/◌, ◌%◌, ◌^◌, ◌<◌, ◌≤◌, List, [], ◌∷◌, ◌++◌, map, length, take, drop, replicate, sym, refl, ap, ◌∙◌, ap₂, mod-lt, arith, length-append, length-drop, length-take, get_or-drop, get_or-take, pow_mono}
use mathlib.Core.Path.{fun_ext}
use native.Mathlib.Nat.{pow-succ', one-le-pow}
use lib.Arith.{digits_lt}
use lib.Bits.{bit_xor, xor_assoc, xor_zero_l, xor_shifted}
use lib.ListN.{length-replicate, get_or-append}
use lib.Seq.{drop-append-add}
use Rattle.std.specs.List.{range_with_len}
use Rattle.std.specs.Int.Digits.{number_from_digits}
use Rattle.std.proofs.lemmas.List.FromFn.{map-range_with_len_more}
use Rattle.spelling.specs.Spelling.{bytes_of}
use Rattle.spelling.proofs.Apart.{length_bytes}
use Rattle.chaining.specs.Blocks.{aes_block, block_of, block_at, blocks_of, chained}
use Rattle.chaining.proofs.Chaining.{chain_last}
use Rattle.chaining.proofs.Numbers.{power_256, same_map, same_block}
use Rattle.ff1.specs.Ff1.{half_bytes, head_block, filling, round_bytes, prf, drawn_bytes, round_number}
use Rattle.ff1.specs.Network.{masked}
use Rattle.ff1.specs.Preparing.{leading, mask_of}
use Rattle.ff1.proofs.Numbers.{number_append, number_zeros, number_nothing, number_tail, block_exact, get_or_filled, get_d_front, drop-front}

-- ---- a row that begins with a whole block

block_front : (ps qs : List ℕ) → length ps ≡ 16 → block_of (ps ++ qs) ≡ block_of ps
block_front ps qs e = same_block (ps ++ qs) ps (λ j h. get_or-append ps qs 0 j (omega arith))

later_blocks : (ps qs : List ℕ) (k : ℕ) → length ps ≡ 16 → block_at (ps ++ qs) (1 + k) ≡ block_at qs k
unfolding block_at
later_blocks ps qs k e =
    ap block_of (ap (λ (n : ℕ). drop n (ps ++ qs)) (let h : 16 * (1 + k) ≡ length ps + 16 * k = omega arith in h) ∙ drop-append-add ps qs (16 * k))

front_block : (ps qs : List ℕ) → length ps ≡ 16 → blocks_of (ps ++ qs) ≡ block_of ps ∷ blocks_of qs
unfolding blocks_of block_at
front_block ps qs e =
    let n : ℕ = (length qs + 15) / 16 in
    let count : (length (ps ++ qs) + 15) / 16 ≡ suc n = simp length-append (omega arith) in
    ap (λ (k : ℕ). map (block_at (ps ++ qs)) (range_with_len 0 k)) count
    ∙ ap₂ (λ (x : ℕ) (xs : List ℕ). x ∷ xs) (block_front ps qs e) (same_map (block_at (ps ++ qs)) (block_at qs) 0 1 n (λ k h. later_blocks ps qs k e))

-- ---- the bytes of a round, from the tweak on

module _ (b : ℕ) (few : b ≤ 8) (tweak : List ℕ) (i x : ℕ) where
  abbrev t : ℕ
  t = length tweak

  abbrev k : ℕ
  k = leading b t

  abbrev ys : List ℕ
  ys = bytes_of 1 i ++ bytes_of b x

  -- zeros in the last block
  abbrev z : ℕ
  z = filling b t - (k - t)

  length_ys : length ys ≡ 1 + b
  length_ys = length-append (bytes_of 1 i) (bytes_of b x) ∙ ap (λ (n : ℕ). 1 + n) (length_bytes b x)

  full : length (round_bytes b tweak i x) ≡ k + 16
  unfolding round_bytes
  full =
      length-append tweak (replicate (filling b t) 0 ++ ys)
      ∙ ap (λ (n : ℕ). t + n) (length-append (replicate (filling b t) 0) ys ∙ ap₂ (λ (m n : ℕ). m + n) (length-replicate (filling b t) 0) length_ys)
      ∙ (omega arith)

  -- a block before the last has the tweak, filled up with zeros
  leading_block : (j : ℕ) → j < k / 16 → block_at (round_bytes b tweak i x) j ≡ block_at (take k tweak) j
  unfolding round_bytes block_at
  leading_block j h =
      same_block (drop (16 * j) (tweak ++ (replicate (filling b t) 0 ++ ys))) (drop (16 * j) (take k tweak))
      (λ m l.
      get_or-drop (16 * j) (tweak ++ (replicate (filling b t) 0 ++ ys)) m 0
      ∙ get_d_front tweak (filling b t) ys (16 * j + m) (omega arith)
      ∙ sym (get_or-drop (16 * j) (take k tweak) m 0 ∙ get_or-take k tweak (16 * j + m) 0 (omega arith)))

  -- ---- the last block: the rest of the tweak, zeros, number and half

  abbrev rest : List ℕ
  rest = drop k tweak

  -- its bytes behind the tweak
  abbrev m : ℕ
  m = z + (1 + b)

  abbrev tail : ℕ
  tail = i % 256 * 256 ^ b + x % 256 ^ b

  sixteen : length rest + m ≡ 16
  sixteen = simp length-drop (omega arith)

  length_end : length (replicate z 0 ++ ys) ≡ m
  length_end = length-append (replicate z 0) ys ∙ ap₂ (λ (p q : ℕ). p + q) (length-replicate z 0) length_ys

  tail_below : tail < 2 ^ (8 * m)
  tail_below =
      let h : tail < 256 * 256 ^ b = digits_lt (mod-lt i (omega arith)) (mod-lt x (one-le-pow b 256 (omega arith))) in
      let e : 256 * 256 ^ b ≡ 2 ^ (8 * suc b) = sym (pow-succ' 256 b) ∙ power_256 (suc b) in
      let l : 2 ^ (8 * suc b) ≤ 2 ^ (8 * m) = pow_mono (omega arith) in
      omega (arith, h, e, l)

  -- the rest of the tweak, filled up with zeros
  rest_is : block_of rest ≡ number_from_digits 256 rest * 2 ^ (8 * m)
  rest_is =
      sym (same_block (rest ++ replicate m 0) rest (λ j h. get_or_filled rest m j))
      ∙ block_exact (rest ++ replicate m 0) (length-append rest (replicate m 0) ∙ ap (λ (n : ℕ). length rest + n) (length-replicate m 0) ∙ sixteen)
      ∙ number_append rest (replicate m 0)
      ∙ ap₂ (λ (p q : ℕ). number_from_digits 256 rest * 256 ^ p + q) (length-replicate m 0) (number_nothing m)
      ∙ (omega arith) ∙ ap (λ (p : ℕ). number_from_digits 256 rest * p) (power_256 m)

  last_is : block_of (rest ++ (replicate z 0 ++ ys)) ≡ bit_xor (block_of rest) tail
  last_is =
      block_exact (rest ++ (replicate z 0 ++ ys)) (length-append rest (replicate z 0 ++ ys) ∙ ap (λ (n : ℕ). length rest + n) length_end ∙ sixteen)
      ∙ number_append rest (replicate z 0 ++ ys)
      ∙ ap₂ (λ (p q : ℕ). number_from_digits 256 rest * p + q) (ap (λ (n : ℕ). 256 ^ n) length_end ∙ power_256 m) (number_zeros z ys ∙ number_tail b i x)
      ∙ sym (xor_shifted (number_from_digits 256 rest) (8 * m) tail tail_below)
      ∙ ap (λ (p : ℕ). bit_xor p tail) (sym rest_is)

  last_block : block_at (round_bytes b tweak i x) (k / 16) ≡ bit_xor (block_of rest) tail
  unfolding round_bytes block_at
  last_block =
      ap (λ (n : ℕ). block_of (drop n (tweak ++ (replicate (filling b t) 0 ++ ys)))) (let e : 16 * (k / 16) ≡ k = omega arith in e)
      ∙ ap block_of (drop-front tweak (filling b t) k ys (omega arith)) ∙ last_is

  -- all blocks of a round from the tweak on
  round_blocks : blocks_of (round_bytes b tweak i x) ≡ blocks_of (take k tweak) ++ (bit_xor (block_of rest) tail ∷ [])
  unfolding blocks_of
  round_blocks =
      let q : ℕ = k / 16 in
      let Q = round_bytes b tweak i x in
      let count : (length Q + 15) / 16 ≡ q + 1 = omega (arith, full) in
      let lead : (length (take k tweak) + 15) / 16 ≡ q = simp length-take (omega arith) in
      ap (λ (n : ℕ). map (block_at Q) (range_with_len 0 n)) count ∙ map-range_with_len_more (block_at Q) 0 q q (omega arith)
      ∙ ap₂ (λ (xs : List ℕ) (y : ℕ). xs ++ (y ∷ []))
      (same_map (block_at Q) (block_at (take k tweak)) 0 0 q (λ j h. ap (block_at Q) (let e : 0 + j ≡ j = omega arith in e) ∙ leading_block j h)
      ∙ sym (ap (λ (n : ℕ). map (block_at (take k tweak)) (range_with_len 0 n)) lead))
      last_block

-- ---- the round function

head-length : (radix n t : ℕ) → length (head_block radix n t) ≡ 16
unfolding head_block
head-length radix n t = refl

chain_is : (f : ℕ → ℕ) (ps : List ℕ) (b : ℕ) (few : b ≤ 8) (tweak : List ℕ) (i x : ℕ) → length ps ≡ 16
    → let k = leading b (length tweak) in
    chained f 0 (blocks_of (ps ++ round_bytes b tweak i x))
    ≡ f (bit_xor (bit_xor (chained f (f (block_of ps)) (blocks_of (take k tweak))) (block_of (drop k tweak))) (i % 256 * 256 ^ b + x % 256 ^ b))
unfolding chained
chain_is f ps b few tweak i x e =
    let k : ℕ = leading b (length tweak) in
    let tail : ℕ = i % 256 * 256 ^ b + x % 256 ^ b in
    let last : ℕ = bit_xor (block_of (drop k tweak)) tail in
    ap (chained f 0) (front_block ps (round_bytes b tweak i x) e)
    ∙ ap₂ (λ (y : ℕ) (xs : List ℕ). chained f (f y) xs) (xor_zero_l (block_of ps)) (round_blocks b few tweak i x)
    ∙ chain_last f (f (block_of ps)) (blocks_of (take k tweak)) last
    ∙ ap f (sym (xor_assoc (chained f (f (block_of ps)) (blocks_of (take k tweak))) (block_of (drop k tweak)) tail))

pub round_same : (radix n : ℕ) (key tweak : List ℕ) → half_bytes radix n ≤ 8
    → round_number radix n key tweak ≡ masked key (mask_of radix n key tweak) (half_bytes radix n)
unfolding round_number prf masked mask_of
round_same radix n key tweak few =
    fun_ext (λ i. fun_ext (λ x.
    ap (λ (m : ℕ). m / 256 ^ (16 - drawn_bytes (half_bytes radix n)))
    (chain_is (aes_block key) (head_block radix n (length tweak)) (half_bytes radix n) few tweak i x (head-length radix n (length tweak)))))
