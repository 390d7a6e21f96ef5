-- The first block of a round, the mask and the prepared rounds, over plain values.
use Rattle.std.proofs.Common.{◌≡◌, ℕ, ◌/◌, ◌%◌, ◌<◌, min, List, [], ◌∷◌, length, get_or, take, drop, ap, ◌∙◌, ap₂, arith}
use lib.Bits.{bit_xor}
use Rattle.std.proofs.lemmas.List.{take_min, drop_min}
use Rattle.spelling.specs.Spelling.{bytes_of}
use Rattle.chaining.specs.Blocks.{aes_block, block_of, blocks_of, chained}
use Rattle.ff1.specs.Ff1.{half_bytes, head_block}
use Rattle.ff1.specs.Preparing.{leading, mask_of}

-- the head's bytes, from those of radix and length
pub head_is : (radix n t : ℕ) (rs ns : List ℕ) → rs ≡ bytes_of 4 radix → ns ≡ bytes_of 4 n → t < 256
    → 1 ∷ 2 ∷ 1 ∷ get_or rs 1 0 ∷ get_or rs 2 0 ∷ get_or rs 3 0 ∷ 10 ∷ n / 2 % 256 ∷ get_or ns 0 0 ∷ get_or ns 1 0 ∷ get_or ns 2 0 ∷ get_or ns 3 0 ∷ 0 ∷ 0 ∷ 0 ∷ t ∷ []
    ≡ head_block radix n t
unfolding head_block
head_is radix n t rs ns er en h =
    let z3 : 0 ≡ t / 16777216 % 256 = omega arith in
    let z2 : 0 ≡ t / 65536 % 256 = omega arith in
    let z1 : 0 ≡ t / 256 % 256 = omega arith in
    let z0 : t ≡ t % 256 = omega arith in
    λ i.
    1 ∷ 2 ∷ 1 ∷ get_or (er i) 1 0 ∷ get_or (er i) 2 0 ∷ get_or (er i) 3 0 ∷ 10 ∷ n / 2 % 256 ∷ get_or (en i) 0 0 ∷ get_or (en i) 1 0 ∷ get_or (en i) 2 0 ∷ get_or (en i) 3 0
    ∷ z3 i ∷ z2 i ∷ z1 i ∷ z0 i ∷ []

-- the mask, from what each call of the code gave
pub mask_is : (radix n : ℕ) (key tweak : List ℕ) (k c : ℕ) (head front rest : List ℕ) (p start y q : ℕ)
    → k ≡ leading (half_bytes radix n) (length tweak) → c ≡ min k (length tweak) → head ≡ head_block radix n (length tweak) → p ≡ block_of head
    → start ≡ aes_block key p → front ≡ take c tweak → rest ≡ drop c tweak → y ≡ chained (aes_block key) start (blocks_of front) → q ≡ block_of rest
    → bit_xor y q ≡ mask_of radix n key tweak
unfolding mask_of
mask_is radix n key tweak k c head front rest p start y q ek ec eh ep es ef er ey eq =
    let cut : front ≡ take k tweak = ef ∙ ap (λ (m : ℕ). take m tweak) ec ∙ take_min k tweak in
    let left : rest ≡ drop k tweak = er ∙ ap (λ (m : ℕ). drop m tweak) ec ∙ drop_min k tweak in
    ap₂ bit_xor
    (ey ∙ ap₂ (λ (s : ℕ) (xs : List ℕ). chained (aes_block key) s (blocks_of xs)) (es ∙ ap (aes_block key) (ep ∙ ap block_of eh)) cut)
    (eq ∙ ap block_of left)
    ∙ ap (λ (m : ℕ). bit_xor (chained (aes_block key) (aes_block key (block_of (head_block radix n (length tweak)))) (blocks_of (take m tweak))) (block_of (drop m tweak))) ek
