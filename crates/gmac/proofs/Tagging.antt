-- The tag, the first counter and the value that a key makes, over plain values.
use Rattle.std.proofs.Common.{◌≡◌, ℕ, ◌+◌, ◌^◌, ◌<◌, ◌≤◌, List, [], ◌∷◌, ◌++◌, length, get_or, sym, refl, ap, ◌∙◌, ap₂, arith, lit<, lit≤}
use mathlib.Core.Path.{Cosingl, contract'}
use lib.Bits.{bit_xor}
use lib.ListN.{get_or-append}
use Rattle.std.proofs.lemmas.List.{get_or_past, get_or-append-add}
use Rattle.spelling.specs.Spelling.{bytes_of}
use Rattle.aes.specs.Keyed.{aes_for, key_of}
use Rattle.aes.specs.declared.state.Aes128.{Aes128}
use Rattle.chaining.specs.Blocks.{aes_block, block_of, blocks_of, chained}
use Rattle.chaining.proofs.Chaining.{chain_last}
use Rattle.ghash.specs.Ghash.{product}
use Rattle.ghash.specs.Keyed.{hash_for, times}
use Rattle.ghash.specs.declared.state.HashKey.{HashKey}
use Rattle.gmac.specs.Gmac.{hash_key, ghash, first_counter, lengths, gmac}
use Rattle.gmac.specs.Authenticating.{gmac_for}
use Rattle.gmac.specs.declared.state.Gmac.{Gmac}

-- the nonce's block and the first counter, which differ in the last byte
module _ (nonce : List ℕ) (twelve : length nonce ≡ 12) where
  past : (k : ℕ) → 12 ≤ k → get_or nonce k 0 ≡ 0
  past k h = get_or_past nonce k 0 (omega arith)

  front : (k : ℕ) → k < 12 → get_or (nonce ++ (0 ∷ 0 ∷ 0 ∷ 1 ∷ [])) k 0 ≡ get_or nonce k 0
  front k h = get_or-append nonce (0 ∷ 0 ∷ 0 ∷ 1 ∷ []) 0 k (omega arith)

  behind : (j k : ℕ) → 12 + j ≡ k → get_or (nonce ++ (0 ∷ 0 ∷ 0 ∷ 1 ∷ [])) k 0 ≡ get_or (0 ∷ 0 ∷ 0 ∷ 1 ∷ []) j 0
  behind j k e =
      ap (λ (m : ℕ). get_or (nonce ++ (0 ∷ 0 ∷ 0 ∷ 1 ∷ [])) m 0) (let f : k ≡ length nonce + j = omega arith in f)
      ∙ get_or-append-add nonce (0 ∷ 0 ∷ 0 ∷ 1 ∷ []) j 0

  pub room : (r : ℕ) → r ≡ block_of nonce → r < 2 ^ 128 → r + 1 < 2 ^ 128
  unfolding block_of
  room r e h = omega (arith, e, h, past 12 (lit≤ tt), past 13 (lit≤ tt), past 14 (lit≤ tt), past 15 (lit≤ tt))

  pub counter_is : block_of nonce + 1 ≡ first_counter nonce
  unfolding first_counter block_of
  counter_is =
      omega (
        arith,
        past 12 (lit≤ tt),
        past 13 (lit≤ tt),
        past 14 (lit≤ tt),
        past 15 (lit≤ tt),
        front 0 (lit< tt),
        front 1 (lit< tt),
        front 2 (lit< tt),
        front 3 (lit< tt),
        front 4 (lit< tt),
        front 5 (lit< tt),
        front 6 (lit< tt),
        front 7 (lit< tt),
        front 8 (lit< tt),
        front 9 (lit< tt),
        front 10 (lit< tt),
        front 11 (lit< tt),
        behind 0 12 refl,
        behind 1 13 refl,
        behind 2 14 refl,
        behind 3 15 refl,
      )

-- the tag of the bytes m, from what each call of the code gave
pub tag_is : (key nonce m : List ℕ) (h : HashKey) (y l z s c : ℕ) (r : List ℕ) → h ≡ hash_for (hash_key key)
    → y ≡ chained (times h) 0 (blocks_of m) → l ≡ lengths m → z ≡ times h (bit_xor y l) → c ≡ first_counter nonce → s ≡ aes_block key c
    → r ≡ bytes_of 16 (bit_xor s z) → r ≡ gmac key nonce m
unfolding gmac ghash
tag_is key nonce m h y l z s c r eh ey el ez ec es er =
    let f : ℕ → ℕ = λ b. product b (hash_key key) in
    let hashed : z ≡ chained f 0 (blocks_of m ++ (lengths m ∷ [])) =
    ez ∙ ap₂ (λ (p q : ℕ). times h (bit_xor p q)) ey el ∙ ap (λ (k : HashKey). times k (bit_xor (chained (times k) 0 (blocks_of m)) (lengths m))) eh
    ∙ sym (chain_last f 0 (blocks_of m) (lengths m)) in
    er ∙ ap (bytes_of 16) (ap₂ bit_xor (es ∙ ap (aes_block key) ec) hashed)

pub made : (key : List ℕ) (meter : ℕ) (a : Aes128) (h : HashKey) (e : h ≡ hash_for (hash_key (key_of a))) → a ≡ aes_for key
    → ◌≡◌ {A = Gmac} (record { aes = a; hash = h; kept = e }) (gmac_for key meter)
made key meter a h e p =
    sym (ap (λ (t : Cosingl (hash_for (hash_key (key_of a)))). record { aes = a; hash = t.0; kept = t.1 }) (contract' e))
    ∙ ap (λ (b : Aes128). record { aes = b; hash = hash_for (hash_key (key_of b)); kept = refl }) p
