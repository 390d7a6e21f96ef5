-- A chain over blocks, as a fold over the chunks of a row, and the last one, over plain values.
use Rattle.std.proofs.Common.{◌≡◌, ℕ, suc, ◌+◌, ◌*◌, ◌/◌, true, List, [], ◌∷◌, ◌++◌, map, length, take, drop, fold, Option, IfSome, slice_get, sym, refl, ap, ◌∙◌, ap₂, subst, arith, get_or-take}
use denote.Ref.{Bor}
use lib.Bits.{bit_xor}
use Rattle.std.specs.List.{range_with_len}
use Rattle.std.specs.Iterator.Runs.{Run, YieldsRun, IsChunksRun}
use Rattle.std.proofs.lemmas.Option.{IfSome_then}
use Rattle.chaining.specs.Blocks.{block_of, block_at, blocks_of, chained}
use Rattle.chaining.proofs.Numbers.{same_block}

-- a block is made of the first sixteen bytes alone
cut_block : (xs : List ℕ) → block_of (take 16 xs) ≡ block_of xs
cut_block xs = same_block (take 16 xs) xs (λ i h. get_or-take 16 xs i 0 h)

-- a list of which v makes w (a + k) at each place k
by_places : {X : Type 0} (v : X → ℕ) (w : ℕ → ℕ) (xs : List X) (a : ℕ) → ((k : ℕ) → IfSome (slice_get xs k) (λ x. v x ≡ w (a + k)))
    → map v xs ≡ map w (range_with_len a (length xs))
by_places v w [] a h = refl
by_places v w (x ∷ xs) a h =
    ap₂ (λ (y : ℕ) (ys : List ℕ). y ∷ ys) (h 0 ∙ ap w (let e : a + 0 ≡ a = omega arith in e))
    (by_places v w xs (a + 1) (λ k. subst (λ (m : ℕ). IfSome (slice_get xs k) (λ z. v z ≡ w m)) (let e : a + suc k ≡ a + 1 + k = omega arith in e) (h (suc k))))

folded : (f : ℕ → ℕ) (y : ℕ) (bs : List (Bor (List ℕ))) → fold (λ z b. f (bit_xor z (block_of b.now))) y bs ≡ chained f y (map (λ b. block_of b.now) bs)
unfolding chained
folded f y [] = refl
folded f y (b ∷ bs) = folded f (f (bit_xor y (block_of b.now))) bs

module _ {S : Type 0} {steps : S → Option (Bor (List ℕ)) → S → Type 0} (p : Run steps) (whole : p.whole ≡ true)
    (n : ℕ) (xs : List ℕ) (cut : IsChunksRun p n xs) (sixteen : n ≡ 16) where
  -- the chunks of a row are its blocks
  chunks_are : map (λ (b : Bor (List ℕ)). block_of b.now) p.items ≡ blocks_of xs
  unfolding blocks_of block_at YieldsRun
  chunks_are =
      let c = subst (λ (k : ℕ). IsChunksRun p k xs) sixteen cut in
      by_places (λ (b : Bor (List ℕ)). block_of b.now) (block_at xs) p.items 0
      (λ k. subst (λ (o : Option (Bor (List ℕ))). IfSome o (λ b. block_of b.now ≡ block_at xs (0 + k))) (p.gave.1 k)
      (IfSome_then (p.at k) (c.2 k)
      (λ b m. ap block_of m.2.0 ∙ cut_block (drop (k * 16) xs) ∙ ap (λ (i : ℕ). block_of (drop i xs)) (let e : k * 16 ≡ 16 * (0 + k) = omega arith in e))))
      ∙ ap (λ (k : ℕ). map (block_at xs) (range_with_len 0 k)) (let e : length p.items ≡ (length xs + 15) / 16 = omega (arith, sym p.long, c.1 whole) in e)

  -- and a fold over them that adds each one and maps the sum is a chain
  pub fold_is : (f : ℕ → ℕ) (y : ℕ) → fold (λ z b. f (bit_xor z (block_of b.now))) y p.items ≡ chained f y (blocks_of xs)
  fold_is f y = folded f y p.items ∙ ap (chained f y) chunks_are

-- the last block of a chain
pub chain_last : (f : ℕ → ℕ) (y : ℕ) (xs : List ℕ) (z : ℕ) → chained f y (xs ++ (z ∷ [])) ≡ f (bit_xor (chained f y xs) z)
unfolding chained
chain_last f y [] z = refl
chain_last f y (x ∷ xs) z = chain_last f (f (bit_xor y x)) xs z
