-- A row that has f i at the place i, for each i below n: written by a loop, with its invariant, its step and its end; or made by `from_fn`.
use Rattle.std.proofs.Common.{◌≡◌, ℕ, zero, suc, ◌+◌, ◌<◌, ◌≤◌, List, map, length, get_or, set, sym, refl, ◌∙◌, subst, le_of_suc-le-suc, not-suc-le-zero, add-zero, arith, length-set}
use denote.Param.Members.{Mut, Called}
use Rattle.std.specs.Array.{IsFromFnResultFrom, IsFromFnResult}
use Rattle.std.specs.List.{range_with_len}
use Rattle.std.proofs.lemmas.List.Edits.{fill_by_more}
use Rattle.std.proofs.lemmas.List.FromFn.{fill_by_all}

module _ {X : Type 0} where
  abbrev pub Filled : (f : ℕ → X) (d : X) (n : ℕ) (xs : List X) (i : ℕ) → Type 0
  Filled f d n xs i = (length xs ≡ n) × ((k : ℕ) → k < i → get_or xs k d ≡ f k)

  pub filled_more : (f : ℕ → X) (d : X) (n : ℕ) (xs : List X) (i : ℕ) (v : X) → i < n → Filled f d n xs i → v ≡ f i → Filled f d n (set xs i v) (i + 1)
  filled_more f d n xs i v h p e =
      let lt : i < length xs = omega arith in
      (length-set xs i v ∙ p.0, subst (λ (w : X). (k : ℕ) → k < i + 1 → get_or (set xs i w) k d ≡ f k) (sym e) (fill_by_more f xs i d lt p.1))

  pub filled_all : (f : ℕ → X) (d : X) (n : ℕ) (xs : List X) (i : ℕ) → n ≤ i → Filled f d n xs i → xs ≡ map f (range_with_len 0 n)
  filled_all f d n xs i h p = fill_by_all f xs n d p.0 (λ k l. p.1 k (omega arith))

-- what `from_fn` makes where each call gives h i at the place i and leaves the closure as it was
module _ {F X : Type 0} (g : Mut F (ℕ × Unit {0}) X) (f : F) (h : ℕ → X) (xs : List X) (d : X)
    (each : (i : ℕ) (x : X) (q : F) → Called g f (i, tt) x q → (x ≡ h i) × (q ≡ f)) where
  here : (i : ℕ) (p q : F) (x : X) → p ≡ f → Called g p (i, tt) x q → (x ≡ h i) × (q ≡ f)
  here i p q x e t = each i x q (subst (λ (s : F). Called g s (i, tt) x q) e t)

  from : (n i : ℕ) (p : F) → p ≡ f → IsFromFnResultFrom g p xs i n → (k : ℕ) → k < n → get_or xs (i + k) d ≡ h (i + k)
  from zero i p e made k l = absurd (not-suc-le-zero l)
  from (suc n) i p e made zero l =
      rw (add-zero i) (made.2.1 d ∙ (here i p made.0 made.1 e made.3).0)
  from (suc n) i p e made (suc k) l =
      subst (λ (m : ℕ). get_or xs m d ≡ h m) (let s : i + 1 + k ≡ i + suc k = omega arith in s)
      (from n (i + 1) made.0 (here i p made.0 made.1 e made.3).1 made.4 k (le_of_suc-le-suc l))

  pub from_fn_is : (n : ℕ) → IsFromFnResult g f xs n → xs ≡ map h (range_with_len 0 n)
  from_fn_is n made =
      fill_by_all h xs n d made.long
      (λ k l. subst (λ (m : ℕ). get_or xs m d ≡ h m) (let s : 0 + k ≡ k = omega arith in s) (from n 0 f refl made.each k l))
