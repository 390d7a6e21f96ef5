-- The tables keep the rule, by one computed test over each (product_at, power_at), and the check digit is the one that closes (checks).
use Rattle.std.proofs.Common.{◌≡◌, ℕ, zero, suc, ◌+◌, ◌*◌, ◌/◌, ◌%◌, ◌<◌, Bool, true, not, ◌&&◌, ◌||◌, eqb, ltb, List, [], ◌∷◌, get_or, sym, refl, ap, ◌∙◌, ⊎_elim, suc-add, zero-add, arith}
use Rattle.std.proofs.lemmas.Bool.{and_parts, or_cases, not-true, both_ways, eq-eqb, eqb-true, ltb-true}
use Rattle.std.proofs.lemmas.Nat.{div-add-mod', mod_below}
use Rattle.decimal.proofs.Bounded.{up_at, up_to2, up2_at}
use Rattle.decimal.specs.CheckDigits.{product, mapped, passes, whole, inverse, Checks}

-- a table of rows, and the rule of its entries
abbrev entry : List (List ℕ) → ℕ → ℕ → ℕ
entry rows a b = get_or (get_or rows a []) b 0

abbrev right : (ℕ → ℕ → ℕ) → List (List ℕ) → ℕ → ℕ → Bool
right rule rows a b = eqb (entry rows a b) (rule a b) && ltb (entry rows a b) 10

pub at : (rule : ℕ → ℕ → ℕ) (rows : List (List ℕ)) (m n : ℕ) → up_to2 (right rule rows) m n ≡ true →
    (a b : ℕ) → a < m → b < n → (entry rows a b ≡ rule a b) × (entry rows a b < 10)
at rule rows m n t a b ha hb =
    let p = and_parts (eqb (entry rows a b) (rule a b)) (ltb (entry rows a b) 10) (up2_at (right rule rows) m n t a b ha hb) in
    (eqb-true (entry rows a b) (rule a b) p.0, ltb-true (entry rows a b) 10 p.1)

passes_add : (j k d : ℕ) → passes (j + k) d ≡ passes k (passes j d)
unfolding passes
passes_add zero k d = simp zero-add
passes_add (suc j) k d = simp suc-add (passes_add j k (mapped d))

-- eight passes bring every digit back
eight : (d : ℕ) → d < 10 → passes 8 d ≡ d
unfolding passes mapped
eight d h = eqb-true (passes 8 d) d (up_at (λ d. eqb (passes 8 d) d) 10 refl d h)

turns : (q r d : ℕ) → d < 10 → passes (q * 8 + r) d ≡ passes r d
turns zero r d h = let e : zero * 8 + r ≡ r = omega arith in rw e
turns (suc q) r d h =
    let e : suc q * 8 + r ≡ 8 + (q * 8 + r) = omega arith in
    rw e (passes_add 8 (q * 8 + r) d ∙ ap (passes (q * 8 + r)) (eight d h) ∙ turns q r d h)

pub passes_mod : (i d : ℕ) → d < 10 → passes (i % 8) d ≡ passes i d
passes_mod i d h = sym (turns (i / 8) (i % 8) d h) ∙ ap (λ n. passes n d) (div-add-mod' i 8)

abbrev pub products : List (List ℕ)
products =
    (0 ∷ 1 ∷ 2 ∷ 3 ∷ 4 ∷ 5 ∷ 6 ∷ 7 ∷ 8 ∷ 9 ∷ []) ∷
    (1 ∷ 2 ∷ 3 ∷ 4 ∷ 0 ∷ 6 ∷ 7 ∷ 8 ∷ 9 ∷ 5 ∷ []) ∷
    (2 ∷ 3 ∷ 4 ∷ 0 ∷ 1 ∷ 7 ∷ 8 ∷ 9 ∷ 5 ∷ 6 ∷ []) ∷
    (3 ∷ 4 ∷ 0 ∷ 1 ∷ 2 ∷ 8 ∷ 9 ∷ 5 ∷ 6 ∷ 7 ∷ []) ∷
    (4 ∷ 0 ∷ 1 ∷ 2 ∷ 3 ∷ 9 ∷ 5 ∷ 6 ∷ 7 ∷ 8 ∷ []) ∷
    (5 ∷ 9 ∷ 8 ∷ 7 ∷ 6 ∷ 0 ∷ 4 ∷ 3 ∷ 2 ∷ 1 ∷ []) ∷
    (6 ∷ 5 ∷ 9 ∷ 8 ∷ 7 ∷ 1 ∷ 0 ∷ 4 ∷ 3 ∷ 2 ∷ []) ∷
    (7 ∷ 6 ∷ 5 ∷ 9 ∷ 8 ∷ 2 ∷ 1 ∷ 0 ∷ 4 ∷ 3 ∷ []) ∷
    (8 ∷ 7 ∷ 6 ∷ 5 ∷ 9 ∷ 3 ∷ 2 ∷ 1 ∷ 0 ∷ 4 ∷ []) ∷
    (9 ∷ 8 ∷ 7 ∷ 6 ∷ 5 ∷ 4 ∷ 3 ∷ 2 ∷ 1 ∷ 0 ∷ []) ∷ []

abbrev pub powers : List (List ℕ)
powers =
    (0 ∷ 1 ∷ 2 ∷ 3 ∷ 4 ∷ 5 ∷ 6 ∷ 7 ∷ 8 ∷ 9 ∷ []) ∷
    (1 ∷ 5 ∷ 7 ∷ 6 ∷ 2 ∷ 8 ∷ 3 ∷ 0 ∷ 9 ∷ 4 ∷ []) ∷
    (5 ∷ 8 ∷ 0 ∷ 3 ∷ 7 ∷ 9 ∷ 6 ∷ 1 ∷ 4 ∷ 2 ∷ []) ∷
    (8 ∷ 9 ∷ 1 ∷ 6 ∷ 0 ∷ 4 ∷ 3 ∷ 5 ∷ 2 ∷ 7 ∷ []) ∷
    (9 ∷ 4 ∷ 5 ∷ 3 ∷ 1 ∷ 2 ∷ 6 ∷ 8 ∷ 7 ∷ 0 ∷ []) ∷
    (4 ∷ 2 ∷ 8 ∷ 6 ∷ 5 ∷ 7 ∷ 3 ∷ 9 ∷ 0 ∷ 1 ∷ []) ∷
    (2 ∷ 7 ∷ 9 ∷ 3 ∷ 8 ∷ 0 ∷ 6 ∷ 4 ∷ 1 ∷ 5 ∷ []) ∷
    (7 ∷ 0 ∷ 4 ∷ 6 ∷ 9 ∷ 1 ∷ 3 ∷ 2 ∷ 5 ∷ 8 ∷ []) ∷ []

pub product_at : (a b : ℕ) → a < 10 → b < 10 → (entry products a b ≡ product a b) × (entry products a b < 10)
unfolding product
product_at = at product products 10 10 refl

pub power_at : (i d : ℕ) → d < 10 → (entry powers (i % 8) d ≡ passes i d) × (entry powers (i % 8) d < 10)
unfolding passes mapped
power_at i d h =
    let p = at passes powers 8 10 refl (i % 8) d (mod_below i 8 (omega arith)) h in
    (p.0 ∙ passes_mod i d h, p.1)

undoes : ℕ → Bool
undoes p = ltb (inverse p) 10 && eqb (product p (inverse p)) 0

alone : ℕ → ℕ → Bool
alone p d = not (eqb (product p d) 0) || eqb d (inverse p)

-- what the check digit is, by the two tests
pub checks : (ds : List ℕ) → whole ds < 10 → Checks ds (inverse (whole ds))
unfolding undoes alone product
checks ds h =
    let p = whole ds in
    let q = and_parts (ltb (inverse p) 10) (eqb (product p (inverse p)) 0) (up_at undoes 10 refl p h) in
    record {
      digit = ltb-true (inverse p) 10 q.0;
      closes = eqb-true (product p (inverse p)) 0 q.1;
      only = λ d k e. ⊎_elim
          (λ n. absurd (both_ways (eqb (product p d) 0) (not-true (eqb (product p d) 0) n) (eq-eqb (product p d) 0 e)))
          (λ t. eqb-true d (inverse p) t)
          (or_cases (not (eqb (product p d) 0)) (eqb d (inverse p)) (up2_at alone 10 10 refl p d h k));
    }
