-- A test at each number below a bound: one number more (up_more), from each and at each (up_from, up_at), where it fails (up_fails);
-- a test that antt computes at each pair below two bounds (up_to2, up2_at).
use Rattle.std.proofs.Common.{◌≡◌, ℕ, zero, suc, ◌+◌, ◌<◌, Bool, true, false, refl, ⊎_elim, add-one, arith}
use Rattle.std.proofs.lemmas.Bool.{and_parts, and_from, cases_eq, both_ways}
use Rattle.decimal.specs.Digits.{up_to}

pub up_more : (p : ℕ → Bool) (i : ℕ) → p i ≡ true → up_to p i ≡ true → up_to p (i + 1) ≡ true
up_more p i h k = rw (add-one i, h, k)

pub up_from : (p : ℕ → Bool) (n : ℕ) → ((i : ℕ) → i < n → p i ≡ true) → up_to p n ≡ true
up_from p zero h = refl
up_from p (suc n) h = and_from (p n) (up_to p n) (h n (omega arith)) (up_from p n (λ i k. h i (omega arith)))

pub up_at : (p : ℕ → Bool) (n : ℕ) → up_to p n ≡ true → (k : ℕ) → k < n → p k ≡ true
up_at p zero t k h = absurd (omega arith)
up_at p (suc n) t k h =
    let q = and_parts (p n) (up_to p n) t in
    ⊎_elim (λ (e : k ≡ n). rw e q.0) (λ (ne : k ≡ n → ⊥). up_at p n q.1 k (omega arith)) (cases_eq k n)

pub up_fails : (p : ℕ → Bool) (n k : ℕ) → k < n → p k ≡ false → up_to p n ≡ false
up_fails p n k h f = elim (up_to p n) as (λ b. up_to p n ≡ b → b ≡ false) [
  | true ↦ λ t. absurd (both_ways (p k) f (up_at p n t k h))
  | false ↦ λ t. refl
] refl

abbrev pub up_to2 : (ℕ → ℕ → Bool) → ℕ → ℕ → Bool
up_to2 p m n = up_to (λ a. up_to (p a) n) m

pub up2_at : (p : ℕ → ℕ → Bool) (m n : ℕ) → up_to2 p m n ≡ true → (a b : ℕ) → a < m → b < n → p a b ≡ true
up2_at p m n t a b ha hb = up_at (p a) n (up_at (λ a. up_to (p a) n) m t a ha) b hb
