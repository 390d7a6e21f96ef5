-- What the limits of a tariff say, and a tariff by its parts. Assumes nothing.
use Rattle.std.proofs.Common.{◌≡◌, ℕ, zero, suc, ◌^◌, ◌<◌, ◌≤◌, Bool, true, ◌&&◌, eqb, ltb, leb, List, [], ◌∷◌, length, get_or, Some, sym, refl, ap, arith}
use Rattle.std.specs.List.{list_all}
use Rattle.std.proofs.lemmas.Bool.{and_parts, ltb-true, eqb-true}
use Rattle.std.proofs.lemmas.Bool.Decides.{nat_tests}
use Rattle.token.specs.Limits.{under, unused_zero, priced, tariffable}
use Rattle.token.specs.Tariffs.{tariff_of}
use Rattle.token.specs.declared.tariff.Tariff.{Tariff}
use Rattle.refusal.proofs.Making.{so, holds, made_so}

pub under_at : (limit : ℕ) (xs : List ℕ) (i : ℕ) → 0 < limit → under limit xs ≡ true → get_or xs i 0 < limit
under_at limit [] i p h = p
under_at limit (x ∷ xs) zero p h = ltb-true x limit (and_parts (ltb x limit) (under limit xs) h).0
under_at limit (x ∷ xs) (suc i) p h = under_at limit xs i p (and_parts (ltb x limit) (under limit xs) h).1

zero_at : (ps : List ℕ) (i : ℕ) → list_all (λ p. eqb p 0) ps ≡ true → get_or ps i 0 ≡ 0
zero_at [] i h = refl
zero_at (p ∷ ps) zero h = eqb-true p 0 (and_parts (eqb p 0) (list_all (λ q. eqb q 0) ps) h).0
zero_at (p ∷ ps) (suc i) h = zero_at ps i (and_parts (eqb p 0) (list_all (λ q. eqb q 0) ps) h).1

unused_at : (n : ℕ) (ps : List ℕ) (i : ℕ) → unused_zero n ps ≡ true → n ≤ i → get_or ps i 0 ≡ 0
unused_at zero ps i h l = zero_at ps i h
unused_at (suc n) [] i h l = refl
unused_at (suc n) (p ∷ ps) zero h l = absurd (omega arith)
unused_at (suc n) (p ∷ ps) (suc i) h l = unused_at n ps i h (omega arith)

-- what the limits of a tariff say of its numbers
pub record Limited (t : Tariff) : Type 0 where
  pub month : t.month < 64
  pub multiplier : t.multiplier ≤ 6
  pub some : 0 < t.count
  pub most : t.count ≤ 8

pub limited : (t : Tariff) → Limited t
limited t =
    let e : tariffable t.month t.multiplier t.count t.prices ≡ true = holds _ t.ok in
    record { month = grind (arith, nat_tests); multiplier = grind (arith, nat_tests); some = grind (arith, nat_tests); most = grind (arith, nat_tests) }

-- what the limits of a tariff say of its prices
priced_of : (t : Tariff) → priced t.count t.prices ≡ true
priced_of t =
    let m = ltb t.month 64 && leb t.multiplier 6 in
    let n = ltb 0 t.count && leb t.count 8 in
    (and_parts (m && n) (priced t.count t.prices) (holds _ t.ok)).1

pub long : (t : Tariff) → length t.prices ≡ 8
long t =
    let ps = t.prices in
    eqb-true (length ps) 8 (and_parts (eqb (length ps) 8) (under (2 ^ 14) ps) (and_parts (eqb (length ps) 8 && under (2 ^ 14) ps) (unused_zero t.count ps) (priced_of t)).0).0

-- each price has at most fourteen bits
pub small : (t : Tariff) (i : ℕ) → get_or t.prices i 0 < 2 ^ 14
small t i =
    let ps = t.prices in
    under_at (2 ^ 14) ps i (omega arith) (and_parts (eqb (length ps) 8) (under (2 ^ 14) ps) (and_parts (eqb (length ps) 8 && under (2 ^ 14) ps) (unused_zero t.count ps) (priced_of t)).0).1

pub unused : (t : Tariff) (i : ℕ) → t.count ≤ i → get_or t.prices i 0 ≡ 0
unused t i h =
    let ps = t.prices in
    unused_at t.count ps i (and_parts (eqb (length ps) 8 && under (2 ^ 14) ps) (unused_zero t.count ps) (priced_of t)).1 h

-- the parts of a tariff make it again
pub again : (t : Tariff) (c : Bool) (n : ℕ) (ps : List ℕ) → c ≡ t.complete → n ≡ t.count → ps ≡ t.prices → tariff_of c t.month t.multiplier n ps ≡ Some t
again t c n ps p q r =
    rw (p, q, r) (sym (so (tariffable t.month t.multiplier t.count t.prices) (λ o. record { complete = t.complete; month = t.month; multiplier = t.multiplier; count = t.count; prices = t.prices; ok = o }) t.ok))

-- a tariff that was read, by its fields
pub record Made (t : Tariff) (c : Bool) (m x n : ℕ) (ps : List ℕ) : Type 0 where
  pub complete : t.complete ≡ c
  pub month : t.month ≡ m
  pub multiplier : t.multiplier ≡ x
  pub count : t.count ≡ n
  pub prices : t.prices ≡ ps

pub made : (t : Tariff) (c : Bool) (m x n : ℕ) (ps : List ℕ) → tariff_of c m x n ps ≡ Some t → Made t c m x n ps
made t c m x n ps e =
    let p = (made_so (tariffable m x n ps) (λ o. record { complete = c; month = m; multiplier = x; count = n; prices = ps; ok = o }) t e).1 in
    record {
      complete = sym (ap (λ (u : Tariff). u.complete) p);
      month = sym (ap (λ (u : Tariff). u.month) p);
      multiplier = sym (ap (λ (u : Tariff). u.multiplier) p);
      count = sym (ap (λ (u : Tariff). u.count) p);
      prices = sym (ap (λ (u : Tariff). u.prices) p);
    }
