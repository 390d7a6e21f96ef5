-- The product cancels on both sides, the map and the inverse are one to one: so a wrong digit (wrong_digit) and two neighbours in
-- the wrong order (wrong_order) change the check digit, which is a digit (running_lt, check_digit_lt).
use Rattle.std.proofs.Common.{◌≡◌, ℕ, zero, suc, ◌<◌, Bool, true, not, ◌||◌, eqb, ltb, List, [], ◌∷◌, ◌++◌, sym, refl, ap, ◌∙◌, ⊎_elim, lit<}
use Rattle.std.specs.Int.Digits.{AllBelowBase}
use Rattle.std.proofs.lemmas.Bool.{or_cases, not-true, both_ways, eq-eqb, eqb-true, ltb-true}
use Rattle.decimal.proofs.Bounded.{up_at, up_to2, up2_at}
use Rattle.decimal.proofs.Tables.{checks}
use Rattle.decimal.specs.CheckDigits.{product, mapped, passes, running, whole, inverse, check_digit}

-- a test that antt computes at each pair of digits: what f takes to one value is one
apart : (ℕ → ℕ) → ℕ → ℕ → Bool
apart f a b = not (eqb (f a) (f b)) || eqb a b

one_to_one : (f : ℕ → ℕ) → up_to2 (apart f) 10 10 ≡ true → (a b : ℕ) → a < 10 → b < 10 → f a ≡ f b → a ≡ b
unfolding apart
one_to_one f t a b ha hb e = ⊎_elim
    (λ n. absurd (both_ways (eqb (f a) (f b)) (not-true (eqb (f a) (f b)) n) (eq-eqb (f a) (f b) e)))
    (λ s. eqb-true a b s)
    (or_cases (not (eqb (f a) (f b))) (eqb a b) (up2_at (apart f) 10 10 t a b ha hb))

-- the same test for two digits in both orders
cross : ℕ → ℕ → ℕ → Bool
cross p u w = not (eqb (product (product p u) (mapped w)) (product (product p w) (mapped u))) || eqb u w

left : (p a b : ℕ) → p < 10 → a < 10 → b < 10 → product p a ≡ product p b → a ≡ b
unfolding product apart
left p a b h = one_to_one (product p) (up_at (λ p. up_to2 (apart (product p)) 10 10) 10 refl p h) a b

right : (x p q : ℕ) → x < 10 → p < 10 → q < 10 → product p x ≡ product q x → p ≡ q
unfolding product apart
right x p q h = one_to_one (λ p. product p x) (up_at (λ x. up_to2 (apart (λ p. product p x)) 10 10) 10 refl x h) p q

closed : (p a : ℕ) → p < 10 → a < 10 → product p a < 10
unfolding product
closed p a hp ha = ltb-true (product p a) 10 (up2_at (λ p a. ltb (product p a) 10) 10 10 refl p a hp ha)

mapped_lt : (d : ℕ) → d < 10 → mapped d < 10
unfolding mapped
mapped_lt d h = ltb-true (mapped d) 10 (up_at (λ d. ltb (mapped d) 10) 10 refl d h)

mapped-one : (a b : ℕ) → a < 10 → b < 10 → mapped a ≡ mapped b → a ≡ b
unfolding mapped apart
mapped-one = one_to_one mapped refl

inverse-one : (a b : ℕ) → a < 10 → b < 10 → inverse a ≡ inverse b → a ≡ b
unfolding apart
inverse-one = one_to_one inverse refl

passes_lt : (k d : ℕ) → d < 10 → passes k d < 10
unfolding passes
passes_lt zero d h = h
passes_lt (suc k) d h = passes_lt k (mapped d) (mapped_lt d h)

passes-one : (k a b : ℕ) → a < 10 → b < 10 → passes k a ≡ passes k b → a ≡ b
unfolding passes
passes-one zero a b ha hb e = e
passes-one (suc k) a b ha hb e = mapped-one a b ha hb (passes-one k (mapped a) (mapped b) (mapped_lt a ha) (mapped_lt b hb) e)

pub running_lt : (i p : ℕ) (ds : List ℕ) → p < 10 → AllBelowBase 10 ds → running i p ds < 10
unfolding running
running_lt i p [] h u = h
running_lt i p (d ∷ ds) h u = running_lt (suc i) (product p (passes i d)) ds (closed p (passes i d) h (passes_lt i d u.0)) u.1

running-one : (i p q : ℕ) (ds : List ℕ) → p < 10 → q < 10 → AllBelowBase 10 ds → running i p ds ≡ running i q ds → p ≡ q
unfolding running
running-one i p q [] hp hq u e = e
running-one i p q (d ∷ ds) hp hq u e =
    let x = passes_lt i d u.0 in
    right (passes i d) p q x hp hq (running-one (suc i) (product p (passes i d)) (product q (passes i d)) ds (closed p (passes i d) hp x) (closed q (passes i d) hq x) u.1 e)

wrong : (i p : ℕ) (xs ys : List ℕ) (a b : ℕ) → p < 10 → AllBelowBase 10 xs → AllBelowBase 10 ys → a < 10 → b < 10 →
    running i p (xs ++ (a ∷ ys)) ≡ running i p (xs ++ (b ∷ ys)) → a ≡ b
unfolding running
wrong i p [] ys a b hp u v ha hb e =
    let x = passes_lt i a ha in
    let y = passes_lt i b hb in
    passes-one i a b ha hb (left p (passes i a) (passes i b) hp x y
    (running-one (suc i) (product p (passes i a)) (product p (passes i b)) ys (closed p (passes i a) hp x) (closed p (passes i b) hp y) v e))
wrong i p (x ∷ xs) ys a b hp u v ha hb e =
    wrong (suc i) (product p (passes i x)) xs ys a b (closed p (passes i x) hp (passes_lt i x u.0)) u.1 v ha hb e

-- two digits in the other order change the product, unless they are one
crossed : (p u w : ℕ) → p < 10 → u < 10 → w < 10 → product (product p u) (mapped w) ≡ product (product p w) (mapped u) → u ≡ w
unfolding product mapped cross
crossed p u w hp hu hw e = ⊎_elim
    (λ n. absurd (both_ways (eqb (product (product p u) (mapped w)) (product (product p w) (mapped u))) (not-true _ n) (eq-eqb _ _ e)))
    (λ s. eqb-true u w s)
    (or_cases (not (eqb (product (product p u) (mapped w)) (product (product p w) (mapped u)))) (eqb u w)
    (up2_at (cross p) 10 10 (up_at (λ p. up_to2 (cross p) 10 10) 10 refl p hp) u w hu hw))

passes_suc : (k d : ℕ) → passes (suc k) d ≡ mapped (passes k d)
unfolding passes
passes_suc zero d = refl
passes_suc (suc k) d = passes_suc k (mapped d)

pair : (i p : ℕ) (xs ys : List ℕ) (a b : ℕ) → p < 10 → AllBelowBase 10 xs → AllBelowBase 10 ys → a < 10 → b < 10 →
    running i p (xs ++ (a ∷ b ∷ ys)) ≡ running i p (xs ++ (b ∷ a ∷ ys)) → a ≡ b
unfolding running
pair i p [] ys a b hp u v ha hb e =
    let x = passes_lt i a ha in
    let y = passes_lt i b hb in
    let x' = passes_lt (suc i) a ha in
    let y' = passes_lt (suc i) b hb in
    let f = running-one (suc (suc i)) (product (product p (passes i a)) (passes (suc i) b)) (product (product p (passes i b)) (passes (suc i) a)) ys
    (closed (product p (passes i a)) (passes (suc i) b) (closed p (passes i a) hp x) y') (closed (product p (passes i b)) (passes (suc i) a) (closed p (passes i b) hp y) x') v e in
    let g = ap (product (product p (passes i a))) (sym (passes_suc i b)) ∙ f ∙ ap (product (product p (passes i b))) (passes_suc i a) in
    passes-one i a b ha hb (crossed p (passes i a) (passes i b) hp x y g)
pair i p (x ∷ xs) ys a b hp u v ha hb e =
    pair (suc i) (product p (passes i x)) xs ys a b (closed p (passes i x) hp (passes_lt i x u.0)) u.1 v ha hb e

both : (xs ys : List ℕ) (a : ℕ) → AllBelowBase 10 xs → AllBelowBase 10 ys → a < 10 → AllBelowBase 10 (xs ++ (a ∷ ys))
both [] ys a u v h = (h, v)
both (x ∷ xs) ys a u v h = (u.0, both xs ys a u.1 v h)

pub wrong_digit : (xs ys : List ℕ) (a b : ℕ) → AllBelowBase 10 xs → AllBelowBase 10 ys → a < 10 → b < 10 →
    check_digit (xs ++ (a ∷ ys)) ≡ check_digit (xs ++ (b ∷ ys)) → a ≡ b
unfolding check_digit whole
wrong_digit xs ys a b u v ha hb e =
    let z : 0 < 10 = lit< tt in
    wrong 0 0 xs ys a b z u v ha hb
    (inverse-one (running 0 0 (xs ++ (a ∷ ys))) (running 0 0 (xs ++ (b ∷ ys)))
    (running_lt 0 0 (xs ++ (a ∷ ys)) z (both xs ys a u v ha)) (running_lt 0 0 (xs ++ (b ∷ ys)) z (both xs ys b u v hb)) e)

pub wrong_order : (xs ys : List ℕ) (a b : ℕ) → AllBelowBase 10 xs → AllBelowBase 10 ys → a < 10 → b < 10 →
    check_digit (xs ++ (a ∷ b ∷ ys)) ≡ check_digit (xs ++ (b ∷ a ∷ ys)) → a ≡ b
unfolding check_digit whole
wrong_order xs ys a b u v ha hb e =
    let z : 0 < 10 = lit< tt in
    pair 0 0 xs ys a b z u v ha hb
    (inverse-one (running 0 0 (xs ++ (a ∷ b ∷ ys))) (running 0 0 (xs ++ (b ∷ a ∷ ys)))
    (running_lt 0 0 (xs ++ (a ∷ b ∷ ys)) z (both xs (b ∷ ys) a u (hb, v) ha)) (running_lt 0 0 (xs ++ (b ∷ a ∷ ys)) z (both xs (a ∷ ys) b u (ha, v) hb)) e)

-- a check digit is a digit
pub check_digit_lt : (ds : List ℕ) → AllBelowBase 10 ds → check_digit ds < 10
unfolding check_digit whole
check_digit_lt ds u = (checks ds (running_lt 0 0 ds (lit< tt) u)).digit
