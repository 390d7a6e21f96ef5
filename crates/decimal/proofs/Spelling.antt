-- Text and the digits that it spells: what holds of every byte (every_at, every_more, every_all, every_set, every_take,
-- every_drop), the digits of decimal text (digit_in, under-values, get_or-values), text that digits spell (every-spelled,
-- values-spelled, spelled-values).
use Rattle.std.proofs.Common.{◌≡◌, ℕ, zero, suc, ◌+◌, ◌-◌, ◌<◌, ◌≤◌, Bool, true, ◌&&◌, leb, List, [], ◌∷◌, length, get_or, take, drop, set, sym, refl, ap, ◌∙◌, arith}
use Rattle.std.specs.Int.Digits.{AllBelowBase}
use Rattle.std.proofs.lemmas.Bool.{and_parts, and_from, leb-true, le-leb}
use Rattle.std.proofs.lemmas.List.{at_drop_more, at_drop_all, get_or-map}
use Rattle.std.specs.List.{list_all}
use Rattle.decimal.specs.Digits.{is_digit, values, spelled}

pub every_at : (p : ℕ → Bool) (xs : List ℕ) (k : ℕ) → list_all p xs ≡ true → k < length xs → p (get_or xs k 0) ≡ true
every_at p [] k e h = absurd (omega arith)
every_at p (x ∷ xs) zero e h = (and_parts (p x) (list_all p xs) e).0
every_at p (x ∷ xs) (suc k) e h = every_at p xs k (and_parts (p x) (list_all p xs) e).1 (omega arith)

-- what is left decides: one element on, and at the end
pub every_more : (p : ℕ → Bool) (xs : List ℕ) (i : ℕ) → i < length xs → p (get_or xs i 0) ≡ true → list_all p (drop (i + 1) xs) ≡ list_all p (drop i xs)
every_more p xs i h e = sym (at_drop_more (list_all p) xs i 0 h ∙ ap (λ b. b && list_all p (drop (i + 1) xs)) e)

pub every_all : (p : ℕ → Bool) (xs : List ℕ) (i : ℕ) → length xs ≤ i → list_all p (drop i xs) ≡ true
every_all p xs i h = at_drop_all (list_all p) xs i h

pub every_set : (p : ℕ → Bool) (xs : List ℕ) (i v : ℕ) → list_all p xs ≡ true → p v ≡ true → list_all p (set xs i v) ≡ true
every_set p [] i v e h = refl
every_set p (x ∷ xs) zero v e h = and_from (p v) (list_all p xs) h (and_parts (p x) (list_all p xs) e).1
every_set p (x ∷ xs) (suc i) v e h =
    let q = and_parts (p x) (list_all p xs) e in
    and_from (p x) (list_all p (set xs i v)) q.0 (every_set p xs i v q.1 h)

pub every_take : (p : ℕ → Bool) (n : ℕ) (xs : List ℕ) → list_all p xs ≡ true → list_all p (take n xs) ≡ true
every_take p zero xs e = refl
every_take p (suc n) [] e = refl
every_take p (suc n) (x ∷ xs) e =
    let q = and_parts (p x) (list_all p xs) e in
    and_from (p x) (list_all p (take n xs)) q.0 (every_take p n xs q.1)

pub every_drop : (p : ℕ → Bool) (n : ℕ) (xs : List ℕ) → list_all p xs ≡ true → list_all p (drop n xs) ≡ true
every_drop p zero xs e = e
every_drop p (suc n) [] e = refl
every_drop p (suc n) (x ∷ xs) e = every_drop p n xs (and_parts (p x) (list_all p xs) e).1

pub digit_in : (b : ℕ) → is_digit b ≡ true → (48 ≤ b) × (b ≤ 57)
digit_in b e = let q = and_parts (leb 48 b) (leb b 57) e in (leb-true 48 b q.0, leb-true b 57 q.1)

pub under-values : (t : List ℕ) → list_all is_digit t ≡ true → AllBelowBase 10 (values t)
under-values [] e = tt
under-values (b ∷ t) e =
    let q = and_parts (is_digit b) (list_all is_digit t) e in
    let h = digit_in b q.0 in
    (omega arith, under-values t q.1)

pub get_or-values : (t : List ℕ) (i : ℕ) → i < length t → get_or (values t) i 0 ≡ get_or t i 0 - 48
get_or-values t i h = get_or-map (λ b. b - 48) t i 0 0 h

pub every-spelled : (ds : List ℕ) → AllBelowBase 10 ds → list_all is_digit (spelled ds) ≡ true
every-spelled [] u = refl
every-spelled (d ∷ ds) u =
    let h = u.0 in
    and_from (is_digit (d + 48)) (list_all is_digit (spelled ds))
    (and_from (leb 48 (d + 48)) (leb (d + 48) 57) (le-leb 48 (d + 48) (omega arith)) (le-leb (d + 48) 57 (omega arith)))
    (every-spelled ds u.1)

pub values-spelled : (ds : List ℕ) → values (spelled ds) ≡ ds
values-spelled [] = refl
values-spelled (d ∷ ds) = let e : d + 48 - 48 ≡ d = omega arith in rw (e, values-spelled ds)

pub spelled-values : (t : List ℕ) → list_all is_digit t ≡ true → spelled (values t) ≡ t
spelled-values [] e = refl
spelled-values (b ∷ t) e =
    let q = and_parts (is_digit b) (list_all is_digit t) e in
    let h = digit_in b q.0 in
    let s : b - 48 + 48 ≡ b = omega arith in
    λ i. s i ∷ spelled-values t q.1 i
