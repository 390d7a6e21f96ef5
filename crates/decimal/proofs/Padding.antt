-- Reading and writing digits undo one another, for any base and any length (there, back), one digit more read (number_step, folded) and
-- written (spelled_back), what written digits are (under-padded, length-padded).
use Rattle.std.proofs.Common.{◌≡◌, ℕ, zero, suc, ◌+◌, ◌-◌, ◌*◌, ◌/◌, ◌%◌, ◌^◌, ◌<◌, ◌≤◌, true, List, [], ◌∷◌, ◌++◌, length, get_or, take, drop, set, sym, refl, ap, ◌∙◌, append_assoc, pow-suc, add-one, arith}
use native.Mathlib.Nat.{pow-zero, pow-le-pow_right}
use Rattle.std.specs.Int.Digits.{number_from_digits, number_from_digits_after, AllBelowBase}
use Rattle.std.specs.List.{fold}
use Rattle.std.proofs.lemmas.Bool.{and_parts}
use Rattle.std.proofs.lemmas.Int.Digits.{number_push, number_more, number_lt}
use Rattle.std.proofs.ByRecursion.{All-get_or, All-push}
use Rattle.std.proofs.lemmas.List.{take_more, take_all, drop-set, length_push, length-map, length-append, map_push}
use Rattle.std.proofs.lemmas.Nat.{div-add-mod', div-mul-add, mod-mul-add, div_below, mod_below}
use Rattle.std.proofs.lemmas.List.Folds.{list_all-append}
use Rattle.std.specs.List.{list_all}
use Rattle.decimal.specs.Digits.{is_digit, values, spelled, padded}
use Rattle.decimal.proofs.Spelling.{digit_in, under-values}

pub there : (b : ℕ) → 0 < b → (k n : ℕ) → n < b ^ k → number_from_digits b (padded b k n) ≡ n
unfolding padded
there b p zero n h = let l : n < 1 = rw pow-zero at h in omega arith
there b p (suc k) n h =
    let l : n < b ^ k * b = rw pow-suc at h in
    number_push b (padded b k (n / b)) (n % b)
    ∙ ap (λ m. m * b + n % b) (there b p k (n / b) (div_below n b (b ^ k) p l))
    ∙ div-add-mod' n b

front : (b : ℕ) (xs : List ℕ) → AllBelowBase b xs → (k : ℕ) → k ≤ length xs → padded b k (number_from_digits b (take k xs)) ≡ take k xs
unfolding padded
front b xs u zero h = refl
front b xs u (suc k) h =
    let l : k < length xs = h in
    let d = All-get_or (λ d. d < b) xs k 0 l u in
    let e : number_from_digits b (take (suc k) xs) ≡ number_from_digits b (take k xs) * b + get_or xs k 0 = rw add-one at (number_more b xs k l) in
    let t : take (suc k) xs ≡ take k xs ++ (get_or xs k 0 ∷ []) = rw add-one at (take_more xs k 0 l) in
    rw (e, div-mul-add (number_from_digits b (take k xs)) b (get_or xs k 0) d, mod-mul-add (number_from_digits b (take k xs)) b (get_or xs k 0) d, front b xs u k (omega arith), t)

pub back : (b : ℕ) (ds : List ℕ) → AllBelowBase b ds → padded b (length ds) (number_from_digits b ds) ≡ ds
back b ds u = let l : length ds ≤ length ds = omega arith in let w = front b ds u (length ds) l in rw take_all at w

-- a digit spelled at a place joins those behind it
spelled_more : (b m i : ℕ) (out : List ℕ) → i < length out → spelled (padded b i (m / b)) ++ drop i (set out i (m % b + 48)) ≡ spelled (padded b (i + 1) m) ++ drop (i + 1) out
unfolding padded
spelled_more b m i out l =
    let t = spelled (padded b i (m / b)) in
    ap (λ xs. t ++ xs) (drop-set out i (m % b + 48) l)
    ∙ sym (append_assoc t ((m % b + 48) ∷ []) (drop (i + 1) out))
    ∙ ap (λ xs. xs ++ drop (i + 1) out) (sym (map_push (λ d. d + 48) (padded b i (m / b)) (m % b)) ∙ ap (λ k. spelled (padded b k m)) (sym (add-one i)))

-- the same, at a count that falls
pub spelled_back : (b m i : ℕ) (out : List ℕ) → 0 < i → i ≤ length out → spelled (padded b (i - 1) (m / b)) ++ drop (i - 1) (set out (i - 1) (m % b + 48)) ≡ spelled (padded b i m) ++ drop i out
spelled_back b m i out p l =
    let e : i - 1 + 1 ≡ i = omega arith in
    spelled_more b m (i - 1) out (omega arith) ∙ ap (λ k. spelled (padded b k m) ++ drop k out) e

pub under-padded : (b : ℕ) → 0 < b → (k n : ℕ) → AllBelowBase b (padded b k n)
unfolding padded
under-padded b p zero n = tt
under-padded b p (suc k) n = All-push (λ d. d < b) (padded b k (n / b)) (n % b) (under-padded b p k (n / b)) (mod_below n b p)

pub length-padded : (b k n : ℕ) → length (padded b k n) ≡ k
unfolding padded
length-padded b zero n = refl
length-padded b (suc k) n = length_push (padded b k (n / b)) (n % b) ∙ ap (λ m. m + 1) (length-padded b k (n / b)) ∙ add-one k

-- a byte behind others of decimal text is a digit, and the number with it fits
pub number_step : (pre : List ℕ) (x : ℕ) (post : List ℕ) → list_all is_digit (pre ++ x ∷ post) ≡ true → length (pre ++ x ∷ post) ≤ 19 →
    (48 ≤ x) × (number_from_digits 10 (values pre) * 10 + (x - 48) < 10 ^ 19)
number_step pre x post e s =
    let p = and_parts (list_all is_digit pre) (list_all is_digit (x ∷ post)) (sym (list_all-append is_digit pre (x ∷ post)) ∙ e) in
    let q = and_parts (is_digit x) (list_all is_digit post) p.1 in
    let d = digit_in x q.0 in
    let ds = values pre ++ (x - 48) ∷ [] in
    let b = number_lt 10 ds (All-push (λ d. d < 10) (values pre) (x - 48) (under-values pre p.0) (omega arith)) in
    let l : length ds ≤ 19 = simp (length_push, length-map) (let k = simp length-append at s in omega arith) in
    let m : 10 ^ length ds ≤ 10 ^ 19 = pow-le-pow_right (omega arith) l in
    (d.0, omega (arith, number_push 10 (values pre) (x - 48), b, m))

-- what a fold over bytes adds up to is the number of their digits
pub folded : (n : ℕ) (t : List ℕ) → fold (λ n x. n * 10 + (x - 48)) n t ≡ number_from_digits_after 10 n (values t)
folded n [] = refl
folded n (x ∷ t) = folded (n * 10 + (x - 48)) t
