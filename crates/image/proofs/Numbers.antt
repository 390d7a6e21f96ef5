-- The number that bytes spell, as std reads it and as its digits say: be_two, be_four, be_sixteen. Numbers of two bytes each:
-- chunk_pairs, halves_flat. Assumes nothing.
use Rattle.std.proofs.Common.{◌≡◌, ℕ, zero, suc, ◌+◌, ◌-◌, ◌*◌, ◌/◌, ◌%◌, ◌^◌, ◌<◌, ◌≤◌, List, [], ◌∷◌, map, length, get_or, take, sym, refl, ap, ◌∙◌, take_all, add-one, mul_assoc, add-mul, arith}
use mir.Syntax.{w16, w32, w128}
use native.Mathlib.Nat.{pow-zero, pow-succ'}
use denote.Param.Members.{Mut}
use Rattle.std.specs.Fn.{Called}
use Rattle.std.specs.Array.{IsMapOf}
use Rattle.std.specs.Int.{sum_through, byte_worth, from_be_bytes, to_be_bytes}
use Rattle.std.specs.Int.Digits.{number_from_digits}
use Rattle.std.specs.List.{flat_map}
use Rattle.std.specs.Simd.{first_chunks}
use Rattle.std.proofs.lemmas.Int.Digits.{number_more}
use Rattle.image.specs.Tariffs.{pairs, halves}

worth : (i b : ℕ) → byte_worth i b ≡ b * 256 ^ i
worth zero b = omega (arith, ap (λ (x : ℕ). b * x) (pow-zero 256))
worth (suc i) b = refl

sum_is : (bs : List ℕ) (n k : ℕ) → k ≤ n → n < length bs → sum_through (λ i. byte_worth (n - i) (get_or bs i 0)) k ≡ number_from_digits 256 (take (k + 1) bs) * 256 ^ (n - k)
sum_is bs n zero h l =
    let one : number_from_digits 256 (take (0 + 1) bs) ≡ get_or bs 0 0 = number_more 256 bs 0 (omega arith) ∙ omega arith in
    worth (n - 0) (get_or bs 0 0) ∙ ap (λ (x : ℕ). x * 256 ^ (n - 0)) (sym one)
sum_is bs n (suc k) h l =
    let x = get_or bs (suc k) 0 in
    let p = 256 ^ (n - suc k) in
    let m = number_from_digits 256 (take (suc k) bs) in
    let before : sum_through (λ i. byte_worth (n - i) (get_or bs i 0)) k ≡ m * 256 ^ (n - k) =
    sum_is bs n k (omega arith) l ∙ ap (λ (j : ℕ). number_from_digits 256 (take j bs) * 256 ^ (n - k)) (add-one k) in
    let power : 256 ^ (n - k) ≡ 256 * p = (let e : n - k ≡ suc (n - suc k) = omega arith in ap (λ (j : ℕ). 256 ^ j) e ∙ pow-succ' 256 (n - suc k)) in
    let here : byte_worth (n - suc k) x ≡ x * p = worth (n - suc k) x in
    let more : number_from_digits 256 (take (suc k + 1) bs) ≡ m * 256 + x = number_more 256 bs (suc k) (omega arith) in
    (λ i. before i + here i) ∙ ap (λ (q : ℕ). m * q + x * p) power ∙ ap (λ (q : ℕ). q + x * p) (sym (mul_assoc m 256 p)) ∙ sym (add-mul (m * 256) x p) ∙ ap (λ (q : ℕ). q * p) (sym more)

be_number : (bs : List ℕ) (n : ℕ) → length bs ≡ n + 1 → sum_through (λ i. byte_worth (n - i) (get_or bs i 0)) n ≡ number_from_digits 256 bs
be_number bs n l =
    let none : n - n ≡ 0 = omega arith in
    sum_is bs n n (omega arith) (omega arith)
    ∙ (λ i. number_from_digits 256 (take_all (n + 1) bs (omega arith) i) * 256 ^ none i) ∙ ap (λ (x : ℕ). number_from_digits 256 bs * x) (pow-zero 256) ∙ omega arith

pub be_two : (bs : List ℕ) → length bs ≡ 2 → from_be_bytes w16 bs ≡ number_from_digits 256 bs
be_two bs l = be_number bs 1 l

pub be_four : (bs : List ℕ) → length bs ≡ 4 → from_be_bytes w32 bs ≡ number_from_digits 256 bs
be_four bs l = be_number bs 3 l

pub be_sixteen : (bs : List ℕ) → length bs ≡ 16 → from_be_bytes w128 bs ≡ number_from_digits 256 bs
be_sixteen bs l = be_number bs 15 l

-- the numbers of two bytes each
pub chunk_pairs : (k : ℕ) (xs : List ℕ) → length xs ≡ 2 * k → map (from_be_bytes w16) (first_chunks 2 k xs) ≡ pairs xs
chunk_pairs zero [] l = refl
chunk_pairs zero (a ∷ xs) l = absurd (omega arith)
chunk_pairs (suc k) [] l = absurd (omega arith)
chunk_pairs (suc k) (a ∷ []) l = absurd (omega arith)
chunk_pairs (suc k) (a ∷ b ∷ xs) l =
    let here : from_be_bytes w16 (a ∷ b ∷ []) ≡ a * 256 + b = omega arith in
    let more = chunk_pairs k xs (omega arith) in
    λ i. here i ∷ more i

-- and the bytes of such numbers
pub halves_flat : (ps : List ℕ) → ((i : ℕ) → get_or ps i 0 < 65536) → flat_map (λ (x : List ℕ). x) (map (to_be_bytes w16) ps) ≡ halves ps
halves_flat [] small = refl
halves_flat (p ∷ ps) small =
    let here : p < 65536 = small 0 in
    let high : p / 256 ^ 1 % 256 ≡ p / 256 = omega arith in
    let more = halves_flat ps (λ i. small (suc i)) in
    λ i. high i ∷ p % 256 ∷ more i

-- a list that answers another, item by item
mapped : {X Y : Type 0} (f : X → Y) (xs : List X) (ys : List Y) (d : X) (e : Y) → length ys ≡ length xs → ((i : ℕ) → i < length xs → get_or ys i e ≡ f (get_or xs i d)) → ys ≡ map f xs
mapped f [] [] d e l h = refl
mapped f [] (y ∷ ys) d e l h = absurd (omega arith)
mapped f (x ∷ xs) [] d e l h = absurd (omega arith)
mapped f (x ∷ xs) (y ∷ ys) d e l h =
    let here : y ≡ f x = h 0 (omega arith) in
    let more = mapped f xs ys d e (omega arith) (λ i b. h (suc i) (omega arith)) in
    λ i. here i ∷ more i

-- an array that calls made of another, where each call answers the same function
pub mapped_calls : {F X Y : Type 0} {g : Mut F (X × Unit {0}) Y} {f : F} {xs : List X} {ys : List Y} {n : ℕ} (m : X → Y) (d : X) (e : Y) → IsMapOf g f xs ys n → length xs ≡ n
    → ((x : X) (y : Y) (p q : F) → Called g p (x, tt) y q → y ≡ m x) → ys ≡ map m xs
mapped_calls {xs = xs} {ys = ys} m d e is l h =
    mapped m xs ys d e (is.long ∙ sym l) (λ i b. h (get_or xs i d) (get_or ys i e) _ _ (is.at i d e (omega (arith, l))).2)
