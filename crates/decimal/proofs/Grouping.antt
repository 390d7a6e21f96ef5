-- Groups of an entry, over plain values: one group by itself (group_undigit, group_unlast, group_unsealed, group_sealed) and at its
-- place (group_is, group_at), what one group says of all (one_unsealed, one_sealed, block_there, one_unblocked), the blocks (block_in, length_blocks,
-- blocks_more), and what a whole entry comes to (Passes, passed, passing, sound_of).
use Rattle.std.proofs.Common.{◌≡◌, ℕ, zero, suc, ◌+◌, ◌-◌, ◌*◌, ◌/◌, ◌%◌, ◌^◌, ◌<◌, ◌≤◌, Bool, true, cond, ◌&&◌, ◌||◌, eqb, ltb, leb, List, [], ◌∷◌, ◌++◌, map, length, get_or, take, drop, IfOk, Some, None, Ok, Err, Option, Result, sym, refl, ap, ◌∙◌, ⊎_elim, add-one, arith}
use Rattle.std.specs.List.{between, range_with_len}
use Rattle.std.specs.Simd.{first_chunks}
use Rattle.std.proofs.lemmas.List.FromFn.{length-map-range_with_len, get_or-map-range_with_len, map-range_with_len_more}
use Rattle.std.specs.Int.Digits.{number_from_digits, AllBelowBase}
use Rattle.std.proofs.lemmas.List.{take_all, take_more, take-take, take-map, drop-map, drop-drop, get_or-take, get_or-drop}
use Rattle.std.proofs.ByRecursion.{All-get_or}
use Rattle.std.proofs.lemmas.Bool.{ltb-true, eqb-true, eq-eqb, ne_eqb, and_parts, or_cases}
use Rattle.refusal.specs.declared.Refusal.{Refusal}
use Rattle.refusal.specs.declared.Refusal.TheVariants.{Length, NotADigit, CheckDigit, NoBlock}
use Rattle.refusal.specs.Checks.{provided}
use Rattle.arrayvec.specs.ArrayVec.{ArrayVec}
use Rattle.std.proofs.lemmas.List.Folds.{list_all-append}
use Rattle.std.specs.List.{list_all}
use Rattle.decimal.specs.Digits.{is_digit, values}
use Rattle.decimal.specs.CheckDigits.{front, check_digit, check_digit_after, DigitBefore}
use Rattle.decimal.specs.Groups.{before, body, sealed_at, number_at, lowest, is_block, has_block, block_at, grouped, all_digits, all_sealed, all_blocks, blocks_in, blocks_of, Sound, checked_group}
use Rattle.decimal.proofs.Spelling.{every_take, every_drop, get_or-values}
use Rattle.decimal.proofs.Bounded.{up_at, up_fails}
use Rattle.decimal.proofs.Verdicts.{was_some, was_none}
use Rattle.refusal.proofs.Passing.{was_ok, was_err, provided_ok}

-- one group by itself
every_twenty : (p : ℕ → Bool) (t : List ℕ) → length t ≡ 20 → list_all p t ≡ (list_all p (take 19 t) && list_all p (get_or t 19 0 ∷ []))
every_twenty p t l =
    let e : t ≡ take 19 t ++ (get_or t 19 0 ∷ []) = sym (take_all 20 t (omega arith)) ∙ take_more t 19 0 (omega arith) in
    ap (list_all p) e ∙ list_all-append p (take 19 t) (get_or t 19 0 ∷ [])

pub group_undigit : (b : Option ℕ) (t : List ℕ) → length t ≡ 20 → None ≡ check_digit_after b (take 19 t) → Err NotADigit ≡ checked_group b t
unfolding check_digit_after checked_group
group_undigit b t l e =
    let f = was_none (list_all is_digit (take 19 t)) _ e in
    let g = every_twenty is_digit t l in
    rw (g, f)

pub group_unlast : (b : Option ℕ) (t : List ℕ) (e : ℕ) → length t ≡ 20 → Some e ≡ check_digit_after b (take 19 t) →
    None ≡ cond (is_digit (get_or t 19 0)) (Some (get_or t 19 0 - 48)) None → Err NotADigit ≡ checked_group b t
unfolding check_digit_after checked_group
group_unlast b t e l s n =
    let f = was_some (list_all is_digit (take 19 t)) _ e s in
    let h = was_none (is_digit (get_or t 19 0)) _ n in
    let g = every_twenty is_digit t l in
    let k = f.0 in
    rw (g, k, h)

group_digits : (b : Option ℕ) (t : List ℕ) (e d : ℕ) → length t ≡ 20 → Some e ≡ check_digit_after b (take 19 t) →
    Some d ≡ cond (is_digit (get_or t 19 0)) (Some (get_or t 19 0 - 48)) None → checked_group b t ≡ provided (eqb d e) CheckDigit (Ok d)
unfolding check_digit_after checked_group
group_digits b t e d l s n =
    let f = was_some (list_all is_digit (take 19 t)) _ e s in
    let h = was_some (is_digit (get_or t 19 0)) _ d n in
    let g = every_twenty is_digit t l in
    let v : get_or (values t) 19 0 ≡ d = get_or-values t 19 (omega arith) ∙ sym h.1 in
    let w : check_digit (front b ++ take 19 (values t)) ≡ e = ap (λ ds. check_digit (front b ++ ds)) (take-map (λ byte. byte - 48) 19 t) ∙ sym f.1 in
    let k = f.0 in
    let m = h.0 in
    rw (g, k, m, v, w)

pub group_unsealed : (b : Option ℕ) (t : List ℕ) (e d : ℕ) → length t ≡ 20 → Some e ≡ check_digit_after b (take 19 t) →
    Some d ≡ cond (is_digit (get_or t 19 0)) (Some (get_or t 19 0 - 48)) None → (d ≡ e → ⊥) → Err CheckDigit ≡ checked_group b t
group_unsealed b t e d l s n h = let f = ne_eqb d e h in sym (group_digits b t e d l s n ∙ ap (λ same. provided same CheckDigit (Ok d)) f)

pub group_sealed : (b : Option ℕ) (t : List ℕ) (e d : ℕ) → length t ≡ 20 → Some e ≡ check_digit_after b (take 19 t) →
    Some d ≡ cond (is_digit (get_or t 19 0)) (Some (get_or t 19 0 - 48)) None → d ≡ e → Ok d ≡ checked_group b t
group_sealed b t e d l s n h = let f = eq-eqb d e h in sym (group_digits b t e d l s n ∙ ap (λ same. provided same CheckDigit (Ok d)) f)

-- one group at its place
values_between : (a b : ℕ) (t : List ℕ) → values (between a b t) ≡ between a b (values t)
values_between a b t = sym (take-map (λ byte. byte - 48) (b - a) (drop a t)) ∙ ap (take (b - a)) (sym (drop-map (λ byte. byte - 48) a t))

pub before_digit : (ds : List ℕ) (i : ℕ) → AllBelowBase 10 ds → 20 * i ≤ length ds → DigitBefore (before ds i)
before_digit ds zero u h = tt
before_digit ds (suc i) u h = All-get_or (λ d. d < 10) ds (20 * i + 19) 0 (omega arith) u

-- the chunks of twenty are the groups
chunk_at : (k : ℕ) (xs : List ℕ) (i : ℕ) → i < k → get_or (first_chunks 20 k xs) i [] ≡ take 20 (drop (20 * i) xs)
chunk_at zero xs i h = absurd (omega arith)
chunk_at (suc k) xs zero h = refl
chunk_at (suc k) xs (suc i) h =
    let n : 20 + 20 * i ≡ 20 * suc i = omega arith in
    chunk_at k (drop 20 xs) i (omega arith) ∙ ap (take 20) (drop-drop (20 * i) 20 xs ∙ ap (λ j. drop j xs) n)

pub group_is : (t : List ℕ) (i : ℕ) → i < length t / 20 → get_or (first_chunks 20 (length t / 20) t) i [] ≡ between (20 * i) (20 * i + 20) t
group_is t i h =
    let n : 20 ≡ 20 * i + 20 - 20 * i = omega arith in
    chunk_at (length t / 20) t i h ∙ ap (λ k. take k (drop (20 * i) t)) n

pub group_digits_all : (t : List ℕ) (i : ℕ) → list_all is_digit t ≡ true → list_all is_digit (between (20 * i) (20 * i + 20) t) ≡ true
group_digits_all t i e = every_take is_digit (20 * i + 20 - 20 * i) (drop (20 * i) t) (every_drop is_digit (20 * i) t e)

-- its nineteen digits
group_body : (t : List ℕ) (i : ℕ) → take 19 (values (between (20 * i) (20 * i + 20) t)) ≡ body (values t) i
group_body t i =
    let ds = values t in
    let n : 20 * i + 20 - 20 * i ≡ 20 = omega arith in
    let m : 19 ≡ 20 * i + 19 - 20 * i = omega arith in
    ap (take 19) (values_between (20 * i) (20 * i + 20) t ∙ ap (λ k. take k (drop (20 * i) ds)) n) ∙ take-take 19 20 (drop (20 * i) ds) (omega arith) ∙ ap (λ k. take k (drop (20 * i) ds)) m

pub group_at : (t : List ℕ) (i : ℕ) → list_all is_digit t ≡ true → 20 * i + 20 ≤ length t →
    checked_group (before (values t) i) (between (20 * i) (20 * i + 20) t) ≡ provided (sealed_at (values t) i) CheckDigit (Ok (get_or (values t) (20 * i + 19) 0))
unfolding checked_group sealed_at
group_at t i e h =
    let g = between (20 * i) (20 * i + 20) t in
    let ds = values t in
    let n : 20 * i + 20 - 20 * i ≡ 20 = omega arith in
    let f : list_all is_digit g ≡ true = group_digits_all t i e in
    let v : values g ≡ take 20 (drop (20 * i) ds) = values_between (20 * i) (20 * i + 20) t ∙ ap (λ k. take k (drop (20 * i) ds)) n in
    let x : take 19 (values g) ≡ body ds i = group_body t i in
    let y : get_or (values g) 19 0 ≡ get_or ds (20 * i + 19) 0 = ap (λ xs. get_or xs 19 0) v ∙ get_or-take 20 (drop (20 * i) ds) 19 0 (omega arith) ∙ get_or-drop (20 * i) ds 19 0 in
    rw (f, x, y)

-- what checking one group says of all
pub one_unsealed : {X : Type 0} (x : X) (t : List ℕ) (i : ℕ) (b : Option ℕ) (e : Refusal) → list_all is_digit t ≡ true → i < length t / 20 → b ≡ before (values t) i →
    Err e ≡ checked_group b (between (20 * i) (20 * i + 20) t) → Err e ≡ provided (all_sealed t) CheckDigit (Ok x)
unfolding all_sealed
one_unsealed x t i b e d h f k =
    let g = k ∙ ap (λ b. checked_group b (between (20 * i) (20 * i + 20) t)) f ∙ group_at t i d (omega arith) in
    let w = was_err (sealed_at (values t) i) CheckDigit e (get_or (values t) (20 * i + 19) 0) g in
    let n = up_fails (sealed_at (values t)) (length t / 20) i h w.0 in
    let z = w.1 in
    rw (n, z)

pub one_sealed : (t : List ℕ) (i : ℕ) (b : Option ℕ) (x : ℕ) → list_all is_digit t ≡ true → i < length t / 20 → b ≡ before (values t) i →
    Ok x ≡ checked_group b (between (20 * i) (20 * i + 20) t) → (sealed_at (values t) i ≡ true) × (Some x ≡ before (values t) (i + 1))
one_sealed t i b x d h f k =
    let g = k ∙ ap (λ b. checked_group b (between (20 * i) (20 * i + 20) t)) f ∙ group_at t i d (omega arith) in
    let w = was_ok (sealed_at (values t) i) CheckDigit (get_or (values t) (20 * i + 19) 0) x g in
    let z = w.1 in
    (w.0, rw (add-one i, z))

-- the block of one group
pub block_there : (t : List ℕ) (i : ℕ) → i < length t / 20 → let n = number_from_digits 10 (values (take 19 (between (20 * i) (20 * i + 20) t))) in
    provided (leb (lowest i) n && is_block (n - lowest i)) NoBlock (Ok (n - lowest i)) ≡ provided (has_block (values t) i) NoBlock (Ok (block_at (values t) i))
unfolding has_block number_at
block_there t i h =
    let e : values (take 19 (between (20 * i) (20 * i + 20) t)) ≡ body (values t) i = sym (take-map (λ byte. byte - 48) 19 (between (20 * i) (20 * i + 20) t)) ∙ group_body t i in
    ap (λ ds. provided (leb (lowest i) (number_from_digits 10 ds) && is_block (number_from_digits 10 ds - lowest i)) NoBlock (Ok (number_from_digits 10 ds - lowest i))) e

pub block_lt : (ds : List ℕ) (i : ℕ) → has_block ds i ≡ true → block_at ds i < 2 ^ 61
unfolding has_block
block_lt ds i e = ltb-true (number_at ds i - lowest i) (2 ^ 61) (and_parts (leb (lowest i) (number_at ds i)) (ltb (number_at ds i - lowest i) (2 ^ 61)) e).1

pub one_unblocked : {X : Type 0} (x : X) (t : List ℕ) (i : ℕ) (e : Refusal) → i < length t / 20 → Err e ≡ provided (has_block (values t) i) NoBlock (Ok (block_at (values t) i)) →
    Err e ≡ provided (all_blocks t) NoBlock (Ok x)
unfolding all_blocks
one_unblocked x t i e h k =
    let w = was_err (has_block (values t) i) NoBlock e (block_at (values t) i) k in
    let n = up_fails (has_block (values t)) (length t / 20) i h w.0 in
    let z = w.1 in
    rw (n, z)

-- the blocks in their places
pub length_blocks : (t : List ℕ) → length (blocks_in t) ≡ length t / 20
unfolding blocks_in
length_blocks t = length-map-range_with_len (block_at (values t)) 0 (length t / 20)

pub block_in : (t : List ℕ) (k : ℕ) → k < length t / 20 → get_or (blocks_in t) k 0 ≡ block_at (values t) k
unfolding blocks_in
block_in t k h = get_or-map-range_with_len (block_at (values t)) 0 (length t / 20) k k 0 h (omega arith)

pub blocks_more : (f : ℕ → ℕ) (i v : ℕ) → v ≡ f i → map f (range_with_len 0 i) ++ v ∷ [] ≡ map f (range_with_len 0 (i + 1))
blocks_more f i v e = ap (λ b. map f (range_with_len 0 i) ++ b ∷ []) e ∙ sym (map-range_with_len_more f 0 i i (omega arith))

-- the lengths that pass
pub grouped-fits : (t : List ℕ) → grouped t ≡ true → (length t % 20 ≡ 0) × (20 ≤ length t) × (length t ≤ 80)
unfolding grouped
grouped-fits t e =
    let n = length t in
    ⊎_elim
    (λ a. ⊎_elim
    (λ b. ⊎_elim
    (λ c. let k = eqb-true n 20 c in (omega (arith, k), omega (arith, k), omega (arith, k)))
    (λ c. let k = eqb-true n 40 c in (omega (arith, k), omega (arith, k), omega (arith, k)))
    (or_cases (eqb n 20) (eqb n 40) b))
    (λ b. let k = eqb-true n 60 b in (omega (arith, k), omega (arith, k), omega (arith, k)))
    (or_cases (eqb n 20 || eqb n 40) (eqb n 60) a))
    (λ a. let k = eqb-true n 80 a in (omega (arith, k), omega (arith, k), omega (arith, k)))
    (or_cases (eqb n 20 || eqb n 40 || eqb n 60) (eqb n 80) e)

below_range : (f : ℕ → ℕ) (b a n : ℕ) → ((k : ℕ) → k < a + n → f k < b) → AllBelowBase b (map f (range_with_len a n))
below_range f b a zero h = tt
below_range f b a (suc n) h = (h a (omega arith), below_range f b (a + 1) n (λ k l. h k (omega arith)))

pub sound : (t : List ℕ) → grouped t ≡ true → all_blocks t ≡ true → Sound (blocks_in t)
unfolding all_blocks blocks_in
sound t g a =
    let f = grouped-fits t g in
    let l = length_blocks t in
    record {
      some = omega (arith, f.1, l);
      most = omega (arith, f.2, l);
      below = below_range (block_at (values t)) (2 ^ 61) 0 (length t / 20) (λ k h.
          block_lt (values t) k (up_at (has_block (values t)) (length t / 20) a k (omega arith)));
    }

-- What an entry that comes to blocks has passed, and what passes.
pub record Passes (t : List ℕ) : Type 0 where
  pub in_groups : grouped t ≡ true
  pub digits : list_all is_digit t ≡ true
  pub seals : all_sealed t ≡ true
  pub blocks : all_blocks t ≡ true

pub passed : (t : List ℕ) (v : ArrayVec ℕ) → blocks_of t ≡ Ok v → Passes t × (v ≡ record { items = blocks_in t })
unfolding blocks_of all_digits
passed t v e =
    let p = provided_ok (grouped t) Length _ v e in
    let q = provided_ok (all_digits t) NotADigit _ v p.1 in
    let r = provided_ok (all_sealed t) CheckDigit _ v q.1 in
    let s = provided_ok (all_blocks t) NoBlock (Ok (record { items = blocks_in t })) v r.1 in
    let same = s.1 in
    (record { in_groups = p.0; digits = q.0; seals = r.0; blocks = s.0 }, (cc))

pub passing : (t : List ℕ) → Passes t → blocks_of t ≡ Ok (record { items = blocks_in t })
unfolding blocks_of all_digits
passing t p =
    let g = p.in_groups in
    let d = p.digits in
    let s = p.seals in
    let b = p.blocks in
    rw (g, d, s, b)

pub sound_of : (t : List ℕ) (v : ArrayVec ℕ) → blocks_of t ≡ Ok v → Sound v.items
sound_of t v e = let p = passed t v e in let same = p.1 in rw same (sound t p.0.in_groups p.0.blocks)

pub bounded : (t : List ℕ) (r : Result (ArrayVec ℕ) Refusal) → r ≡ blocks_of t → IfOk r (λ v. Sound v.items)
bounded t (Ok v) e = sound_of t v (sym e)
bounded t (Err x) e = tt
