-- Writing groups, over plain values: which blocks can be written (writable-parts, writable_from), one group (seal_lt, check_is,
-- nineteen, seal_is, group_written, length-group_of), one group more on a slip and the end (length_numbers, number_at_lem, lowest_le, write_step,
-- write_end).
use Rattle.std.proofs.Common.{◌≡◌, ℕ, zero, suc, ◌+◌, ◌-◌, ◌*◌, ◌^◌, ◌<◌, ◌≤◌, true, ◌&&◌, leb, List, [], ◌∷◌, ◌++◌, length, get_or, take, drop, set, replicate, Some, Option, sym, refl, ap, ◌∙◌, append_assoc, zero-add, arith}
use borrow.Rule.Slice.PartMut.{put_mid}
use Rattle.std.specs.Int.Digits.{AllBelowBase}
use Rattle.std.proofs.lemmas.List.{append-nil, map-append, map_push, set_at, drop-drop, drop-replicate, take_at, take-append-drop, at_drop_more, at_drop_all, length-append, length-take-le, length-drop, length-map, length_push}
use Rattle.std.proofs.lemmas.Slice.{take-put_mid, drop-put_mid}
use Rattle.std.proofs.lemmas.Bool.{and_parts, and_from, leb-true, le-leb, lt-ltb}
use Rattle.std.specs.List.{list_all}
use Rattle.decimal.specs.Digits.{spelled, padded}
use Rattle.decimal.specs.CheckDigits.{front, check_digit_after, DigitBefore}
use Rattle.decimal.specs.Groups.{offset, lowest, is_block}
use Rattle.decimal.specs.Slips.{seal_of, group_of, groups_after, numbers_of, text_of, writable, slip_of}
use Rattle.decimal.proofs.Cancels.{check_digit_lt}
use Rattle.decimal.proofs.Padding.{under-padded, length-padded}
use Rattle.decimal.proofs.Rows.{front-under}
use Rattle.decimal.proofs.Spelling.{every-spelled, values-spelled}

pub writable-parts : (bs : List ℕ) → writable bs ≡ true → (1 ≤ length bs) × (length bs ≤ 4) × (list_all is_block bs ≡ true)
unfolding writable
writable-parts bs e =
    let p = and_parts (leb 1 (length bs) && leb (length bs) 4) (list_all is_block bs) e in
    let q = and_parts (leb 1 (length bs)) (leb (length bs) 4) p.0 in
    (leb-true 1 (length bs) q.0, leb-true (length bs) 4 q.1, p.1)

every_block : (bs : List ℕ) → AllBelowBase (2 ^ 61) bs → list_all is_block bs ≡ true
every_block [] u = refl
every_block (b ∷ bs) u = and_from (is_block b) (list_all is_block bs) (lt-ltb b (2 ^ 61) u.0) (every_block bs u.1)

pub writable_from : (bs : List ℕ) → 1 ≤ length bs → length bs ≤ 4 → AllBelowBase (2 ^ 61) bs → writable bs ≡ true
unfolding writable
writable_from bs s m u =
    and_from (leb 1 (length bs) && leb (length bs) 4) (list_all is_block bs)
    (and_from (leb 1 (length bs)) (leb (length bs) 4) (le-leb 1 (length bs) s) (le-leb (length bs) 4 m)) (every_block bs u)

-- one group
pub seal_lt : (b : Option ℕ) (n : ℕ) → DigitBefore b → seal_of b n < 10
seal_lt b n h = check_digit_lt (front b ++ padded 10 19 n) (front-under b (padded 10 19 n) h (under-padded 10 (omega arith) 19 n))

pub check_is : (b : Option ℕ) (n : ℕ) (t : List ℕ) → t ≡ spelled (padded 10 19 n) → check_digit_after b t ≡ Some (seal_of b n)
unfolding check_digit_after
check_is b n t e =
    let d = every-spelled (padded 10 19 n) (under-padded 10 (omega arith) 19 n) in
    let v = values-spelled (padded 10 19 n) in
    rw (e, d, v)

-- the same, at what a part of a group holds after its nineteen digits were written
pub nineteen : (n : ℕ) (g out : List ℕ) → length g ≡ 20 → out ≡ spelled (padded 10 (length (take 19 g)) n) → out ≡ spelled (padded 10 19 n)
nineteen n g out l e = e ∙ ap (λ k. spelled (padded 10 k n)) (length-take-le 19 g (omega arith))

pub seal_is : (b : Option ℕ) (n : ℕ) (g out post : List ℕ) (r : Option ℕ) → length g ≡ 20 → out ≡ spelled (padded 10 (length (take 19 g)) n) →
    r ≡ check_digit_after b (take 19 (out ++ post)) → r ≡ Some (seal_of b n)
seal_is b n g out post r l e f =
    let o = nineteen n g out l e in
    let k : length out ≡ 19 = ap length o ∙ length-map (padded 10 19 n) (λ d. d + 48) ∙ length-padded 10 19 n in
    f ∙ check_is b n (take 19 (out ++ post)) (take_at out post 19 k ∙ o)

pub group_written : (b : Option ℕ) (n x : ℕ) (out post : List ℕ) → out ≡ spelled (padded 10 19 n) → length post ≡ 1 → x ≡ seal_of b n →
    set (out ++ post) 19 (x + 48) ≡ spelled (group_of b n)
group_written b n x out [] e l f = absurd (omega arith)
group_written b n x out (y ∷ []) e l f =
    let k : length out ≡ 19 = ap length e ∙ length-map (padded 10 19 n) (λ d. d + 48) ∙ length-padded 10 19 n in
    set_at out y [] (x + 48) 19 k ∙ rw (e, f) (sym (map_push (λ d. d + 48) (padded 10 19 n) (seal_of b n)))
group_written b n x out (y ∷ z ∷ post) e l f = absurd (omega arith)

pub length-group_of : (b : Option ℕ) (n : ℕ) → length (group_of b n) ≡ 20
length-group_of b n = length_push (padded 10 19 n) (seal_of b n) ∙ ap (λ k. k + 1) (length-padded 10 19 n)

-- one group more
pub length_numbers : (bs : List ℕ) → length (numbers_of bs) ≡ length bs
length_numbers [] = refl
length_numbers (b ∷ bs) = refl

pub number_at_lem : (bs : List ℕ) (i : ℕ) → i < length bs → get_or (numbers_of bs) i 0 ≡ lowest i + get_or bs i 0
number_at_lem [] i h = absurd (omega arith)
number_at_lem (b ∷ bs) zero h = refl
number_at_lem (b ∷ bs) (suc i) h = sym (zero-add (get_or bs i 0))

pub lowest_le : (i : ℕ) → lowest i ≤ offset
lowest_le zero = omega arith
lowest_le (suc i) = omega arith

-- the digits after those before: the group written now, and those still to write
next_group : (bs g : List ℕ) (i n x : ℕ) (b : Option ℕ) → g ≡ spelled (group_of b n) → x ≡ seal_of b n → n ≡ lowest i + get_or bs i 0 → i < length bs →
    spelled (groups_after b (drop i (numbers_of bs))) ≡ g ++ spelled (groups_after (Some x) (drop (i + 1) (numbers_of bs)))
unfolding groups_after
next_group bs g i n x b eg ex en h =
    let ns = numbers_of bs in
    let later : ℕ → List ℕ = λ s. groups_after (Some s) (drop (i + 1) ns) in
    let at : get_or ns i 0 ≡ n = number_at_lem bs i h ∙ sym en in
    ap spelled (at_drop_more (groups_after b) ns i 0 (rw (length_numbers bs) h))
    ∙ ap (λ m. spelled (group_of b m ++ later (seal_of b m))) at
    ∙ map-append (λ d. d + 48) (group_of b n) (later (seal_of b n))
    ∙ (λ k. sym eg k ++ spelled (later (sym ex k)))

-- zeros stay zeros further on
zeros_on : (xs : List ℕ) (a k n : ℕ) → drop a xs ≡ replicate n 0 → drop (a + k) xs ≡ replicate (n - k) 0
zeros_on xs a k n e = sym (drop-drop k a xs) ∙ ap (drop k) e ∙ drop-replicate k n 0

fewer_zeros : (slip : List ℕ) (i : ℕ) → drop (20 * i) slip ≡ replicate (80 - 20 * i) 0 → drop (20 * (i + 1)) slip ≡ replicate (80 - 20 * (i + 1)) 0
fewer_zeros slip i zeros =
    let q : 20 * (i + 1) ≡ 20 * i + 20 = omega arith in
    let z : 80 - 20 * i - 20 ≡ 80 - 20 * (i + 1) = omega arith in
    ap (λ j. drop j slip) q ∙ zeros_on slip (20 * i) 20 (80 - 20 * i) zeros ∙ ap (λ j. replicate j 0) z

pub write_step : (slip bs g : List ℕ) (i k n x : ℕ) (b : Option ℕ) → g ≡ spelled (group_of b n) → x ≡ seal_of b n → n ≡ lowest i + get_or bs i 0 →
    i < length bs → length bs ≤ 4 → length slip ≡ 80 → k ≡ 20 →
    take (20 * i) slip ++ spelled (groups_after b (drop i (numbers_of bs))) ≡ text_of bs → drop (20 * i) slip ≡ replicate (80 - 20 * i) 0 →
    (length (put_mid (20 * i) k slip g) ≡ 80)
    × (take (20 * (i + 1)) (put_mid (20 * i) k slip g) ++ spelled (groups_after (Some x) (drop (i + 1) (numbers_of bs))) ≡ text_of bs)
    × (drop (20 * (i + 1)) (put_mid (20 * i) k slip g) ≡ replicate (80 - 20 * (i + 1)) 0)
write_step slip bs g i k n x b eg ex en h m l ek texts zeros =
    let s = put_mid (20 * i) k slip g in
    let later = spelled (groups_after (Some x) (drop (i + 1) (numbers_of bs))) in
    let lg : length g ≡ 20 = ap length eg ∙ length-map (group_of b n) (λ d. d + 48) ∙ length-group_of b n in
    let done : take (20 * (i + 1)) s ≡ take (20 * i) slip ++ g = take-put_mid (20 * i) k slip g (20 * (i + 1)) (omega arith) (omega arith) in
    let left : drop (20 * (i + 1)) s ≡ drop (20 * (i + 1)) slip = drop-put_mid (20 * i) k slip g (20 * (i + 1)) (omega arith) (omega arith) (omega arith) in
    let ls = ap length (sym (take-append-drop (20 * (i + 1)) s)) ∙ length-append (take (20 * (i + 1)) s) (drop (20 * (i + 1)) s) in
    let ld = ap length done ∙ length-append (take (20 * i) slip) g in
    let lt = length-take-le (20 * i) slip (omega arith) in
    let ll = ap length left ∙ length-drop (20 * (i + 1)) slip in (
      omega (arith, ls, ld, lt, ll, lg),
      ap (λ t. t ++ later) done ∙ append_assoc (take (20 * i) slip) g later ∙ ap (λ t. take (20 * i) slip ++ t) (sym (next_group bs g i n x b eg ex en h)) ∙ texts,
      left ∙ fewer_zeros slip i zeros,
    )

pub write_end : (slip bs : List ℕ) (i : ℕ) (b : Option ℕ) → i ≡ length bs →
    take (20 * i) slip ++ spelled (groups_after b (drop i (numbers_of bs))) ≡ text_of bs → drop (20 * i) slip ≡ replicate (80 - 20 * i) 0 → slip ≡ slip_of bs
unfolding groups_after
write_end slip bs i b e texts zeros =
    let ns = numbers_of bs in
    let none : spelled (groups_after b (drop i ns)) ≡ [] = ap spelled (at_drop_all (groups_after b) ns i (rw (length_numbers bs) (omega arith))) in
    let done : take (20 * i) slip ≡ text_of bs = sym (append-nil (take (20 * i) slip)) ∙ ap (λ t. take (20 * i) slip ++ t) (sym none) ∙ texts in
    sym (take-append-drop (20 * i) slip) ∙ ap (λ t. t ++ drop (20 * i) slip) done ∙ ap (λ t. text_of bs ++ t) zeros ∙ ap (λ j. text_of bs ++ replicate (80 - 20 * j) 0) e
