-- Reading undoes writing (there), and writing undoes reading (back); what a written text is (length_text, text_passes).
use Rattle.std.proofs.Common.{◌≡◌, ℕ, zero, suc, ◌+◌, ◌-◌, ◌*◌, ◌/◌, ◌^◌, ◌<◌, ◌≤◌, true, ltb, leb, List, [], ◌∷◌, ◌++◌, length, get_or, take, drop, Some, None, Ok, Option, sym, refl, ap, ◌∙◌, append_assoc, add-zero, zero-add, arith}
use Rattle.std.specs.Int.Digits.{number_from_digits, AllBelowBase}
use Rattle.std.proofs.lemmas.List.{ext_get_or, take_all, take_at, take-take, take_more, drop_at, drop-take, take-append-drop, get_or_at, get_or-take, get_or-drop, get_or_append_left, length-append, length-map, length-take, length-drop}
use Rattle.std.proofs.ByRecursion.{All-append, All-push, All-take, All-drop, All-get_or}
use Rattle.std.proofs.lemmas.Bool.{leb-true, le-leb, lt-ltb, eq-eqb, eqb-true, and_parts, and_from}
use Rattle.decimal.specs.Digits.{values, spelled, padded}
use Rattle.decimal.specs.CheckDigits.{front, check_digit, DigitBefore}
use Rattle.decimal.specs.Groups.{before, body, sealed_at, number_at, lowest, has_block, block_at, grouped, all_sealed, all_blocks, blocks_in, blocks_of}
use Rattle.arrayvec.specs.ArrayVec.{ArrayVec}
use Rattle.decimal.specs.Slips.{seal_of, group_of, groups_after, numbers_of, text_of}
use Rattle.decimal.proofs.Bounded.{up_from, up_at}
use Rattle.decimal.proofs.Padding.{there as padded_there, back as padded_back, under-padded, length-padded}
use Rattle.decimal.proofs.Spelling.{under-values, every-spelled, values-spelled, spelled-values}
use Rattle.decimal.proofs.Printing.{seal_lt, length-group_of, lowest_le, length_numbers, number_at_lem}
use Rattle.decimal.proofs.Grouping.{length_blocks, block_in, grouped-fits, sound, Passes, passed, passing}

-- groups one after the other
length_groups : (b : Option ℕ) (ns : List ℕ) → length (groups_after b ns) ≡ 20 * length ns
unfolding groups_after
length_groups b [] = refl
length_groups b (n ∷ ns) =
    let e = length-append (group_of b n) (groups_after (Some (seal_of b n)) ns) in
    let f = length-group_of b n in
    let g = length_groups (Some (seal_of b n)) ns in
    omega (arith, e, f, g)

under_groups : (b : Option ℕ) (ns : List ℕ) → DigitBefore b → AllBelowBase 10 (groups_after b ns)
unfolding groups_after
under_groups b [] h = tt
under_groups b (n ∷ ns) h =
    let s = seal_lt b n h in
    All-append (λ d. d < 10) (group_of b n) (groups_after (Some (seal_of b n)) ns)
    (All-push (λ d. d < 10) (padded 10 19 n) (seal_of b n) (under-padded 10 (omega arith) 19 n) s)
    (under_groups (Some (seal_of b n)) ns s)

-- the group after those before it: its nineteen digits, its check digit, and the check digit before it
before-append : (pre ds : List ℕ) (k : ℕ) → length pre ≡ 20 * k → before (pre ++ ds) k ≡ before pre k
before-append pre ds zero l = refl
before-append pre ds (suc k) l = ap Some (get_or_append_left pre ds 0 (20 * k + 19) (omega arith))

body_here : (pre p ds : List ℕ) (k : ℕ) → length pre ≡ 20 * k → length p ≡ 19 → body (pre ++ (p ++ ds)) k ≡ p
body_here pre p ds k l m =
    let n : 20 * k + 19 - 20 * k ≡ 19 = omega arith in
    ap (take (20 * k + 19 - 20 * k)) (drop_at pre (p ++ ds) (20 * k) l) ∙ ap (λ j. take j (p ++ ds)) n ∙ take_at p ds 19 m

last_here : (pre p ds : List ℕ) (s k : ℕ) → length pre ≡ 20 * k → length p ≡ 19 → get_or (pre ++ (p ++ (s ∷ ds))) (20 * k + 19) 0 ≡ s
last_here pre p ds s k l m =
    ap (λ xs. get_or xs (20 * k + 19) 0) (sym (append_assoc pre p (s ∷ ds)))
    ∙ get_or_at (pre ++ p) s ds 0 (20 * k + 19) (length-append pre p ∙ ap (λ j. j + length p) l ∙ ap (λ j. 20 * k + j) m)

-- each group is sealed and has its number's digits
groups_at : (ns pre : List ℕ) (b : Option ℕ) (k i : ℕ) → length pre ≡ 20 * k → b ≡ before pre k → i < length ns →
    (sealed_at (pre ++ groups_after b ns) (k + i) ≡ true) × (body (pre ++ groups_after b ns) (k + i) ≡ padded 10 19 (get_or ns i 0))
unfolding groups_after sealed_at
groups_at [] pre b k i l e h = absurd (omega arith)
groups_at (n ∷ ns) pre b k zero l e h =
    let p = padded 10 19 n in
    let s = seal_of b n in
    let later = groups_after (Some s) ns in
    let same : group_of b n ++ later ≡ p ++ (s ∷ later) = append_assoc p (s ∷ []) later in
    let ds = pre ++ (p ++ (s ∷ later)) in
    let m = length-padded 10 19 n in
    let x : body ds k ≡ p = body_here pre p (s ∷ later) k l m in
    let y : get_or ds (20 * k + 19) 0 ≡ s = last_here pre p later s k l m in
    let z : before ds k ≡ b = before-append pre (p ++ (s ∷ later)) k l ∙ sym e in
    rw (same, add-zero k, x, y, z) (eq-eqb s s refl, refl)
groups_at (n ∷ ns) pre b k (suc i) l e h =
    let s = seal_of b n in
    let later = groups_after (Some s) ns in
    let pre' = pre ++ group_of b n in
    let same : pre ++ (group_of b n ++ later) ≡ pre' ++ later = sym (append_assoc pre (group_of b n) later) in
    let l' : length pre' ≡ 20 * suc k = length-append pre (group_of b n) ∙ ap (λ j. length pre + j) (length-group_of b n) ∙ ap (λ j. j + 20) l ∙ omega arith in
    let e' : Some s ≡ before pre' (suc k) = ap Some (sym (last_here pre (padded 10 19 n) [] s k l (length-padded 10 19 n))) in
    let q : k + suc i ≡ suc k + i = omega arith in
    rw (same, q) (groups_at ns pre' (Some s) (suc k) i l' e' (omega arith))

-- What the digits of a written text are, group by group.
record Written (bs : List ℕ) : Type 0 where
  under : AllBelowBase 10 (groups_after None (numbers_of bs))
  long : length (groups_after None (numbers_of bs)) ≡ 20 * length bs
  seals : (i : ℕ) → i < length bs → sealed_at (groups_after None (numbers_of bs)) i ≡ true
  numbers : (i : ℕ) → i < length bs → number_at (groups_after None (numbers_of bs)) i ≡ lowest i + get_or bs i 0

written : (bs : List ℕ) → AllBelowBase (2 ^ 61) bs → Written bs
unfolding number_at
written bs u = record {
  under = under_groups None (numbers_of bs) tt;
  long = length_groups None (numbers_of bs) ∙ ap (λ k. 20 * k) (length_numbers bs);
  seals = λ i h. let e = (at i h).0 in rw (zero-add i) at e;
  numbers = λ i h.
      let e : body (groups_after None (numbers_of bs)) i ≡ padded 10 19 (get_or (numbers_of bs) i 0) = rw (zero-add i) at (at i h).1 in
      let n : get_or (numbers_of bs) i 0 ≡ lowest i + get_or bs i 0 = number_at_lem bs i h in
      let b : get_or bs i 0 < 2 ^ 61 = All-get_or (λ b. b < 2 ^ 61) bs i 0 h u in
      let l : get_or (numbers_of bs) i 0 < 10 ^ 19 = let k = lowest_le i in omega (arith, n) in
      ap (number_from_digits 10) e ∙ padded_there 10 (omega arith) 19 (get_or (numbers_of bs) i 0) l ∙ n;
}
  where
    at : (i : ℕ) → i < length bs →
        (sealed_at ([] ++ groups_after None (numbers_of bs)) (0 + i) ≡ true) × (body ([] ++ groups_after None (numbers_of bs)) (0 + i) ≡ padded 10 19 (get_or (numbers_of bs) i 0))
    at i h = groups_at (numbers_of bs) [] None 0 i refl refl (rw (length_numbers bs) h)

grouped_from : (t : List ℕ) (n : ℕ) → length t ≡ 20 * n → 1 ≤ n → n ≤ 4 → grouped t ≡ true
unfolding grouped
grouped_from t zero l s m = absurd (omega arith)
grouped_from t (suc zero) l s m = rw l
grouped_from t (suc (suc zero)) l s m = rw l
grouped_from t (suc (suc (suc zero))) l s m = rw l
grouped_from t (suc (suc (suc (suc zero)))) l s m = rw l
grouped_from t (suc (suc (suc (suc (suc n))))) l s m = absurd (omega arith)

has_block_lem : (ds : List ℕ) (i b : ℕ) → number_at ds i ≡ lowest i + b → b < 2 ^ 61 → (has_block ds i ≡ true) × (block_at ds i ≡ b)
unfolding has_block
has_block_lem ds i b e h =
    let k : number_at ds i - lowest i ≡ b = omega (arith, e) in
    (and_from (leb (lowest i) (number_at ds i)) (ltb (number_at ds i - lowest i) (2 ^ 61)) (le-leb _ _ (omega (arith, e))) (lt-ltb _ _ (omega (arith, k, h))), k)

pub text_passes : (bs : List ℕ) → 1 ≤ length bs → length bs ≤ 4 → AllBelowBase (2 ^ 61) bs → Passes (text_of bs)
unfolding text_of all_sealed all_blocks
text_passes bs s m u =
    let w = written bs u in
    let ds = groups_after None (numbers_of bs) in
    let t = spelled ds in
    let v : values t ≡ ds = values-spelled ds in
    let l : length t ≡ 20 * length bs = length-map ds (λ d. d + 48) ∙ w.long in
    let n : length t / 20 ≡ length bs = omega (arith, l) in
    record {
      in_groups = grouped_from t (length bs) l s m;
      digits = every-spelled ds w.under;
      seals = rw (v, n) (up_from (sealed_at ds) (length bs) w.seals);
      blocks = rw (v, n) (up_from (has_block ds) (length bs) (λ i h. (has_block_lem ds i (get_or bs i 0) (w.numbers i h) (All-get_or (λ b. b < 2 ^ 61) bs i 0 h u)).0));
    }

text_blocks : (bs : List ℕ) → AllBelowBase (2 ^ 61) bs → blocks_in (text_of bs) ≡ bs
unfolding text_of
text_blocks bs u =
    let w = written bs u in
    let ds = groups_after None (numbers_of bs) in
    let t = spelled ds in
    let v : values t ≡ ds = values-spelled ds in
    let l : length t ≡ 20 * length bs = length-map ds (λ d. d + 48) ∙ w.long in
    let long : length (blocks_in t) ≡ length bs = omega (arith, length_blocks t, l) in
    ext_get_or 0 (blocks_in t) bs long (λ k h.
    let q : k < length bs = omega (arith, long) in
    block_in t k (omega (arith, l)) ∙ ap (λ xs. block_at xs k) v
    ∙ (has_block_lem ds k (get_or bs k 0) (w.numbers k q) (All-get_or (λ b. b < 2 ^ 61) bs k 0 q u)).1)

pub length_text : (bs : List ℕ) → AllBelowBase (2 ^ 61) bs → length (text_of bs) ≡ 20 * length bs
unfolding text_of
length_text bs u = length-map (groups_after None (numbers_of bs)) (λ d. d + 48) ∙ (written bs u).long

pub there : (bs : List ℕ) → 1 ≤ length bs → length bs ≤ 4 → AllBelowBase (2 ^ 61) bs → blocks_of (text_of bs) ≡ Ok (record { items = bs })
there bs s m u = passing (text_of bs) (text_passes bs s m u) ∙ ap (λ bs. Ok (record { items = bs })) (text_blocks bs u)

-- one group more of a row of digits
take_group : (ds : List ℕ) (k : ℕ) → 20 * k + 20 ≤ length ds → take (20 * suc k) ds ≡ take (20 * k) ds ++ (body ds k ++ (get_or ds (20 * k + 19) 0 ∷ []))
take_group ds k h =
    let xs = take (20 * suc k) ds in
    let q : 20 * suc k ≡ 20 * k + 20 = omega arith in
    let n : 19 ≡ 20 * k + 19 - 20 * k = omega arith in
    let f : take (20 * k) xs ≡ take (20 * k) ds = take-take (20 * k) (20 * suc k) ds (omega arith) in
    let l : 19 < length (drop (20 * k) ds) = simp length-drop (omega arith) in
    let g : drop (20 * k) xs ≡ body ds k ++ (get_or ds (20 * k + 19) 0 ∷ []) =
    ap (λ j. drop (20 * k) (take j ds)) q ∙ drop-take (20 * k) 20 ds ∙ take_more (drop (20 * k) ds) 19 0 l
    ∙ (λ i. take (n i) (drop (20 * k) ds) ++ (get_or-drop (20 * k) ds 19 0 i ∷ [])) in
    sym (take-append-drop (20 * k) xs) ∙ (λ i. f i ++ g i)

-- Sealed groups of the same numbers are the same digits, front by front.
before_same : (ds es : List ℕ) (k : ℕ) → take (20 * k) ds ≡ take (20 * k) es → before ds k ≡ before es k
before_same ds es zero e = refl
before_same ds es (suc k) e =
    ap Some (sym (get_or-take (20 * suc k) ds (20 * k + 19) 0 (omega arith)) ∙ ap (λ xs. get_or xs (20 * k + 19) 0) e ∙ get_or-take (20 * suc k) es (20 * k + 19) 0 (omega arith))

body_same : (ds es : List ℕ) (k : ℕ) → AllBelowBase 10 ds → AllBelowBase 10 es → 20 * k + 20 ≤ length ds → 20 * k + 20 ≤ length es → number_at ds k ≡ number_at es k → body ds k ≡ body es k
unfolding number_at
body_same ds es k u v l m e = sym (spells ds u l) ∙ ap (padded 10 19) e ∙ spells es v m
  where
    spells : (xs : List ℕ) → AllBelowBase 10 xs → 20 * k + 20 ≤ length xs → padded 10 19 (number_from_digits 10 (body xs k)) ≡ body xs k
    spells xs u l =
        let n : length (body xs k) ≡ 19 = simp (length-take, length-drop) (omega arith) in
        ap (λ j. padded 10 j (number_from_digits 10 (body xs k))) (sym n) ∙ padded_back 10 (body xs k) (All-take (λ d. d < 10) (20 * k + 19 - 20 * k) (drop (20 * k) xs) (All-drop (λ d. d < 10) (20 * k) xs u))

pub last_is : (ds : List ℕ) (k : ℕ) → sealed_at ds k ≡ true → get_or ds (20 * k + 19) 0 ≡ check_digit (front (before ds k) ++ body ds k)
unfolding sealed_at
last_is ds k e = eqb-true (get_or ds (20 * k + 19) 0) (check_digit (front (before ds k) ++ body ds k)) e

alike : (n : ℕ) (ds es : List ℕ) → AllBelowBase 10 ds → AllBelowBase 10 es → length ds ≡ 20 * n → length es ≡ 20 * n →
    ((i : ℕ) → i < n → sealed_at ds i ≡ true) → ((i : ℕ) → i < n → sealed_at es i ≡ true) → ((i : ℕ) → i < n → number_at ds i ≡ number_at es i) →
    (k : ℕ) → k ≤ n → take (20 * k) ds ≡ take (20 * k) es
alike n ds es u v l m f g e zero h = refl
alike n ds es u v l m f g e (suc k) h =
    let earlier = alike n ds es u v l m f g e k (omega arith) in
    let x : body ds k ≡ body es k = body_same ds es k u v (omega arith) (omega arith) (e k h) in
    let y : before ds k ≡ before es k = before_same ds es k earlier in
    let z : get_or ds (20 * k + 19) 0 ≡ get_or es (20 * k + 19) 0 = last_is ds k (f k h) ∙ (λ i. check_digit (front (y i) ++ x i)) ∙ sym (last_is es k (g k h)) in
    take_group ds k (omega arith) ∙ (λ i. earlier i ++ (x i ++ (z i ∷ []))) ∙ sym (take_group es k (omega arith))

-- the number of a group that has a block
number_back : (ds : List ℕ) (i : ℕ) → has_block ds i ≡ true → number_at ds i ≡ lowest i + block_at ds i
unfolding has_block
number_back ds i e =
    let l = leb-true (lowest i) (number_at ds i) (and_parts (leb (lowest i) (number_at ds i)) (ltb (number_at ds i - lowest i) (2 ^ 61)) e).0 in
    omega (arith, l)

pub back : (t bs : List ℕ) → blocks_of t ≡ Ok (record { items = bs }) → t ≡ text_of bs
unfolding text_of all_sealed all_blocks
back t bs r =
    let p = passed t (record { items = bs }) r in
    let f = grouped-fits t p.0.in_groups in
    let n = length t / 20 in
    let are : bs ≡ blocks_in t = ap (λ (v : ArrayVec ℕ). v.items) p.1 in
    let lt : length t ≡ 20 * n = omega (arith, f.0) in
    let lb : length bs ≡ n = ap length are ∙ length_blocks t in
    let w = written bs (rw are (sound t p.0.in_groups p.0.blocks).below) in
    let ds = values t in
    let es = groups_after None (numbers_of bs) in
    let ld : length ds ≡ 20 * n = length-map t (λ b. b - 48) ∙ lt in
    let le : length es ≡ 20 * n = w.long ∙ ap (λ k. 20 * k) lb in
    let same : take (20 * n) ds ≡ take (20 * n) es = alike n ds es (under-values t p.0.digits) w.under ld le
    (up_at (sealed_at ds) n p.0.seals) (λ i h. w.seals i (omega (arith, lb)))
    (λ i h. number_back ds i (up_at (has_block ds) n p.0.blocks i h)
    ∙ ap (λ x. lowest i + x) (sym (ap (λ xs. get_or xs i 0) are ∙ block_in t i h)) ∙ sym (w.numbers i (omega (arith, lb)))) n (omega arith) in
    let digits : ds ≡ es = sym (take_all (20 * n) ds (omega arith)) ∙ same ∙ take_all (20 * n) es (omega arith) in
    sym (spelled-values t p.0.digits) ∙ ap spelled digits
