-- A wrong digit (notices_wrong_digit), and two neighbours in the wrong order (notices_swap), break a check digit.
use Rattle.std.proofs.Common.{◌≡◌, ℕ, zero, suc, ◌+◌, ◌-◌, ◌*◌, ◌/◌, ◌%◌, ◌<◌, ◌≤◌, true, false, List, [], ◌∷◌, ◌++◌, length, get_or, take, drop, set, Some, Err, sym, refl, ap, ◌∙◌, ⊎_elim, append_assoc, arith}
use lib.Seq.{take-set-lt, take-set-le, drop-set-add, set_split}
use Rattle.std.specs.Int.Digits.{AllBelowBase}
use Rattle.std.proofs.lemmas.List.{get_or-set_same, get_or-set_other, get_or-take, get_or-drop, set-get_or, map-set, length-set, length-map, length-take, length-drop}
use Rattle.std.proofs.ByRecursion.{All-append, All-take, All-drop, All-get_or}
use Rattle.std.proofs.lemmas.Bool.{cases_Bool, cases_eq}
use Rattle.refusal.specs.declared.Refusal.TheVariants.{CheckDigit}
use Rattle.std.specs.List.{list_all}
use Rattle.decimal.specs.Digits.{is_digit, values}
use Rattle.decimal.specs.CheckDigits.{front, check_digit}
use Rattle.decimal.specs.Groups.{before, body, sealed_at, grouped, all_digits, all_sealed, blocks_of}
use Rattle.decimal.specs.Laws.{NoticesWrongDigit, NoticesSwap, swapped}
use Rattle.decimal.proofs.Bounded.{up_at, up_fails}
use Rattle.decimal.proofs.Cancels.{wrong_digit, wrong_order}
use Rattle.decimal.proofs.Spelling.{every_at, every_set, digit_in, under-values, get_or-values}
use Rattle.decimal.proofs.Grouping.{before_digit, grouped-fits}
use Rattle.decimal.proofs.Returning.{last_is}

-- an entry with one broken seal is refused for it
broken : (t : List ℕ) (i : ℕ) → grouped t ≡ true → list_all is_digit t ≡ true → i < length t / 20 → (sealed_at (values t) i ≡ true → ⊥) → blocks_of t ≡ Err CheckDigit
unfolding blocks_of all_digits all_sealed
broken t i g d h no-seal =
    let f : sealed_at (values t) i ≡ false = ⊎_elim (λ e. absurd (no-seal e)) (λ e. e) (cases_Bool (sealed_at (values t) i)) in
    let s = up_fails (sealed_at (values t)) (length t / 20) i h f in
    rw (g, d, s)

-- the same length passes the same
grouped_same : (t u : List ℕ) → length u ≡ length t → grouped t ≡ true → grouped u ≡ true
unfolding grouped
grouped_same t u l g = rw l g

-- what changing a place at or after a group's start leaves and changes of it
before-set : (ds : List ℕ) (k v i : ℕ) → 20 * i ≤ k → before (set ds k v) i ≡ before ds i
before-set ds k v zero h = refl
before-set ds k v (suc i) h = ap Some (get_or-set_other ds k (20 * i + 19) v 0 (λ e. omega arith))

body_after : (ds : List ℕ) (v i : ℕ) → body (set ds (20 * i + 19) v) i ≡ body ds i
body_after ds v i =
    let m : 20 * i + 19 - 20 * i ≤ 19 = omega arith in
    ap (take (20 * i + 19 - 20 * i)) (drop-set-add (20 * i) ds 19 v) ∙ take-set-le (20 * i + 19 - 20 * i) (drop (20 * i) ds) 19 v m

body-set : (ds : List ℕ) (v i j : ℕ) → j < 19 → body (set ds (20 * i + j) v) i ≡ set (body ds i) j v
body-set ds v i j h =
    let m : j < 20 * i + 19 - 20 * i = omega arith in
    ap (take (20 * i + 19 - 20 * i)) (drop-set-add (20 * i) ds j v) ∙ take-set-lt (20 * i + 19 - 20 * i) (drop (20 * i) ds) j v m

body_at : (ds : List ℕ) (i j : ℕ) → j < 19 → get_or (body ds i) j 0 ≡ get_or ds (20 * i + j) 0
body_at ds i j h =
    let m : j < 20 * i + 19 - 20 * i = omega arith in
    get_or-take (20 * i + 19 - 20 * i) (drop (20 * i) ds) j 0 m ∙ get_or-drop (20 * i) ds j 0

length-body : (ds : List ℕ) (i : ℕ) → 20 * i + 19 ≤ length ds → length (body ds i) ≡ 19
length-body ds i h = simp (length-take, length-drop) (omega arith)

under-body : (ds : List ℕ) (i : ℕ) → AllBelowBase 10 ds → AllBelowBase 10 (body ds i)
under-body ds i u = All-take (λ d. d < 10) (20 * i + 19 - 20 * i) (drop (20 * i) ds) (All-drop (λ d. d < 10) (20 * i) ds u)

-- two sealed groups with the same check digit, and the same before them, have rows of one check digit
same_check : (ds es : List ℕ) (i : ℕ) → sealed_at ds i ≡ true → sealed_at es i ≡ true → before es i ≡ before ds i → get_or es (20 * i + 19) 0 ≡ get_or ds (20 * i + 19) 0 →
    check_digit (front (before ds i) ++ body es i) ≡ check_digit (front (before ds i) ++ body ds i)
same_check ds es i s r b l =
    ap (λ o. check_digit (front o ++ body es i)) (sym b) ∙ sym (last_is es i r) ∙ l ∙ last_is ds i s

under-front : (ds : List ℕ) (i : ℕ) → AllBelowBase 10 ds → 20 * i ≤ length ds → AllBelowBase 10 (front (before ds i))
under-front ds zero u l = tt
under-front ds (suc i) u l = (before_digit ds (suc i) u l, tt)

-- the row of a group with another digit at one place
row_wrong : (fr bd : List ℕ) (j v : ℕ) → AllBelowBase 10 fr → AllBelowBase 10 bd → j < length bd → v < 10 → check_digit (fr ++ set bd j v) ≡ check_digit (fr ++ bd) → v ≡ get_or bd j 0
row_wrong fr bd j v u w h hv e =
    let a = get_or bd j 0 in
    let whole : set bd j a ≡ bd = set-get_or bd j 0 in
    let split : (x : ℕ) → fr ++ set bd j x ≡ (fr ++ take j bd) ++ (x ∷ drop (suc j) bd) =
    λ x. ap (λ t. fr ++ t) (set_split bd j x h) ∙ sym (append_assoc fr (take j bd) (x ∷ drop (suc j) bd)) in
    wrong_digit (fr ++ take j bd) (drop (suc j) bd) v a
    (All-append (λ d. d < 10) fr (take j bd) u (All-take (λ d. d < 10) j bd w)) (All-drop (λ d. d < 10) (suc j) bd w) hv (All-get_or (λ d. d < 10) bd j 0 h w)
    (ap check_digit (sym (split v)) ∙ e ∙ ap (λ t. check_digit (fr ++ t)) (sym whole) ∙ ap check_digit (split a))

seal_wrong : (ds : List ℕ) (i j v : ℕ) → AllBelowBase 10 ds → 20 * i + 20 ≤ length ds → j < 20 → v < 10 → sealed_at ds i ≡ true → sealed_at (set ds (20 * i + j) v) i ≡ true → v ≡ get_or ds (20 * i + j) 0
seal_wrong ds i j v u l h hv s r = ⊎_elim
    (λ (q : j ≡ 19).
    let es = set ds (20 * i + 19) v in
    let r' : sealed_at es i ≡ true = rw q at r in
    let x : get_or es (20 * i + 19) 0 ≡ v = get_or-set_same ds (20 * i + 19) v 0 (omega arith) in
    let y : before es i ≡ before ds i = before-set ds (20 * i + 19) v i (omega arith) in
    let z : body es i ≡ body ds i = body_after ds v i in
    rw q (sym x ∙ last_is es i r' ∙ (λ k. check_digit (front (y k) ++ z k)) ∙ sym (last_is ds i s)))
    (λ (q : j ≡ 19 → ⊥).
    let j19 : j < 19 = omega arith in
    let es = set ds (20 * i + j) v in
    let x : get_or es (20 * i + 19) 0 ≡ get_or ds (20 * i + 19) 0 = get_or-set_other ds (20 * i + j) (20 * i + 19) v 0 (λ e. omega arith) in
    let y : before es i ≡ before ds i = before-set ds (20 * i + j) v i (omega arith) in
    let c = same_check ds es i s r y x in
    let e = ap (λ t. check_digit (front (before ds i) ++ t)) (sym (body-set ds v i j j19)) ∙ c in
    row_wrong (front (before ds i)) (body ds i) j v (under-front ds i u (omega arith)) (under-body ds i u) (rw (length-body ds i (omega arith)) j19) hv e ∙ body_at ds i j j19)
    (cases_eq j 19)

-- the row of a group with two neighbours in the other order
split_two : (bd : List ℕ) (j x y : ℕ) → suc j < length bd → set (set bd j x) (suc j) y ≡ take j bd ++ (x ∷ y ∷ drop (suc (suc j)) bd)
split_two [] j x y h = absurd (omega arith)
split_two (d ∷ []) j x y h = absurd (omega arith)
split_two (d ∷ e ∷ bd) zero x y h = refl
split_two (d ∷ e ∷ bd) (suc j) x y h = ap (λ t. d ∷ t) (split_two (e ∷ bd) j x y (omega arith))

row-order : (fr bd : List ℕ) (j a b : ℕ) → AllBelowBase 10 fr → AllBelowBase 10 bd → suc j < length bd → a ≡ get_or bd j 0 → b ≡ get_or bd (suc j) 0 →
    check_digit (fr ++ set (set bd j b) (suc j) a) ≡ check_digit (fr ++ bd) → b ≡ a
row-order fr bd j a b u w h ea eb e =
    let whole : set (set bd j a) (suc j) b ≡ bd = ap (λ x. set (set bd j x) (suc j) b) ea ∙ ap (λ t. set t (suc j) b) (set-get_or bd j 0) ∙ ap (set bd (suc j)) eb ∙ set-get_or bd (suc j) 0 in
    let split : (x y : ℕ) → fr ++ set (set bd j x) (suc j) y ≡ (fr ++ take j bd) ++ (x ∷ y ∷ drop (suc (suc j)) bd) =
    λ x y. ap (λ t. fr ++ t) (split_two bd j x y h) ∙ sym (append_assoc fr (take j bd) (x ∷ y ∷ drop (suc (suc j)) bd)) in
    wrong_order (fr ++ take j bd) (drop (suc (suc j)) bd) b a
    (All-append (λ d. d < 10) fr (take j bd) u (All-take (λ d. d < 10) j bd w)) (All-drop (λ d. d < 10) (suc (suc j)) bd w)
    (rw eb (All-get_or (λ d. d < 10) bd (suc j) 0 h w)) (rw ea (All-get_or (λ d. d < 10) bd j 0 (omega arith) w))
    (ap check_digit (sym (split b a)) ∙ e ∙ ap (λ t. check_digit (fr ++ t)) (sym whole) ∙ ap check_digit (split a b))

seal_order : (ds : List ℕ) (i j a b : ℕ) → AllBelowBase 10 ds → 20 * i + 20 ≤ length ds → suc j < 19 → a ≡ get_or ds (20 * i + j) 0 → b ≡ get_or ds (20 * i + suc j) 0 →
    sealed_at ds i ≡ true → sealed_at (set (set ds (20 * i + j) b) (20 * i + suc j) a) i ≡ true → b ≡ a
seal_order ds i j a b u l h ea eb s r =
    let mid = set ds (20 * i + j) b in
    let es = set mid (20 * i + suc j) a in
    let x : get_or es (20 * i + 19) 0 ≡ get_or ds (20 * i + 19) 0 =
    get_or-set_other mid (20 * i + suc j) (20 * i + 19) a 0 (λ e. omega arith) ∙ get_or-set_other ds (20 * i + j) (20 * i + 19) b 0 (λ e. omega arith) in
    let y : before es i ≡ before ds i = before-set mid (20 * i + suc j) a i (omega arith) ∙ before-set ds (20 * i + j) b i (omega arith) in
    let z : body es i ≡ set (set (body ds i) j b) (suc j) a = body-set mid a i (suc j) h ∙ ap (λ t. set t (suc j) a) (body-set ds b i j (omega arith)) in
    let c = same_check ds es i s r y x in
    row-order (front (before ds i)) (body ds i) j a b (under-front ds i u (omega arith)) (under-body ds i u) (rw (length-body ds i (omega arith)) h)
    (ea ∙ sym (body_at ds i j (omega arith))) (eb ∙ sym (body_at ds i (suc j) h)) (ap (λ t. check_digit (front (before ds i) ++ t)) (sym z) ∙ c)

pub notices_wrong_digit : NoticesWrongDigit
unfolding all_digits all_sealed
notices_wrong_digit t k byte p h d ne =
    let f = grouped-fits t p.in_groups in
    let i = k / 20 in
    let j = k % 20 in
    let q : 20 * i + j ≡ k = omega arith in
    let t' = set t k byte in
    let l : length t' ≡ length t = length-set t k byte in
    let m : i < length t / 20 = omega (arith, f.0) in
    let ds = values t in
    let v : values t' ≡ set ds k (byte - 48) = map-set (λ b. b - 48) t k byte in
    let ld : length ds ≡ length t = length-map t (λ b. b - 48) in
    let r = digit_in byte d in
    let o = digit_in (get_or t k 0) (every_at is_digit t k p.digits h) in
    let g = get_or-values t k h in
    broken t' i (grouped_same t t' l p.in_groups) (every_set is_digit t k byte p.digits d) (omega (arith, l, m)) (λ s.
    let s' : sealed_at (set ds (20 * i + j) (byte - 48)) i ≡ true = ap (λ n. sealed_at (set ds n (byte - 48)) i) q ∙ sym (ap (λ xs. sealed_at xs i) v) ∙ s in
    let same = seal_wrong ds i j (byte - 48) (under-values t p.digits) (omega (arith, f.0, ld)) (omega arith) (omega (arith, r)) (up_at (sealed_at ds) (length t / 20) p.seals i m) s' in
    let back : byte - 48 ≡ get_or ds k 0 = same ∙ ap (λ n. get_or ds n 0) q in
    ne (omega (arith, back, g, r, o)))

pub notices_swap : NoticesSwap
unfolding all_digits all_sealed
notices_swap t k p h near ne =
    let f = grouped-fits t p.in_groups in
    let i = k / 20 in
    let j = k % 20 in
    let q : 20 * i + j ≡ k = omega arith in
    let q' : 20 * i + suc j ≡ k + 1 = omega arith in
    let h' : k + 1 < length t = omega (arith, f.0) in
    let m : i < length t / 20 = omega (arith, f.0) in
    let one = get_or t k 0 in
    let two = get_or t (k + 1) 0 in
    let mid = set t k two in
    let t' = swapped t k in
    let l : length t' ≡ length t = length-set mid (k + 1) one ∙ length-set t k two in
    let d_one = every_at is_digit t k p.digits h in
    let d_two = every_at is_digit t (k + 1) p.digits h' in
    let ds = values t in
    let v : values t' ≡ set (set ds k (two - 48)) (k + 1) (one - 48) =
    map-set (λ b. b - 48) mid (k + 1) one ∙ ap (λ xs. set xs (k + 1) (one - 48)) (map-set (λ b. b - 48) t k two) in
    let ld : length ds ≡ length t = length-map t (λ b. b - 48) in
    let r = digit_in one d_one in
    let o = digit_in two d_two in
    broken t' i (grouped_same t t' l p.in_groups) (every_set is_digit mid (k + 1) one (every_set is_digit t k two p.digits d_two) d_one) (omega (arith, l, m)) (λ s.
    let s' : sealed_at (set (set ds (20 * i + j) (two - 48)) (20 * i + suc j) (one - 48)) i ≡ true =
    (λ n. sealed_at (set (set ds (q n) (two - 48)) (q' n) (one - 48)) i) ∙ sym (ap (λ xs. sealed_at xs i) v) ∙ s in
    let same = seal_order ds i j (one - 48) (two - 48) (under-values t p.digits) (omega (arith, f.0, ld)) (omega arith)
    (sym (get_or-values t k h) ∙ ap (λ n. get_or ds n 0) (sym q)) (sym (get_or-values t (k + 1) h') ∙ ap (λ n. get_or ds n 0) (sym q'))
    (up_at (sealed_at ds) (length t / 20) p.seals i m) s' in
    ne (omega (arith, same, r, o)))
