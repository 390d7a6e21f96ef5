-- What is packed is read back, and only what packing gives is read. Assumes nothing.
use Rattle.std.proofs.Common.{◌≡◌, ℕ, zero, suc, ◌+◌, ◌-◌, ◌*◌, ◌/◌, ◌%◌, ◌^◌, ◌<◌, ◌≤◌, Bool, true, false, cond, eqb, ltb, leb, ◌⊎◌, List, [], ◌∷◌, length, get_or, take, Some, None, Ok, Err, Option, Result, sym, refl, ap, ◌∙◌, inl, inr, ⊎_elim, arith}
use mir.Val.{bool_byte}
use Rattle.std.proofs.lemmas.Nat.{mod_below}
use Rattle.std.proofs.lemmas.Bool.{and_parts, and_from, eq-eqb, le-leb, lt-ltb, cases_Bool, cond-true, leb-true}
use Rattle.std.proofs.lemmas.Bool.Decides.{nat_tests}
use Rattle.token.specs.Widths.{packed, unpacked}
use Rattle.token.proofs.Packs.{packs}
use Rattle.token.specs.Limits.{under}
use Rattle.token.specs.RateLayout.{first_part_widths, second_part_widths, third_part_widths, part_count, size_in}
use Rattle.token.specs.RatePrices.{fits, three, parts, first_part_fields, second_part_fields, third_part_fields, lawful, prices_in, spelled, from_fields, tariff_in, Back, Only, Judged}
use Rattle.token.specs.FurtherBlocks.{carriable}
use Rattle.token.specs.declared.tariff.Tariff.{Tariff}
use Rattle.refusal.specs.Checks.{found}
use Rattle.refusal.specs.declared.Refusal.{Refusal}
use Rattle.refusal.specs.declared.Refusal.TheVariants.{RatePrices}
use Rattle.token.proofs.Found.{found_ok, found_err}
use Rattle.token.proofs.Tariffs.{under_at, limited, long, unused, again, made}
use Rattle.token.proofs.Fitting.{size_small, fit_first, fit_second, fit_third, first_59, second_59, third_59, part_below}

-- a list of eight, by its elements
eight : (ps : List ℕ) → length ps ≡ 8 → get_or ps 0 0 ∷ get_or ps 1 0 ∷ get_or ps 2 0 ∷ get_or ps 3 0 ∷ get_or ps 4 0 ∷ get_or ps 5 0 ∷ get_or ps 6 0 ∷ get_or ps 7 0 ∷ [] ≡ ps
eight [] l = absurd (omega arith)
eight (a ∷ []) l = absurd (omega arith)
eight (a ∷ b ∷ []) l = absurd (omega arith)
eight (a ∷ b ∷ c ∷ []) l = absurd (omega arith)
eight (a ∷ b ∷ c ∷ d ∷ []) l = absurd (omega arith)
eight (a ∷ b ∷ c ∷ d ∷ e ∷ []) l = absurd (omega arith)
eight (a ∷ b ∷ c ∷ d ∷ e ∷ f ∷ []) l = absurd (omega arith)
eight (a ∷ b ∷ c ∷ d ∷ e ∷ f ∷ g ∷ []) l = absurd (omega arith)
eight (a ∷ b ∷ c ∷ d ∷ e ∷ f ∷ g ∷ h ∷ []) l = refl
eight (a ∷ b ∷ c ∷ d ∷ e ∷ f ∷ g ∷ h ∷ x ∷ ps) l = absurd (omega arith)

-- one to three parts, by their elements
few : (ps : List ℕ) → 1 ≤ length ps → length ps ≤ 3 → ps ≡ take (length ps) (get_or ps 0 0 ∷ get_or ps 1 0 ∷ get_or ps 2 0 ∷ [])
few [] l m = absurd (omega arith)
few (a ∷ []) l m = refl
few (a ∷ b ∷ []) l m = refl
few (a ∷ b ∷ c ∷ []) l m = refl
few (a ∷ b ∷ c ∷ d ∷ ps) l m = absurd (omega arith)

flag_back : (b : Bool) → eqb (bool_byte b) 1 ≡ b
flag_back true = refl
flag_back false = refl

-- the fields of a tariff give it back
whole : (t : Tariff) (s : ℕ) → from_fields (part_count t.count) (first_part_fields t s) (second_part_fields t) (third_part_fields t) ≡ Some t
whole t s =
    let l = limited t in
    let n : t.count - 1 + 1 ≡ t.count = omega (arith, l.some) in
    let e = again t (eqb (bool_byte t.complete) 1) (t.count - 1 + 1) (prices_in (first_part_fields t s) (second_part_fields t) (third_part_fields t)) (flag_back t.complete) n (eight t.prices (long t)) in
    let k : lawful (part_count t.count) (first_part_fields t s) (second_part_fields t) (third_part_fields t) ≡ true = eq-eqb (part_count t.count) (part_count (t.count - 1 + 1)) (ap part_count (sym n)) in
    cond-true (lawful (part_count t.count) (first_part_fields t s) (second_part_fields t) (third_part_fields t)) _ _ k ∙ e

-- so many parts of three, the others zero
record Held (ps : List ℕ) (k a b d : ℕ) : Type 0 where
  len : length ps ≡ k
  one : get_or ps 0 0 ≡ a
  two : get_or ps 1 0 ≡ b
  three : get_or ps 2 0 ≡ d

of_three : (k a b d : ℕ) → ((k ≡ 1) × (b ≡ 0) × (d ≡ 0)) ⊎ (((k ≡ 2) × (d ≡ 0)) ⊎ (k ≡ 3)) → Held (take k (a ∷ b ∷ d ∷ [])) k a b d
of_three k a b d (inl h) = rw h.0 (record { len = refl; one = refl; two = sym h.1; three = sym h.2 })
of_three k a b d (inr (inl h)) = rw h.0 (record { len = refl; one = refl; two = refl; three = sym h.1 })
of_three k a b d (inr (inr h)) = rw h (record { len = refl; one = refl; two = refl; three = refl })

second_none : (t : Tariff) (s : ℕ) → t.count ≤ 2 → packed (second_part_widths s) (second_part_fields t) ≡ 0
second_none t s h =
    let a : get_or t.prices 2 0 ≡ 0 = unused t 2 h in
    let b : get_or t.prices 3 0 ≡ 0 = unused t 3 (omega arith) in
    let c : get_or t.prices 4 0 ≡ 0 = unused t 4 (omega arith) in
    let d : get_or t.prices 5 0 ≡ 0 = unused t 5 (omega arith) in
    rw (a, b, c, d) (omega arith)

third_none : (t : Tariff) (s : ℕ) → t.count ≤ 6 → packed (third_part_widths s) (third_part_fields t) ≡ 0
third_none t s h =
    let a : get_or t.prices 6 0 ≡ 0 = unused t 6 h in
    let b : get_or t.prices 7 0 ≡ 0 = unused t 7 (omega arith) in
    rw (a, b) (omega arith)

ways : (t : Tariff) (s : ℕ) → ((part_count t.count ≡ 1) × (packed (second_part_widths s) (second_part_fields t) ≡ 0) × (packed (third_part_widths s) (third_part_fields t) ≡ 0)) ⊎ (((part_count t.count ≡ 2) × (packed (third_part_widths s) (third_part_fields t) ≡ 0)) ⊎ (part_count t.count ≡ 3))
ways t s =
    let n = t.count in
    ⊎_elim
    (λ (e : leb n 2 ≡ true). let h = leb-true n 2 e in inl (rw e refl, second_none t s h, third_none t s (omega arith)))
    (λ (e : leb n 2 ≡ false). ⊎_elim
    (λ (f : leb n 6 ≡ true). inr (inl (rw (e, f) refl, third_none t s (leb-true n 6 f))))
    (λ (f : leb n 6 ≡ false). inr (inr (rw (e, f) refl)))
    (cases_Bool (leb n 6)))
    (cases_Bool (leb n 2))

held-parts : (t : Tariff) (s : ℕ) → Held (parts t s) (part_count t.count) (packed (first_part_widths s) (first_part_fields t s)) (packed (second_part_widths s) (second_part_fields t)) (packed (third_part_widths s) (third_part_fields t))
unfolding parts
held-parts t s = of_three (part_count t.count) _ _ _ (ways t s)

-- the size code among the fields of a first part
sized : (s n : ℕ) → s ≤ 3 → n / 2 ^ 35 % 4 ≡ get_or (unpacked (first_part_widths s) n) 6 0
sized s n h = let e : 35 ≡ (11 + s) + ((11 + s) + ((13 - 2 * s) + 0)) = omega arith in ap (λ (x : ℕ). n / 2 ^ x % 4) e

pub back : Back
unfolding tariff_in
back t s f =
    let h = held-parts t s in
    let k = size_small t s f in
    let first : unpacked (first_part_widths s) (packed (first_part_widths s) (first_part_fields t s)) ≡ first_part_fields t s = (packs (first_part_widths s)).there (first_part_fields t s) (fit_first t s f) in
    let second : unpacked (second_part_widths s) (packed (second_part_widths s) (second_part_fields t)) ≡ second_part_fields t = (packs (second_part_widths s)).there (second_part_fields t) (fit_second t s f) in
    let third : unpacked (third_part_widths s) (packed (third_part_widths s) (third_part_fields t)) ≡ third_part_fields t = (packs (third_part_widths s)).there (third_part_fields t) (fit_third t s f) in
    let z : size_in (parts t s) ≡ s = ap (λ (x : ℕ). x / 2 ^ 35 % 4) h.one ∙ sized s (packed (first_part_widths s) (first_part_fields t s)) k ∙ ap (λ (l : List ℕ). get_or l 6 0) first in
    (λ i. from_fields (h.len i)
    (((λ j. unpacked (first_part_widths (z j)) (h.one j)) ∙ first) i)
    (((λ j. unpacked (second_part_widths (z j)) (h.two j)) ∙ second) i)
    (((λ j. unpacked (third_part_widths (z j)) (h.three j)) ∙ third) i))
    ∙ whole t s

taken_if : (b : Bool) (o : Option Tariff) (t : Tariff) → cond b o None ≡ Some t → (b ≡ true) × (o ≡ Some t)
taken_if true o t e = (refl, e)
taken_if false o t e = absurd (let z : ◌≡◌ {A = ℕ} 0 1 = cc in omega arith)

flag_there : (n : ℕ) → n < 2 → n ≡ bool_byte (eqb n 1)
flag_there zero h = refl
flag_there (suc zero) h = refl
flag_there (suc (suc n)) h = absurd (omega arith)

-- the fields of lawful parts
record Lawful (n : ℕ) (a b d : List ℕ) : Type 0 where
  kind : get_or a 1 0 ≡ 1
  sub : get_or a 2 0 ≡ 1
  rest1 : get_or a 9 0 ≡ 0
  rest2 : get_or b 4 0 ≡ 0
  rest3 : get_or d 2 0 ≡ 0
  parts : n ≡ part_count (get_or a 4 0 + 1)

lawful_says : (n : ℕ) (a b d : List ℕ) → lawful n a b d ≡ true → Lawful n a b d
lawful_says n a b d e = record {
  kind = grind (arith, nat_tests);
  sub = grind (arith, nat_tests);
  rest1 = grind (arith, nat_tests);
  rest2 = grind (arith, nat_tests);
  rest3 = grind (arith, nat_tests);
  parts = grind (arith, nat_tests);
}

count_few : (n : ℕ) → (1 ≤ part_count n) × (part_count n ≤ 3)
count_few n = (grind (arith, nat_tests), grind (arith, nat_tests))

all_eight : (n a b c d e f g h : ℕ) → a < n → b < n → c < n → d < n → e < n → f < n → g < n → h < n → under n (a ∷ b ∷ c ∷ d ∷ e ∷ f ∷ g ∷ h ∷ []) ≡ true
all_eight n a b c d e f g h a' b' c' d' e' f' g' h' =
    rw (lt-ltb a n a', lt-ltb b n b', lt-ltb c n c', lt-ltb d n d', lt-ltb e n e', lt-ltb f n f', lt-ltb g n g', lt-ltb h n h') refl

pub only : Only
unfolding tariff_in parts
only ps t u e =
    let s = size_in ps in
    let h : s ≤ 3 = omega (arith, mod_below (get_or ps 0 0 / 2 ^ 35) 4 (omega arith)) in
    let p = get_or ps 0 0 in
    let q = get_or ps 1 0 in
    let r = get_or ps 2 0 in
    let a = unpacked (first_part_widths s) p in
    let b = unpacked (second_part_widths s) q in
    let d = unpacked (third_part_widths s) r in
    let k = taken_if (lawful (length ps) a b d) (spelled a b d) t e in
    let l = lawful_says (length ps) a b d k.0 in
    let m = made t (eqb (get_or a 0 0) 1) (get_or a 3 0) (get_or a 5 0) (get_or a 4 0 + 1) (prices_in a b d) k.1 in
    let price : (i : ℕ) → get_or (prices_in a b d) i 0 ≡ get_or t.prices i 0 = λ i. ap (λ (x : List ℕ). get_or x i 0) (sym m.prices) in
    let flag : get_or a 0 0 ≡ bool_byte t.complete = flag_there (get_or a 0 0) (part_below (first_part_widths s) p 0) ∙ ap bool_byte (sym m.complete) in
    let number : get_or a 4 0 ≡ t.count - 1 = omega (arith, m.count) in
    let first : a ≡ first_part_fields t s = λ i. flag i ∷ l.kind i ∷ l.sub i ∷ sym m.month i ∷ number i ∷ sym m.multiplier i ∷ sym (sized s p h) i ∷ price 0 i ∷ price 1 i ∷ l.rest1 i ∷ [] in
    let second : b ≡ second_part_fields t = λ i. price 2 i ∷ price 3 i ∷ price 4 i ∷ price 5 i ∷ l.rest2 i ∷ [] in
    let third : d ≡ third_part_fields t = λ i. price 6 i ∷ price 7 i ∷ l.rest3 i ∷ [] in
    let small : (i : ℕ) → get_or ps i 0 < 2 ^ 59 = λ i. under_at (2 ^ 59) ps i (omega arith) u in
    let p_is : p ≡ packed (first_part_widths s) (first_part_fields t s) = sym ((packs (first_part_widths s)).back p (rw (first_59 s h) (small 0))) ∙ ap (packed (first_part_widths s)) first in
    let q_is : q ≡ packed (second_part_widths s) (second_part_fields t) = sym ((packs (second_part_widths s)).back q (rw (second_59 s h) (small 1))) ∙ ap (packed (second_part_widths s)) second in
    let r_is : r ≡ packed (third_part_widths s) (third_part_fields t) = sym ((packs (third_part_widths s)).back r (rw (third_59 s h) (small 2))) ∙ ap (packed (third_part_widths s)) third in
    let n : length ps ≡ part_count t.count = l.parts ∙ ap part_count (sym m.count) in
    let f = count_few t.count in
    let w : (i : ℕ) → get_or a i 0 < 2 ^ get_or (first_part_widths s) i 0 = part_below (first_part_widths s) p in
    let x : (i : ℕ) → get_or b i 0 < 2 ^ get_or (second_part_widths s) i 0 = part_below (second_part_widths s) q in
    let y : (i : ℕ) → get_or d i 0 < 2 ^ get_or (third_part_widths s) i 0 = part_below (third_part_widths s) r in
    record {
      same = few ps (omega (arith, n, f.0)) (omega (arith, n, f.1)) ∙ (λ i. take (n i) (p_is i ∷ q_is i ∷ r_is i ∷ []));
      fitting = and_from (leb s 3) (under (2 ^ (11 + s)) t.prices) (le-leb s 3 h) (rw m.prices (all_eight (2 ^ (11 + s)) _ _ _ _ _ _ _ _ (w 7) (w 8) (x 0) (x 1) (x 2) (x 3) (y 0) (y 1)));
    }

pub judged : (ps : List ℕ) (r : Result Tariff Refusal) → r ≡ found (tariff_in ps) RatePrices → Judged ps r
judged ps (Ok t) e = λ u. only ps t u (found_ok (tariff_in ps) RatePrices t e)
judged ps (Err x) e =
    let n = found_err (tariff_in ps) RatePrices x e in
    (n.0, λ t s f p. let o : None ≡ Some t = sym n.1 ∙ ap tariff_in p ∙ back t s f in let z : ◌≡◌ {A = ℕ} 0 1 = cc in omega arith)

under-take : (n k : ℕ) (xs : List ℕ) → under n xs ≡ true → under n (take k xs) ≡ true
under-take n zero xs h = refl
under-take n (suc k) [] h = refl
under-take n (suc k) (x ∷ xs) h =
    let p = and_parts (ltb x n) (under n xs) h in
    and_from (ltb x n) (under n (take k xs)) p.0 (under-take n k xs p.1)

pub parts-length : (t : Tariff) (s : ℕ) → length (parts t s) ≡ part_count t.count
parts-length t s = (held-parts t s).len

-- the parts of rate prices go into further blocks
pub parts-carriable : (t : Tariff) (s : ℕ) → fits t s ≡ true → carriable (parts t s) ≡ true
unfolding parts
parts-carriable t s f =
    let k = size_small t s f in
    let a = lt-ltb _ (2 ^ 59) (rw (first_59 s k) at ((packs (first_part_widths s)).below (first_part_fields t s) (fit_first t s f))) in
    let b = lt-ltb _ (2 ^ 59) (rw (second_59 s k) at ((packs (second_part_widths s)).below (second_part_fields t) (fit_second t s f))) in
    let d = lt-ltb _ (2 ^ 59) (rw (third_59 s k) at ((packs (third_part_widths s)).below (third_part_fields t) (fit_third t s f))) in
    let u : under (2 ^ 59) (three t s) ≡ true = rw (a, b, d) refl in
    and_from (leb (length (parts t s)) 3) (under (2 ^ 59) (parts t s))
    (le-leb _ 3 (omega (arith, parts-length t s, (count_few t.count).1))) (under-take (2 ^ 59) (part_count t.count) (three t s) u)
