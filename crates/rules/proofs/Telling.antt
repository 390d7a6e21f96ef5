-- Each test of an entry decides what its rule says in words: tells_length, tells_digits, tells_sealed, tells_blocks, tells_served,
-- tells_fitting, tells_index, tells_reach, tells_of_number, tells_priced; reads_back. Assumes nothing.
use Rattle.std.proofs.Common.{◌≡◌, ℕ, zero, suc, ◌+◌, ◌-◌, ◌*◌, ◌/◌, ◌^◌, ◌<◌, ◌≤◌, Bool, true, false, ◌&&◌, eqb, ltb, leb, List, [], ◌∷◌, ◌++◌, map, length, get_or, Some, None, Ok, Decides, Option, sym, refl, ap, ◌∙◌, subst, ⊎_elim, arith, lit<}
use Rattle.std.specs.List.{AllByRecursion}
use Rattle.std.specs.Int.Digits.{AllBelowBase}
use Rattle.std.proofs.ByRecursion.{All-append, All-take, All-drop, Decides-by_and}
use Rattle.std.proofs.lemmas.Bool.{false≢true, leb-true, le-leb, ltb-true, lt-ltb, and_from}
use Rattle.std.proofs.lemmas.Bool.Decides.{nat_tests, Decides-eqb, Decides-ltb, Decides-and, Decides-like, Decides-below_and}
use Rattle.refusal.specs.Checks.{provided}
use Rattle.refusal.specs.declared.Refusal.TheVariants.{OtherSubClass, WrongBlocks}
use Rattle.std.specs.List.{list_all}
use Rattle.decimal.specs.Digits.{is_digit, up_to, values}
use Rattle.decimal.specs.CheckDigits.{product, whole, inverse, check_digit, front}
use Rattle.decimal.specs.Groups.{before, body, sealed_at, number_at, lowest, has_block, grouped, all_digits, all_sealed, all_blocks}
use Rattle.decimal.proofs.Tables.{checks}
use Rattle.decimal.proofs.Cancels.{running_lt}
use Rattle.token.specs.declared.subclass.SubClass.{SubClass}
use Rattle.token.specs.declared.subclass.SubClass.TheVariants.{Clear, Enciphered, Rates}
use Rattle.token.specs.declared.tariff.Tariff.{Tariff}
use Rattle.token.specs.SubClasses.{code, served, sub_class_named}
use Rattle.token.specs.Shapes.{sub_class_in, fitting, shape_of, Shaped, Judged}
use Rattle.token.specs.Limits.{under}
use Rattle.token.specs.FurtherBlocks.{part_of}
use Rattle.token.specs.RatePrices.{tariff_in, Reads}
use Rattle.token.specs.RateLayout.{size_in}
use Rattle.token.proofs.Shapes.{judged}
use Rattle.token.proofs.RateLaws.{back, only}
use Rattle.window.specs.Recovery.{Stands, number_for, in_reach}
use Rattle.window.proofs.Recovery.{reached, stands_for}
use Rattle.entry.specs.Rules.{raisable, priced}
use Rattle.rules.specs.InWords.{Twenties, Closes, Blocked}

decides_leb : (a b : ℕ) → Decides (leb a b) (a ≤ b)
decides_leb a b = (leb-true a b, le-leb a b)

pub tells_length : (text : List ℕ) → Decides (grouped text) (Twenties (length text))
unfolding grouped
tells_length text = (λ e. grind (arith, nat_tests), λ h. grind (arith, nat_tests))

pub tells_digits : (text : List ℕ) → Decides (all_digits text) (AllByRecursion (λ byte. (48 ≤ byte) × (byte ≤ 57)) text)
unfolding all_digits
tells_digits text =
    Decides-by_and is_digit (λ byte. (48 ≤ byte) × (byte ≤ 57)) (list_all is_digit)
    (λ byte. Decides-and (leb 48 byte) (leb byte 57) (decides_leb 48 byte) (decides_leb byte 57)) refl (λ _ _. refl) text

-- digits of decimal text, and rows of them
under_ten : (text : List ℕ) → AllByRecursion (λ byte. (48 ≤ byte) × (byte ≤ 57)) text → AllBelowBase 10 (values text)
under_ten [] h = tt
under_ten (b ∷ text) h = let d = h.0 in (omega arith, under_ten text h.1)

digit_at : (ds : List ℕ) (i : ℕ) → AllBelowBase 10 ds → get_or ds i 0 < 10
digit_at [] i u = lit< tt
digit_at (d ∷ ds) zero u = u.0
digit_at (d ∷ ds) (suc i) u = digit_at ds i u.1

under-front : (ds : List ℕ) (i : ℕ) → AllBelowBase 10 ds → AllBelowBase 10 (front (before ds i))
under-front ds zero u = tt
under-front ds (suc i) u = (digit_at ds (20 * i + 19) u, tt)

sealed_one : (ds : List ℕ) → AllBelowBase 10 ds → (i : ℕ) → Decides (sealed_at ds i) (Closes ds i)
unfolding sealed_at check_digit whole
sealed_one ds u i =
    let row = front (before ds i) ++ body ds i in
    let last = get_or ds (20 * i + 19) 0 in
    let digits : AllBelowBase 10 row =
    All-append (λ d. d < 10) (front (before ds i)) (body ds i) (under-front ds i u) (All-take (λ d. d < 10) _ _ (All-drop (λ d. d < 10) (20 * i) ds u)) in
    let c = checks row (running_lt 0 0 row (lit< tt) digits) in
    Decides-like (eqb last (inverse (whole row)))
    (λ e. ap (product (whole row)) e ∙ c.closes)
    (λ z. c.only last (digit_at ds (20 * i + 19) u) z)
    (Decides-eqb last (inverse (whole row)))

pub tells_sealed : (text : List ℕ) → AllByRecursion (λ byte. (48 ≤ byte) × (byte ≤ 57)) text →
    Decides (all_sealed text) ((i : ℕ) → i < length text / 20 → Closes (values text) i)
unfolding all_sealed
tells_sealed text h =
    let ds = values text in
    Decides-below_and (sealed_at ds) (Closes ds) (up_to (sealed_at ds)) (sealed_one ds (under_ten text h)) refl (λ _. refl) (length text / 20)

block_one : (ds : List ℕ) (i : ℕ) → Decides (has_block ds i) (Blocked ds i)
unfolding has_block
block_one ds i =
    let n = number_at ds i in
    let l = lowest i in
    Decides-like (leb l n && ltb (n - l) (2 ^ 61))
    (λ h. let a = h.0 in (n - l, h.1, omega arith))
    (λ b. let small = b.1 in let e = b.2 in (omega arith, omega arith))
    (Decides-and (leb l n) (ltb (n - l) (2 ^ 61)) (decides_leb l n) (Decides-ltb (n - l) (2 ^ 61)))

pub tells_blocks : (text : List ℕ) → Decides (all_blocks text) ((i : ℕ) → i < length text / 20 → Blocked (values text) i)
unfolding all_blocks
tells_blocks text =
    let ds = values text in
    Decides-below_and (has_block ds) (Blocked ds) (up_to (has_block ds)) (block_one ds) refl (λ _. refl) (length text / 20)

-- what blocks are judged as, by the two tests
names : (bs : List ℕ) (a b : Bool) (k : SubClass) → Judged bs (provided a OtherSubClass (provided b WrongBlocks (Ok k))) →
    Decides a ((k : SubClass) × (sub_class_in bs ≡ code k))
names bs true true k j = (λ _. (k, j.named), λ _. refl)
names bs true false k j =
    (λ _. ⊎_elim (λ l. let o = l.0 in absurd (let z : ◌≡◌ {A = ℕ} 0 1 = cc in omega arith)) (λ r. r.1.named) j, λ _. refl)
names bs false b k j = (
  λ e. absurd (false≢true e),
  λ h. absurd (⊎_elim (λ l. l.1 h.0 h.1) (λ r. let o = r.0 in let z : ◌≡◌ {A = ℕ} 0 1 = cc in omega arith) j),
)

fits_shape : (bs : List ℕ) (a b : Bool) (k : SubClass) → a ≡ true → Judged bs (provided a OtherSubClass (provided b WrongBlocks (Ok k))) →
    Decides b ((k : SubClass) × Shaped bs k)
fits_shape bs true true k e j = (λ _. (k, j), λ _. refl)
fits_shape bs true false k e j = (
  λ f. absurd (false≢true f),
  λ h. absurd (⊎_elim (λ l. let o = l.0 in let z : ◌≡◌ {A = ℕ} 0 1 = cc in omega arith) (λ r. r.1.unshaped h.0 h.1) j),
)
fits_shape bs false b k e j = absurd (false≢true e)

judged_so : (bs : List ℕ) → Judged bs (provided (served (sub_class_in bs)) OtherSubClass (provided (fitting bs) WrongBlocks (Ok (sub_class_named (sub_class_in bs)))))
unfolding shape_of
judged_so bs = judged bs (shape_of bs) refl

pub tells_served : (bs : List ℕ) → Decides (served (sub_class_in bs)) ((k : SubClass) × (sub_class_in bs ≡ code k))
tells_served bs = names bs (served (sub_class_in bs)) (fitting bs) (sub_class_named (sub_class_in bs)) (judged_so bs)

pub tells_fitting : (bs : List ℕ) → ((k : SubClass) × (sub_class_in bs ≡ code k)) → Decides (fitting bs) ((k : SubClass) × Shaped bs k)
tells_fitting bs h =
    fits_shape bs (served (sub_class_in bs)) (fitting bs) (sub_class_named (sub_class_in bs)) ((tells_served bs).1 h) (judged_so bs)

pub tells_index : (k : SubClass) (index : ℕ) → Decides (raisable k index) (k ≡ Rates → index < 65535)
tells_index Clear index = (λ _ e. absurd (let z : ◌≡◌ {A = ℕ} 0 1 = cc in omega arith), λ _. refl)
tells_index Enciphered index = (λ _ e. absurd (let z : ◌≡◌ {A = ℕ} 0 1 = cc in omega arith), λ _. refl)
tells_index Rates index = (λ t _. ltb-true index 65535 t, λ h. lt-ltb index 65535 (h refl))

pub tells_reach : (h low : ℕ) → Decides (in_reach h low) ((n : ℕ) × Stands h low n)
tells_reach h low = (λ e. (number_for h low, reached h low e), λ p. (stands_for h low p.0 p.1).0)

-- a test of the number that ten bits stand for, where there is one, is a test of every number that they stand for
pub tells_of_number : (h low : ℕ) (P : ℕ → Type 0) (b : Bool) → ((n : ℕ) × Stands h low n) → Decides b (P (number_for h low)) →
    Decides b ((n : ℕ) → Stands h low n → P n)
tells_of_number h low P b p d =
    Decides-like b
    (λ q n st. subst P (stands_for h low n st).1 q)
    (λ f. f (number_for h low) (reached h low ((tells_reach h low).1 p)))
    d

-- data parts have 59 bits
parts-under : (bs : List ℕ) → under (2 ^ 59) (map part_of bs) ≡ true
parts-under [] = refl
parts-under (b ∷ bs) = and_from (ltb (part_of b) (2 ^ 59)) (under (2 ^ 59) (map part_of bs)) (lt-ltb (part_of b) (2 ^ 59) (omega arith)) (parts-under bs)

-- prices whose parts these are, are read
pub reads_back : (ps : List ℕ) (t : Tariff) → Reads ps t → tariff_in ps ≡ Some t
reads_back ps t r = ap tariff_in r.same ∙ back t (size_in ps) r.fitting

priced_as : (k : SubClass) (o : Option Tariff) (ps : List ℕ) → tariff_in ps ≡ o → under (2 ^ 59) ps ≡ true →
    Decides (priced k o) (k ≡ Rates → (t : Tariff) × Reads ps t)
priced_as Clear o ps e u = (λ _ c. absurd (let z : ◌≡◌ {A = ℕ} 0 1 = cc in omega arith), λ _. refl)
priced_as Enciphered o ps e u = (λ _ c. absurd (let z : ◌≡◌ {A = ℕ} 0 1 = cc in omega arith), λ _. refl)
priced_as Rates (Some t) ps e u = (λ _ _. (t, only ps t u e), λ _. refl)
priced_as Rates None ps e u = (
  λ f. absurd (false≢true f),
  λ h. let q = h refl in let n : None ≡ Some q.0 = sym e ∙ reads_back ps q.0 q.1 in absurd (let z : ◌≡◌ {A = ℕ} 0 1 = cc in omega arith),
)

pub tells_priced : (k : SubClass) (bs : List ℕ) → Decides (priced k (tariff_in (map part_of bs))) (k ≡ Rates → (t : Tariff) × Reads (map part_of bs) t)
tells_priced k bs = priced_as k (tariff_in (map part_of bs)) (map part_of bs) refl (parts-under bs)
