-- What the blocks of a slip are judged as is right. Assumes nothing.
use Rattle.std.proofs.Common.{◌≡◌, ℕ, suc, ◌/◌, ◌%◌, ◌^◌, Bool, true, false, ◌&&◌, ◌||◌, eqb, leb, ◌⊎◌, List, [], ◌∷◌, ◌++◌, length, drop, Some, None, Ok, Err, Option, Result, sym, refl, ap, ◌∙◌, subst, inl, inr, ⊎_elim, arith}
use Rattle.std.proofs.lemmas.Bool.{and_parts, and_from, eqb-true, eq-eqb, leb-true, le-leb, cases_Bool, cond-true, cond-false}
use Rattle.refusal.specs.Checks.{provided, found}
use Rattle.refusal.specs.declared.Refusal.{Refusal}
use Rattle.refusal.specs.declared.Refusal.TheVariants.{OtherSubClass, WrongBlocks}
use Rattle.token.specs.declared.subclass.SubClass.{SubClass}
use Rattle.token.specs.declared.subclass.SubClass.TheVariants.{Clear, Enciphered, Rates}
use Rattle.token.specs.SubClasses.{row, code, takes, coded, sub_classes, sub_class_of, among, coded_or_rates, sub_class_named}
use Rattle.token.specs.declared.first.FirstBlock.{FirstBlock}
use Rattle.token.specs.FirstBlocks.{first_block_of}
use Rattle.token.specs.FurtherBlocks.{sequence_of, sequenced, carriable, numbered}
use Rattle.token.specs.Shapes.{sub_class_in, fitting, shape_of, Shaped, Judged}
use Rattle.token.proofs.Found.{found_ok, found_err}
use Rattle.token.proofs.Numbered.{length-numbered, carried}

after_it : (before after : List ℕ) (b : ℕ) (bs : List ℕ) → bs ≡ before ++ b ∷ after → sequenced bs ≡ true → sequence_of b ≡ length after
after_it [] after b bs p e = eqb-true (sequence_of b) (length after) (and_parts (eqb (sequence_of b) (length after)) (sequenced after) (ap sequenced (sym p) ∙ e)).0
after_it (x ∷ before) after b bs p e =
    let rest = before ++ b ∷ after in
    after_it before after b rest refl (and_parts (eqb (sequence_of x) (length rest)) (sequenced rest) (ap sequenced (sym p) ∙ e)).1

all_after : (bs : List ℕ) → ((before after : List ℕ) (b : ℕ) → bs ≡ before ++ b ∷ after → sequence_of b ≡ length after) → sequenced bs ≡ true
all_after [] h = refl
all_after (b ∷ bs) h =
    and_from (eqb (sequence_of b) (length bs)) (sequenced bs) (eq-eqb (sequence_of b) (length bs) (h [] bs b refl)) (all_after bs (λ before after x e. h (b ∷ before) after x (ap (λ (l : List ℕ). b ∷ l) e)))

-- what a look-up in a list of SubClasses that finds one tells
pub record Finds (ks : List SubClass) (n : ℕ) (k : SubClass) : Type 0 where
  pub coding : n ≡ code k
  pub there : among ks n ≡ true
  pub named : coded_or_rates ks n ≡ k

pub finds : (ks : List SubClass) (n : ℕ) (k : SubClass) → coded ks n ≡ Some k → Finds ks n k
finds [] n k e = absurd (let z : ◌≡◌ {A = ℕ} 0 1 = cc in omega arith)
finds (x ∷ ks) n k e =
    ⊎_elim
    (λ (b : eqb n (code x) ≡ true).
    let p : Some x ≡ Some k = sym (cond-true (eqb n (code x)) (Some x) (coded ks n) b) ∙ e in
    let q : x ≡ k = cc in
    record { coding = eqb-true n (code x) b ∙ ap code q; there = ap (λ v. v || among ks n) b; named = cond-true (eqb n (code x)) x (coded_or_rates ks n) b ∙ q })
    (λ (b : eqb n (code x) ≡ false).
    let f = finds ks n k (sym (cond-false (eqb n (code x)) (Some x) (coded ks n) b) ∙ e) in
    record { coding = f.coding; there = ap (λ v. v || among ks n) b ∙ f.there; named = cond-false (eqb n (code x)) x (coded_or_rates ks n) b ∙ f.named })
    (cases_Bool (eqb n (code x)))

pub misses : (ks : List SubClass) (n : ℕ) → coded ks n ≡ None → among ks n ≡ false
misses [] n e = refl
misses (x ∷ ks) n e =
    ⊎_elim
    (λ (b : eqb n (code x) ≡ true).
    let p : Some x ≡ None = sym (cond-true (eqb n (code x)) (Some x) (coded ks n) b) ∙ e in
    absurd (let z : ◌≡◌ {A = ℕ} 0 1 = cc in omega arith))
    (λ (b : eqb n (code x) ≡ false). ap (λ v. v || among ks n) b ∙ misses ks n (sym (cond-false (eqb n (code x)) (Some x) (coded ks n) b) ∙ e))
    (cases_Bool (eqb n (code x)))

-- each SubClass is found by its code
pub of_code : (n : ℕ) (k : SubClass) → n ≡ code k → sub_class_of n ≡ Some k
of_code n Clear e = rw e refl
of_code n Enciphered e = rw e refl
of_code n Rates e = rw e refl

-- the SubClass that is read off the first block
pub read_as : (x : ℕ) (rest : List ℕ) (b : FirstBlock) (r : Result SubClass Refusal) → b ≡ first_block_of x → r ≡ found (sub_class_of b.subclass) OtherSubClass → r ≡ found (sub_class_of (sub_class_in (x ∷ rest))) OtherSubClass
read_as x rest b r f e = e ∙ ap (λ (y : FirstBlock). found (sub_class_of y.subclass) OtherSubClass) f

shape_other : (bs : List ℕ) → sub_class_of (sub_class_in bs) ≡ None → Err OtherSubClass ≡ shape_of bs
unfolding shape_of
shape_other bs e = ap (λ v. provided v OtherSubClass (provided (fitting bs) WrongBlocks (Ok (sub_class_named (sub_class_in bs))))) (sym (misses sub_classes (sub_class_in bs) e))

pub shape_refused : (bs : List ℕ) (x : Refusal) → Err x ≡ found (sub_class_of (sub_class_in bs)) OtherSubClass → Err x ≡ shape_of bs
shape_refused bs x e = let p = found_err (sub_class_of (sub_class_in bs)) OtherSubClass x e in ap Err p.0 ∙ shape_other bs p.1

-- where there is no block, the SubClass reads as 0
pub shape_empty : (bs : List ℕ) → length bs ≡ 0 → Err WrongBlocks ≡ shape_of bs
unfolding shape_of
shape_empty [] e = refl
shape_empty (b ∷ bs) e = absurd (omega arith)

-- what is left to test once the SubClass is known
shape_served : (bs : List ℕ) (k : SubClass) → sub_class_of (sub_class_in bs) ≡ Some k → provided (takes k (length bs) && sequenced (drop 1 bs)) WrongBlocks (Ok k) ≡ shape_of bs
unfolding shape_of
shape_served bs k e =
    let f = finds sub_classes (sub_class_in bs) k e in
    λ i. provided (sym f.there i) OtherSubClass (provided (takes (sym f.named i) (length bs) && sequenced (drop 1 bs)) WrongBlocks (Ok (sym f.named i)))

pub shape_wrong : (bs : List ℕ) (k : SubClass) → sub_class_of (sub_class_in bs) ≡ Some k → (takes k (length bs) && sequenced (drop 1 bs)) ≡ false → Err WrongBlocks ≡ shape_of bs
shape_wrong bs k e f = ap (λ v. provided v WrongBlocks (Ok k)) (sym f) ∙ shape_served bs k e

pub shape_ok : (bs : List ℕ) (k : SubClass) → sub_class_of (sub_class_in bs) ≡ Some k → takes k (length bs) ≡ true → sequenced (drop 1 bs) ≡ true → Ok k ≡ shape_of bs
shape_ok bs k e t s = ap (λ v. provided v WrongBlocks (Ok k)) (sym (and_from (takes k (length bs)) (sequenced (drop 1 bs)) t s)) ∙ shape_served bs k e

judge_other : (bs : List ℕ) (r : Result SubClass Refusal) → sub_class_of (sub_class_in bs) ≡ None → r ≡ Err OtherSubClass → Judged bs r
judge_other bs (Ok k) e p = absurd (let z : ◌≡◌ {A = ℕ} 0 1 = cc in omega arith)
judge_other bs (Err x) e p =
    inl ((cc), λ k c. let q : None ≡ Some k = sym e ∙ of_code (sub_class_in bs) k c in let z : ◌≡◌ {A = ℕ} 0 1 = cc in omega arith)

judge_served : (bs : List ℕ) (k : SubClass) (r : Result SubClass Refusal) (b : Bool) → sub_class_of (sub_class_in bs) ≡ Some k → (takes k (length bs) && sequenced (drop 1 bs)) ≡ b → r ≡ provided b WrongBlocks (Ok k) → Judged bs r
judge_served bs k (Ok j) true e t p =
    let h = and_parts (takes k (length bs)) (sequenced (drop 1 bs)) t in
    let n = and_parts (leb (row k).fewest (length bs)) (leb (length bs) (row k).most) h.0 in
    let s : Shaped bs k = record {
      named = (finds sub_classes (sub_class_in bs) k e).coding;
      fewest = leb-true (row k).fewest (length bs) n.0;
      most = leb-true (length bs) (row k).most n.1;
      sequence = λ before after b q. after_it before after b (drop 1 bs) q h.1;
    } in
    let q : k ≡ j = cc in
    let P : SubClass → Type 0 = λ x. Shaped bs x in
    subst P q s
judge_served bs k (Ok j) false e t p = absurd (let z : ◌≡◌ {A = ℕ} 0 1 = cc in omega arith)
judge_served bs k (Err x) true e t p = absurd (let z : ◌≡◌ {A = ℕ} 0 1 = cc in omega arith)
judge_served bs k (Err x) false e t p =
    let unshaped : (j : SubClass) → Shaped bs j → ⊥ = λ j s.
    let n : takes j (length bs) ≡ true = and_from (leb (row j).fewest (length bs)) (leb (length bs) (row j).most) (le-leb _ _ s.fewest) (le-leb _ _ s.most) in
    let o : Ok j ≡ Err WrongBlocks = shape_ok bs j (of_code (sub_class_in bs) j s.named) n (all_after (drop 1 bs) s.sequence) ∙ sym (shape_wrong bs k e t) in
    let z : ◌≡◌ {A = ℕ} 0 1 = cc in omega arith in
    inr ((cc), record { named = (k, (finds sub_classes (sub_class_in bs) k e).coding); unshaped = unshaped })

found_or_not : (o : Option SubClass) → (o ≡ None) ⊎ ((k : SubClass) × (o ≡ Some k))
found_or_not None = inl refl
found_or_not (Some k) = inr (k, refl)

pub judged : (bs : List ℕ) (r : Result SubClass Refusal) → r ≡ shape_of bs → Judged bs r
judged bs r e =
    ⊎_elim
    (λ n. judge_other bs r n (e ∙ sym (shape_other bs n)))
    (λ s. judge_served bs s.0 r (takes s.0 (length bs) && sequenced (drop 1 bs)) s.1 refl (e ∙ sym (shape_served bs s.0 s.1)))
    (found_or_not (sub_class_of (sub_class_in bs)))

-- the blocks of a slip that is made of its first block and data parts
pub shape_wrong_at : (bs : List ℕ) (k : SubClass) → Ok k ≡ found (sub_class_of (sub_class_in bs)) OtherSubClass → (takes k (length bs) && sequenced (drop 1 bs)) ≡ false → Err WrongBlocks ≡ shape_of bs
shape_wrong_at bs k e = shape_wrong bs k (found_ok (sub_class_of (sub_class_in bs)) OtherSubClass k e)

pub shape_ok_at : (bs : List ℕ) (k : SubClass) → Ok k ≡ found (sub_class_of (sub_class_in bs)) OtherSubClass → takes k (length bs) ≡ true → sequenced (drop 1 bs) ≡ true → Ok k ≡ shape_of bs
shape_ok_at bs k e = shape_ok bs k (found_ok (sub_class_of (sub_class_in bs)) OtherSubClass k e)

pub shape_made : (f : ℕ) (ps : List ℕ) (k : SubClass) → f / 2 ^ 57 % 2 ^ 4 ≡ code k → takes k (suc (length ps)) ≡ true → carriable ps ≡ true → shape_of (f ∷ numbered ps) ≡ Ok k
shape_made f ps k e t c =
    sym (shape_ok (f ∷ numbered ps) k (of_code (f / 2 ^ 57 % 2 ^ 4) k e) (ap (λ (n : ℕ). takes k (suc n)) (length-numbered ps) ∙ t) (carried.back ps c).0)
