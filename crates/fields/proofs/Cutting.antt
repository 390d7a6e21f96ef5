-- One field cut off the front: cut-written, taken-written, of a field that was written; Stood, cut_back, taken_back, of one that was cut. Assumes nothing.
use Rattle.std.proofs.Common.{◌≡◌, ℕ, ◌+◌, ◌*◌, ◌/◌, ◌%◌, ◌<◌, ◌≤◌, true, ◌&&◌, eqb, leb, List, [], ◌∷◌, ◌++◌, length, take, drop, Some, sym, refl, ap, ◌∙◌, subst, arith, length-append, take-append-drop, length-take, take_at, drop_at}
use Rattle.std.proofs.lemmas.Bool.{le-leb, leb-true, eq-eqb, eqb-true, and_parts}
use Rattle.std.proofs.ByRecursion.{All-take, All-drop}
use Rattle.fields.specs.Fields.{Field, field, written, Part, cut_at, cut, fitting, taken, Bytes}
use Rattle.fields.proofs.Steps.{came, chosen}

-- a field is cut off what it stands before
cut_at_lem : (tag n : ℕ) (v rest : List ℕ) → length v ≡ n → cut_at tag n (v ++ rest) ≡ Some (record { tag = tag; value = v; rest = rest })
cut_at_lem tag n v rest e =
    let fits : leb n (length (v ++ rest)) ≡ true = le-leb n (length (v ++ rest)) (omega (arith, length-append v rest)) in
    rw (fits, take_at v rest n e, drop_at v rest n e) refl

pub cut-written : (f : Field) (v rest : List ℕ) → length v ≡ f.width → cut (written f v ++ rest) ≡ Some (record { tag = f.tag; value = v; rest = rest })
cut-written f v rest e = cut_at_lem f.tag (f.width / 256 * 256 + f.width % 256) v rest (omega arith)

pub taken-written : (f : Field) (v rest : List ℕ) → length v ≡ f.width → taken f (written f v ++ rest) ≡ Some (record { tag = f.tag; value = v; rest = rest })
taken-written f v rest e =
    let yes : (n : ℕ) → eqb n n ≡ true = λ n. eq-eqb n n refl in
    rw (cut-written f v rest e) (simp (e, yes))

-- what a cut gave stood there so
parted : (tag n : ℕ) (xs : List ℕ) (p : Part) → cut_at tag n xs ≡ Some p → (n ≤ length xs) × (p ≡ record { tag = tag; value = take n xs; rest = drop n xs })
parted tag n xs p e =
    let q = chosen (leb n (length xs)) (record { tag = tag; value = take n xs; rest = drop n xs }) p e in
    (leb-true n (length xs) q.0, sym q.1)

pub record Stood (bytes : List ℕ) (p : Part) : Type 0 where
  pub is : bytes ≡ written (field p.tag (length p.value)) p.value ++ p.rest
  pub value : Bytes p.value
  pub rest : Bytes p.rest

rejoined : (tag high low : ℕ) (xs : List ℕ) → high * 256 + low ≤ length xs → low < 256 → Bytes xs → Stood (tag ∷ high ∷ low ∷ xs) (record { tag = tag; value = take (high * 256 + low) xs; rest = drop (high * 256 + low) xs })
rejoined tag high low xs h small u =
    let n = high * 256 + low in
    let long : length (take n xs) ≡ n = length-take n xs ∙ omega arith in
    let upper : length (take n xs) / 256 ≡ high = omega arith in
    let lower : length (take n xs) % 256 ≡ low = omega arith in
    record {
      is = rw (upper, lower, take-append-drop n xs) refl;
      value = All-take (λ (b : ℕ). b < 256) n xs u;
      rest = All-drop (λ (b : ℕ). b < 256) n xs u;
    }

pub cut_back : (bytes : List ℕ) (p : Part) → Bytes bytes → cut bytes ≡ Some p → Stood bytes p
cut_back [] p u e = let z : ◌≡◌ {A = ℕ} 0 1 = cc in absurd (omega arith)
cut_back (a ∷ []) p u e = let z : ◌≡◌ {A = ℕ} 0 1 = cc in absurd (omega arith)
cut_back (a ∷ b ∷ []) p u e = let z : ◌≡◌ {A = ℕ} 0 1 = cc in absurd (omega arith)
cut_back (a ∷ b ∷ c ∷ xs) p u e =
    let q = parted a (b * 256 + c) xs p e in
    subst (λ (x : Part). Stood (a ∷ b ∷ c ∷ xs) x) (sym q.1) (rejoined a b c xs q.0 u.1.1.0 u.1.1.1)

-- a field that is taken has the tag and the width
pub taken_back : (f : Field) (bytes : List ℕ) (p : Part) → taken f bytes ≡ Some p → (cut bytes ≡ Some p) × (p.tag ≡ f.tag) × (length p.value ≡ f.width)
taken_back f bytes p e =
    let c = came (cut bytes) (fitting f) p e in
    let q = chosen (eqb c.0.tag f.tag && eqb (length c.0.value) f.width) c.0 p c.2 in
    let t = and_parts (eqb c.0.tag f.tag) (eqb (length c.0.value) f.width) q.0 in
    (c.1 ∙ ap Some q.1, ap (λ (x : Part). x.tag) (sym q.1) ∙ eqb-true _ _ t.0, ap (λ (x : Part). length x.value) (sym q.1) ∙ eqb-true _ _ t.1)

-- the bytes of a field that is cut are there
pub cut_long : (bytes : List ℕ) (p : Part) → cut bytes ≡ Some p → length bytes ≡ 3 + length p.value + length p.rest
cut_long [] p e = let z : ◌≡◌ {A = ℕ} 0 1 = cc in absurd (omega arith)
cut_long (a ∷ []) p e = let z : ◌≡◌ {A = ℕ} 0 1 = cc in absurd (omega arith)
cut_long (a ∷ b ∷ []) p e = let z : ◌≡◌ {A = ℕ} 0 1 = cc in absurd (omega arith)
cut_long (a ∷ b ∷ c ∷ xs) p e =
    let n = b * 256 + c in
    let q = parted a n xs p e in
    let v : length p.value ≡ length (take n xs) = ap (λ (x : Part). length x.value) q.1 in
    let r : length p.rest ≡ length (drop n xs) = ap (λ (x : Part). length x.rest) q.1 in
    let whole : length (take n xs) + length (drop n xs) ≡ length xs = sym (length-append (take n xs) (drop n xs)) ∙ ap length (take-append-drop n xs) in
    omega arith
