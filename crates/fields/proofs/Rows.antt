-- Reading and writing undo one another, whatever the form: there, back, read_long, row_long, row-append. Assumes nothing.
use Rattle.std.proofs.Common.{◌≡◌, ℕ, ◌≤◌, List, [], ◌∷◌, ◌++◌, length, Some, sym, refl, ap, ◌∙◌, subst, append_assoc, arith, length-append}
use Rattle.fields.specs.Options.{and_then}
use Rattle.fields.specs.Fields.{Field, field, written, taken, row_of, Reading, read, size, Fit, Bytes}
use Rattle.fields.specs.Law.{ReadBack}
use Rattle.fields.proofs.Steps.{came}
use Rattle.fields.proofs.Cutting.{taken-written, cut_back, taken_back, cut_long}

pub there : (form : List Field) (vs : List (List ℕ)) (rest : List ℕ) → Fit form vs → read form (row_of form vs ++ rest) ≡ Some (record { values = vs; rest = rest })
there [] [] rest e = refl
there [] (v ∷ vs) rest e = absurd (omega (arith, ap length e))
there (f ∷ form) [] rest e = absurd (omega (arith, ap length e))
there (f ∷ form) (v ∷ vs) rest e =
    let here : length v ≡ f.width = cc in
    let more : Fit form vs = cc in
    let next = there form vs rest more in
    let split : (written f v ++ row_of form vs) ++ rest ≡ written f v ++ (row_of form vs ++ rest) = append_assoc (written f v) (row_of form vs) rest in
    ap (read (f ∷ form)) split ∙ rw (taken-written f v (row_of form vs ++ rest) here, next) refl

-- one field more in front of what was read back
joined : (f : Field) (form : List Field) (row v rest : List ℕ) (q : Reading) → row ≡ written (field f.tag (length v)) v ++ rest → length v ≡ f.width → Bytes v → ReadBack form rest q
    → ReadBack (f ∷ form) row (record { values = v ∷ q.values; rest = q.rest })
joined f form row v rest q e l u b =
    let head : written (field f.tag (length v)) v ++ rest ≡ written f v ++ rest = ap (λ (w : ℕ). written (field f.tag w) v ++ rest) l in
    record {
      fit = λ i. l i ∷ b.fit i;
      bytes = (u, b.bytes);
      is = e ∙ head ∙ ap (λ (x : List ℕ). written f v ++ x) b.is ∙ sym (append_assoc (written f v) (row_of form q.values) q.rest);
    }

pub back : (form : List Field) (row : List ℕ) (r : Reading) → Bytes row → read form row ≡ Some r → ReadBack form row r
back [] row r u e =
    let same : ◌≡◌ {A = Reading} (record { values = []; rest = row }) r = cc in
    subst (λ (x : Reading). ReadBack [] row x) same (record { fit = refl; bytes = tt; is = refl })
back (f ∷ form) row r u e =
    let c = came (taken f row) (λ p. and_then (read form p.rest) (λ q. Some (record { values = p.value ∷ q.values; rest = q.rest }))) r e in
    let p = c.0 in
    let d = came (read form p.rest) (λ q. Some (record { values = p.value ∷ q.values; rest = q.rest })) r c.2 in
    let q = d.0 in
    let t = taken_back f row p c.1 in
    let s = cut_back row p u t.0 in
    let tagged : row ≡ written (field f.tag (length p.value)) p.value ++ p.rest = s.is ∙ ap (λ (x : ℕ). written (field x (length p.value)) p.value ++ p.rest) t.1 in
    let same : ◌≡◌ {A = Reading} (record { values = p.value ∷ q.values; rest = q.rest }) r = cc in
    subst (λ (x : Reading). ReadBack (f ∷ form) row x) same (joined f form row p.value p.rest q tagged t.2 s.value (back form p.rest q s.rest d.1))

-- a form that is read is there in full
pub read_long : (form : List Field) (row : List ℕ) (r : Reading) → read form row ≡ Some r → size form ≤ length row
read_long [] row r e = omega arith
read_long (f ∷ form) row r e =
    let c = came (taken f row) (λ p. and_then (read form p.rest) (λ q. Some (record { values = p.value ∷ q.values; rest = q.rest }))) r e in
    let p = c.0 in
    let d = came (read form p.rest) (λ q. Some (record { values = p.value ∷ q.values; rest = q.rest })) r c.2 in
    let t = taken_back f row p c.1 in
    let more = read_long form p.rest d.0 d.1 in
    let l = cut_long row p t.0 in
    omega arith

pub row_long : (form : List Field) (vs : List (List ℕ)) → Fit form vs → length (row_of form vs) ≡ size form
row_long [] [] e = refl
row_long [] (v ∷ vs) e = absurd (omega (arith, ap length e))
row_long (f ∷ form) [] e = absurd (omega (arith, ap length e))
row_long (f ∷ form) (v ∷ vs) e =
    let here : length v ≡ f.width = cc in
    let more : Fit form vs = cc in
    omega (arith, length-append (written f v) (row_of form vs), row_long form vs more)

-- the fields of one form, and then those of another
pub row-append : (form more : List Field) (vs ws : List (List ℕ)) → Fit form vs → row_of (form ++ more) (vs ++ ws) ≡ row_of form vs ++ row_of more ws
row-append [] more [] ws e = refl
row-append [] more (v ∷ vs) ws e = absurd (omega (arith, ap length e))
row-append (f ∷ form) more [] ws e = absurd (omega (arith, ap length e))
row-append (f ∷ form) more (v ∷ vs) ws e =
    let rest : Fit form vs = cc in
    ap (λ (x : List ℕ). written f v ++ x) (row-append form more vs ws rest) ∙ sym (append_assoc (written f v) (row_of form vs) (row_of more ws))
