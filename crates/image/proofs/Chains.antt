-- Fields known by their tags are those of the form: by_tag, chain_read. A chain of fields, taken step by step: flat,
-- flat_is; decoded_chain, how the code decodes. Assumes nothing.
use Rattle.std.proofs.Common.{◌≡◌, ℕ, Bool, true, false, cond, ◌&&◌, eqb, List, [], ◌∷◌, length, Some, None, Option, sym, refl, ap, ◌∙◌}
use Rattle.std.specs.Int.Digits.{number_from_digits}
use Rattle.std.specs.List.{AllByRecursion}
use Rattle.std.proofs.lemmas.Bool.{eqb-true}
use Rattle.fields.specs.Options.{and_then}
use Rattle.fields.specs.Fields.{Field, Part, cut, fitting, taken, Reading, read}
use Rattle.image.specs.Forms.{record_form, image_form}
use Rattle.image.specs.Fields.{is_listed}
use Rattle.image.specs.Chains.{field_at, value_at, chain_of}
use Rattle.image.specs.Images.{record_in, image_in, decoded}
use Rattle.image.specs.declared.content.Image.{Image}
use Rattle.image.proofs.Listed.{Alone, once}

same_test : (b c l : Bool) (p : Part) → (b ≡ true → l ≡ c) → and_then (cond l (Some p) None) (λ (q : Part). cond b (Some q) None) ≡ cond (b && c) (Some p) None
same_test true true l p h = rw (h refl) refl
same_test true false l p h = rw (h refl) refl
same_test false c true p h = refl
same_test false c false p h = refl

moved : (l : Bool) (p : Part) (t : ℕ) → and_then (cond l (Some p) None) (λ (q : Part). cond (eqb q.tag t) (Some q) None) ≡ and_then (cond l (Some p) None) (λ (q : Part). cond (eqb p.tag t) (Some q) None)
moved true p t = refl
moved false p t = refl

test_part : (f : Field) → Alone image_form f → (p : Part) → and_then (cond (is_listed image_form p.tag (length p.value)) (Some p) None) (λ (q : Part). cond (eqb q.tag f.tag) (Some q) None) ≡ fitting f p
test_part f a p =
    let n = length p.value in
    let same : eqb p.tag f.tag ≡ true → is_listed image_form p.tag n ≡ eqb n f.width =
    λ e. ap (λ (t : ℕ). is_listed image_form t n) (eqb-true p.tag f.tag e) ∙ a n in
    moved (is_listed image_form p.tag n) p f.tag ∙ same_test (eqb p.tag f.tag) (eqb n f.width) (is_listed image_form p.tag n) p same

by_part : (f : Field) → Alone image_form f → (o : Option Part) → and_then (and_then o (λ p. cond (is_listed image_form p.tag (length p.value)) (Some p) None)) (λ (q : Part). cond (eqb q.tag f.tag) (Some q) None) ≡ and_then o (fitting f)
by_part f a None = refl
by_part f a (Some p) = test_part f a p

pub by_tag : (f : Field) → Alone image_form f → (bytes : List ℕ) → field_at f.tag bytes ≡ taken f bytes
by_tag f a bytes = by_part f a (cut bytes)

pub chain_read : (form : List Field) → AllByRecursion (Alone image_form) form → (bytes : List ℕ) → chain_of form bytes ≡ read form bytes
chain_read [] a bytes = refl
chain_read (f ∷ form) a bytes =
    λ i. and_then (by_tag f a.0 bytes i) (λ p. and_then (chain_read form a.1 p.rest i) (λ q. Some (record { values = p.value ∷ q.values; rest = q.rest })))

-- one step after another, however they are joined
joined : {X Y Z : Type 0} (o : Option X) (k : X → Option Y) (l : Y → Option Z) → and_then (and_then o k) l ≡ and_then o (λ x. and_then (k x) l)
joined None k l = refl
joined (Some x) k l = refl

-- the fields of a form, and then a last step
abbrev pub flat : {Y : Type 0} → List Field → List ℕ → (Reading → Option Y) → Option Y
flat [] bytes k = k (record { values = []; rest = bytes })
flat (f ∷ form) bytes k = and_then (field_at f.tag bytes) (λ p. flat form p.rest (λ q. k (record { values = p.value ∷ q.values; rest = q.rest })))

pub flat_is : {Y : Type 0} (form : List Field) (bytes : List ℕ) (k : Reading → Option Y) → and_then (chain_of form bytes) k ≡ flat form bytes k
flat_is [] bytes k = refl
flat_is {Y = Y} (f ∷ form) bytes k =
    let more : Part → Reading → Reading = λ p q. record { values = p.value ∷ q.values; rest = q.rest } in
    let step : (p : Part) → and_then (and_then (chain_of form p.rest) (λ q. Some (more p q))) k ≡ flat form p.rest (λ q. k (more p q)) =
    λ p. joined (chain_of form p.rest) (λ q. Some (more p q)) k ∙ flat_is form p.rest (λ q. k (more p q)) in
    joined (field_at f.tag bytes) (λ p. and_then (chain_of form p.rest) (λ q. Some (more p q))) k ∙ (λ i. and_then (field_at f.tag bytes) (λ p. step p i))

-- the fields of the record, then the writes left, then the record that the fields tell
pub decoded_chain : (bytes : List ℕ) → decoded bytes ≡ and_then (chain_of record_form bytes) (λ q. and_then (value_at 6 q.rest) (λ v. and_then (record_in q.values) (λ r. Some (record { kept = r; writes = number_from_digits 256 v }))))
unfolding decoded
decoded_chain bytes =
    let last : Reading → Option Image = λ q. image_in q.values in
    let own : Reading → Option Image = λ q. and_then (field_at 6 q.rest) (λ p. and_then (record_in q.values) (λ r. Some (record { kept = r; writes = number_from_digits 256 p.value }))) in
    let apart : (q : Reading) → own q ≡ and_then (value_at 6 q.rest) (λ v. and_then (record_in q.values) (λ r. Some (record { kept = r; writes = number_from_digits 256 v }))) =
    λ q. sym (joined (field_at 6 q.rest) (λ p. Some p.value) (λ v. and_then (record_in q.values) (λ r. Some (record { kept = r; writes = number_from_digits 256 v })))) in
    ap (λ (o : Option Reading). and_then o last) (sym (chain_read image_form (once image_form 0 refl) bytes)) ∙ flat_is image_form bytes last ∙ sym (flat_is record_form bytes own)
    ∙ (λ i. and_then (chain_of record_form bytes) (λ q. apart q i))
