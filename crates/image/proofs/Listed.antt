-- A form whose tags rise lists each of them once: rises, Alone, once. Assumes nothing.
use Rattle.std.proofs.Common.{◌≡◌, ℕ, ◌<◌, ◌≤◌, Bool, true, false, ◌&&◌, ◌||◌, eqb, ltb, List, [], ◌∷◌, refl, arith}
use Rattle.std.specs.List.{AllByRecursion}
use Rattle.std.proofs.lemmas.Bool.{and_parts, ltb-true, eq-eqb, ne_eqb}
use Rattle.fields.specs.Fields.{Field}
use Rattle.image.specs.Fields.{is_listed}

-- each tag is above the one before, and the first above t
abbrev pub rises : ℕ → List Field → Bool
rises t [] = true
rises t (f ∷ form) = ltb t f.tag && rises f.tag form

-- the form lists the tag of this field with its width, and with no other
abbrev pub Alone : List Field → Field → Type 0
Alone form f = (w : ℕ) → is_listed form f.tag w ≡ eqb w f.width

not_listed : (form : List Field) (s t w : ℕ) → rises s form ≡ true → t ≤ s → is_listed form t w ≡ false
not_listed [] s t w e l = refl
not_listed (f ∷ form) s t w e l =
    let p = and_parts (ltb s f.tag) (rises f.tag form) e in
    let above : s < f.tag = ltb-true s f.tag p.0 in
    rw (ne_eqb t f.tag (λ q. omega (arith, q, above)), not_listed form f.tag t w p.1 (omega (arith, above))) refl

all_above : (form : List Field) (s t : ℕ) → rises s form ≡ true → t ≤ s → AllByRecursion (λ (g : Field). t < g.tag) form
all_above [] s t e l = tt
all_above (f ∷ form) s t e l =
    let p = and_parts (ltb s f.tag) (rises f.tag form) e in
    let above : s < f.tag = ltb-true s f.tag p.0 in
    (omega (arith, above), all_above form f.tag t p.1 (omega (arith, above)))

or_no : (b : Bool) → (b || false) ≡ b
or_no true = refl
or_no false = refl

-- a field with a lower tag in front changes nothing for those after it
behind : (f : Field) (form rest : List Field) → AllByRecursion (Alone form) rest → AllByRecursion (λ (g : Field). f.tag < g.tag) rest → AllByRecursion (Alone (f ∷ form)) rest
behind f form [] a h = tt
behind f form (g ∷ rest) a h = (λ w. rw (ne_eqb g.tag f.tag (λ q. omega (arith, q, h.0))) (a.0 w), behind f form rest a.1 h.1)

pub once : (form : List Field) (t : ℕ) → rises t form ≡ true → AllByRecursion (Alone form) form
once [] t e = tt
once (f ∷ form) t e =
    let p = and_parts (ltb t f.tag) (rises f.tag form) e in
    let here : Alone (f ∷ form) f = λ w. rw (eq-eqb f.tag f.tag refl, not_listed form f.tag f.tag w p.1 (omega arith)) (or_no (eqb w f.width)) in
    (here, behind f form form (once form f.tag p.1) (all_above form f.tag f.tag p.1 (omega arith)))
