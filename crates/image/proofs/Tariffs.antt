-- A tariff in its twenty bytes, there and back: tariff_there, tariff_back. Assumes nothing.
use Rattle.std.proofs.Common.{◌≡◌, ℕ, ◌<◌, Bool, true, false, cond, eqb, List, [], ◌∷◌, length, get_or, drop, replicate, Some, None, Option, sym, refl, ap, ◌∙◌, subst, arith}
use Rattle.std.proofs.lemmas.Bool.{and_parts, eqb-true, ne_eqb}
use Rattle.std.proofs.ByRecursion.{All-drop}
use Rattle.token.specs.Tariffs.{tariff_of}
use Rattle.token.specs.declared.tariff.Tariff.{Tariff}
use Rattle.token.proofs.Tariffs.{limited, again, made}
use Rattle.fields.specs.Options.{and_then}
use Rattle.fields.specs.Fields.{Bytes}
use Rattle.image.specs.Tariffs.{flag_of, pairs, halves, all_zero, tariff_in, tariff_bytes}
use Rattle.image.proofs.Halves.{pairs-halves, halves_pairs}

-- the steps by which bytes tell a tariff, over what each gives
abbrev told : Bool → Bool → Option Bool → (Bool → Option Tariff) → Option (Option Tariff)
told none zero flag make = cond none (cond zero (Some None) None) (and_then flag (λ b. and_then (make b) (λ t. Some (Some t))))

flag_there : (b : Bool) → flag_of (cond b 1 0) ≡ Some b
flag_there true = refl
flag_there false = refl

pub tariff_there : (t : Option Tariff) → tariff_in (tariff_bytes t) ≡ Some t
tariff_there None = refl
tariff_there (Some t) =
    let some : eqb t.count 0 ≡ false = ne_eqb t.count 0 (λ e. omega (arith, (limited t).some)) in
    rw (some, flag_there t.complete, again t t.complete t.count (pairs (halves t.prices)) refl refl (pairs-halves t.prices)) refl

-- a tariff that bytes told, or that they told that there is none
record Told (none zero : Bool) (flag : Option Bool) (make : Bool → Option Tariff) (t : Tariff) : Type 0 where
  b : Bool
  flagged : flag ≡ Some b
  makes : make b ≡ Some t

record Blank (none zero : Bool) : Type 0 where
  counted : none ≡ true
  blank : zero ≡ true

abbrev Tells : Bool → Bool → Option Bool → (Bool → Option Tariff) → Option Tariff → Type 0
Tells none zero flag make None = Blank none zero
Tells none zero flag make (Some t) = Told none zero flag make t

tells_flag : (zero : Bool) (flag : Option Bool) (make : Bool → Option Tariff) (t : Option Tariff) (b : Bool) (o : Option Tariff) → flag ≡ Some b → make b ≡ o → and_then o (λ y. Some (Some y)) ≡ Some t → Tells false zero flag make t
tells_flag zero flag make t b None p q e = let z : ◌≡◌ {A = ℕ} 0 1 = cc in absurd (omega arith)
tells_flag zero flag make t b (Some y) p q e =
    let same : Some y ≡ t = cc in
    subst (λ (x : Option Tariff). Tells false zero flag make x) same (record { b = b; flagged = p; makes = q })

tells : (none zero : Bool) (flag : Option Bool) (make : Bool → Option Tariff) (t : Option Tariff) → told none zero flag make ≡ Some t → Tells none zero flag make t
tells true true flag make t e =
    let same : None ≡ t = cc in
    subst (λ (x : Option Tariff). Tells true true flag make x) same (record { counted = refl; blank = refl })
tells true false flag make t e = let z : ◌≡◌ {A = ℕ} 0 1 = cc in absurd (omega arith)
tells false zero None make t e = let z : ◌≡◌ {A = ℕ} 0 1 = cc in absurd (omega arith)
tells false zero (Some b) make t e = tells_flag zero (Some b) make t b (make b) refl refl e

zeros : (v : List ℕ) → all_zero v ≡ true → replicate (length v) 0 ≡ v
zeros [] e = refl
zeros (b ∷ v) e =
    let both = and_parts (eqb b 0) (all_zero v) e in
    let here : 0 ≡ b = sym (eqb-true b 0 both.0) in
    let more = zeros v both.1 in
    λ i. here i ∷ more i

flag_by : (n : ℕ) (b p q : Bool) → p ≡ eqb n 0 → q ≡ eqb n 1 → cond p (Some false) (cond q (Some true) None) ≡ Some b → cond b 1 0 ≡ n
flag_by n b true q f g e = let same : false ≡ b = cc in subst (λ (x : Bool). cond x 1 0 ≡ n) same (sym (eqb-true n 0 (sym f)))
flag_by n b false true f g e = let same : true ≡ b = cc in subst (λ (x : Bool). cond x 1 0 ≡ n) same (sym (eqb-true n 1 (sym g)))
flag_by n b false false f g e = let z : ◌≡◌ {A = ℕ} 0 1 = cc in absurd (omega arith)

flag_back : (n : ℕ) (b : Bool) → flag_of n ≡ Some b → cond b 1 0 ≡ n
flag_back n b e = flag_by n b (eqb n 0) (eqb n 1) refl refl e

four : (v : List ℕ) → length v ≡ 20 → get_or v 0 0 ∷ get_or v 1 0 ∷ get_or v 2 0 ∷ get_or v 3 0 ∷ drop 4 v ≡ v
four [] l = absurd (omega arith)
four (a ∷ []) l = absurd (omega arith)
four (a ∷ b ∷ []) l = absurd (omega arith)
four (a ∷ b ∷ c ∷ []) l = absurd (omega arith)
four (a ∷ b ∷ c ∷ d ∷ v) l = refl

rest_long : (v : List ℕ) → length v ≡ 20 → length (drop 4 v) ≡ 16
rest_long [] l = absurd (omega arith)
rest_long (a ∷ []) l = absurd (omega arith)
rest_long (a ∷ b ∷ []) l = absurd (omega arith)
rest_long (a ∷ b ∷ c ∷ []) l = absurd (omega arith)
rest_long (a ∷ b ∷ c ∷ d ∷ v) l = omega arith

spells : (v : List ℕ) (t : Option Tariff) → Bytes v → length v ≡ 20 → Tells (eqb (get_or v 3 0) 0) (all_zero v) (flag_of (get_or v 0 0)) (λ b. tariff_of b (get_or v 1 0) (get_or v 2 0) (get_or v 3 0) (pairs (drop 4 v))) t → tariff_bytes t ≡ v
spells v None u l h = ap (λ (n : ℕ). replicate n 0) (sym l) ∙ zeros v h.blank
spells v (Some t) u l h =
    let m = made t h.b (get_or v 1 0) (get_or v 2 0) (get_or v 3 0) (pairs (drop 4 v)) h.makes in
    let flag : cond t.complete 1 0 ≡ get_or v 0 0 = ap (λ (x : Bool). cond x 1 0) m.complete ∙ flag_back (get_or v 0 0) h.b h.flagged in
    let prices : halves t.prices ≡ drop 4 v = ap halves m.prices ∙ halves_pairs 8 (drop 4 v) (All-drop (λ (b : ℕ). b < 256) 4 v u) (rest_long v l) in
    (λ i. flag i ∷ m.month i ∷ m.multiplier i ∷ m.count i ∷ prices i) ∙ four v l

pub tariff_back : (v : List ℕ) (t : Option Tariff) → Bytes v → length v ≡ 20 → tariff_in v ≡ Some t → tariff_bytes t ≡ v
tariff_back v t u l e =
    spells v t u l (tells (eqb (get_or v 3 0) 0) (all_zero v) (flag_of (get_or v 0 0)) (λ b. tariff_of b (get_or v 1 0) (get_or v 2 0) (get_or v 3 0) (pairs (drop 4 v))) t e)
