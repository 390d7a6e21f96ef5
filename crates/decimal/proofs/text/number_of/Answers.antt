use Rattle.std.proofs.Common.{◌≡◌, ℕ, ◌+◌, ◌*◌, ◌-◌, ◌<◌, ◌≤◌, ◌^◌, true, List, [], ◌∷◌, ◌++◌, length, map, Bor, Iter, sym, refl, ap, ◌∙◌, rules}
use Rattle.std.proofs.lemmas.List.{map-append}
use Rattle.std.specs.Iterator.{Yields}
use Rattle.std.specs.Int.Digits.{number_from_digits}
use Rattle.std.proofs.lemmas.Fn.{serves_by, fronts}
use Rattle.std.proofs.lemmas.Iterator.{YieldsList-from_slice}
use Rattle.std.proofs.lemmas.Iterator.Consumers.{fold_from_yields_List}
use Rattle.std.proofs.lemmas.Int.Digits.{number_push}
use Rattle.std.specs.List.{list_all}
use Rattle.decimal.specs.Digits.{is_digit, values}
use Rattle.decimal.proofs.Padding.{number_step, folded}
use Rattle.decimal.proofs.text.number_of.Goals as goal

-- what a slice gave stands before what it has left
given : (xs : List (Bor ℕ)) (s t : Iter ℕ) → Yields fronts s xs t → s.rest.now ≡ map (λ (x : Bor ℕ). x.now) xs ++ t.rest.now
given [] s t y = ap (λ (i : Iter ℕ). i.rest.now) y
given (x ∷ xs) s t y = y.1 ∙ ap (λ r. x.now ∷ r) (given xs y.0 t y.2)

digits : List (Bor ℕ) → List ℕ
digits xs = values (map (λ (x : Bor ℕ). x.now) xs)

digits_more : (xs : List (Bor ℕ)) (x : Bor ℕ) → digits (xs ++ x ∷ []) ≡ digits xs ++ (x.now - 48) ∷ []
unfolding digits
digits_more xs x = ap values (map-append (λ (x : Bor ℕ). x.now) xs (x ∷ [])) ∙ map-append (λ byte. byte - 48) (map (λ (x : Bor ℕ). x.now) xs) (x.now ∷ [])

pub fold-requires-clause-callable : goal.fold-requires-clause-callable
unfolding digits
fold-requires-clause-callable c =
    serves_by _ (λ (xs : List (Bor ℕ)) (q : Unit {0} × ℕ). q.1 ≡ number_from_digits 10 (digits xs))
    (λ xs q x v j r.
    let k : v.1 ≡ q.1 * 10 + (x.now - 48) = search rules in
    k ∙ ap (λ n. n * 10 + (x.now - 48)) j ∙ sym (number_push 10 (digits xs) (x.now - 48)) ∙ ap (number_from_digits 10) (sym (digits_more xs x)))
    _ _ _ _ refl
    (λ xs t q x u y e j.
    let pre = map (λ (x : Bor ℕ). x.now) xs in
    let whole : c.args.text.now ≡ pre ++ x.now ∷ u.rest.now = sym c.iter.ensures.rest ∙ given xs c.iter.result t y ∙ ap (λ r. pre ++ r) e in
    let d : list_all is_digit (pre ++ x.now ∷ u.rest.now) ≡ true = ap (list_all is_digit) (sym whole) ∙ c.requires.decimal in
    let s : length (pre ++ x.now ∷ u.rest.now) ≤ 19 = rw (← whole) c.requires.short in
    let n = number_step pre x.now u.rest.now d s in
    let low : 48 ≤ x.now = n.0 in
    let fits : q.1 * 10 + (x.now - 48) < 10 ^ 19 = rw j n.1 in
    search rules)

pub returns : goal.returns
returns c =
    fold_from_yields_List _ (λ a b. a * 10 + (b - 48)) 0 c.fold.result c.fold.ensures.ran (YieldsList-from_slice c.args.text.now cc) (λ a x b q k. search rules)
    ∙ folded 0 c.args.text.now
