-- How often a number is in hand, as the hand changes: not_held, missing, named, gains_removed, back_again; in_hand,
-- not_in_hand.
use Rattle.std.proofs.Common.{◌≡◌, ℕ, suc, ◌+◌, ◌<◌, ◌≤◌, true, false, eqb, ltb, cond, List, [], ◌∷◌, ◌++◌, length, get_or, take, drop, Some, None, sum_by, sym, refl, ap, ◌∙◌, add-one, arith}
use Rattle.std.specs.List.{remove, position, position_or_len}
use Rattle.std.proofs.lemmas.Bool.{eqb-true, lt-ltb}
use Rattle.std.proofs.lemmas.List.Quantifiers.{position-Some}
use Rattle.std.proofs.lemmas.Bool.Decides.{nat_tests}
use Rattle.std.proofs.lemmas.List.Sums.{sum_by-append, sum_by_push, sum_by-take-drop, sum_by-drop_more}
use Rattle.std.proofs.lemmas.List.Edits.{length-remove}
use Rattle.std.proofs.lemmas.List.{length_push}
use Rattle.till.specs.declared.drawn.DrawnNumber.{DrawnNumber}
use Rattle.journal.specs.Hands.{one, held, is_in_hand, Gains, SameHand}

at_end : (long place : ℕ) → cond (ltb place long) (Some place) None ≡ None → long ≤ place
at_end long place e = grind (arith, nat_tests, e)

-- a number at which no place is found is not there
pub not_held : (ds : List DrawnNumber) (n : ℕ) → length ds ≤ position_or_len (λ d. eqb d.number n) ds → held n ds ≡ 0
not_held [] n h = refl
not_held (d ∷ ds) n h = grind (arith, nat_tests, not_held ds n)

-- a place that is none, and a place of a number
pub missing : (ds : List DrawnNumber) (n : ℕ) → None ≡ position (λ d. eqb d.number n) ds → held n ds ≡ 0
missing ds n e = not_held ds n (at_end (length ds) (position_or_len (λ d. eqb d.number n) ds) (sym e))

pub named : (ds : List DrawnNumber) (n i : ℕ) (d : DrawnNumber) → Some i ≡ position (λ d. eqb d.number n) ds → (i < length ds) × ((get_or ds i d).number ≡ n)
named ds n i d e =
    let at = position-Some (λ d. eqb d.number n) ds i d (sym e) in
    (at.0, eqb-true _ _ at.1)

-- any sum over a list, with one element taken out
sum_by_removed : {X : Type 0} (f : X → ℕ) (xs : List X) (i : ℕ) (d : X) → i < length xs → sum_by f xs ≡ sum_by f (remove xs i) + f (get_or xs i d)
sum_by_removed f xs i d lt =
    let whole = sum_by-take-drop f xs i in
    let rest = sum_by-drop_more f xs i d lt in
    let parts = sum_by-append f (take i xs) (drop (suc i) xs) in
    let same : sum_by f (drop (i + 1) xs) ≡ sum_by f (drop (suc i) xs) = ap (λ j. sum_by f (drop j xs)) (add-one i) in
    omega (arith, whole, rest, parts, same)

pub gains_removed : (ds : List DrawnNumber) (i n : ℕ) (d : DrawnNumber) → i < length ds → d ≡ get_or ds i d → d.number ≡ n → Gains n (remove ds i) ds
gains_removed ds i n d lt read is = record {
  long = sym (length-remove ds i lt);
  each = λ k. sum_by_removed (λ x. one x.number k) ds i d lt ∙ ap (λ m. held k (remove ds i) + one m k) (ap (λ x. x.number) (sym read) ∙ is);
}

-- a number that is taken out and put back
pub back_again : (n m : ℕ) (ds es fs : List DrawnNumber) → Gains n es ds → Gains m es fs → m ≡ n → SameHand ds fs
back_again n m ds es fs out back is = record {
  long = back.long ∙ sym out.long;
  each = λ k. back.each k ∙ ap (λ j. held k es + one j k) is ∙ sym (out.each k);
}

one_itself : (n : ℕ) → one n n ≡ 1
one_itself n = grind (arith, nat_tests)

-- a number that can be taken out is in hand, and one that is there no time is not
pub in_hand : (n : ℕ) (es ds : List DrawnNumber) → Gains n es ds → is_in_hand n ds ≡ true
in_hand n es ds gains = lt-ltb 0 (held n ds) (omega (arith, gains.each n, one_itself n))

pub not_in_hand : (n : ℕ) (ds : List DrawnNumber) → held n ds ≡ 0 → is_in_hand n ds ≡ false
not_in_hand n ds none = ap (ltb 0) none
