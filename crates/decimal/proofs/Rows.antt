-- A row of text, run one digit after the other (running_more, running_all), its end (row_ends), and its check digit with
-- a digit in front (front-under, row_checks).
use Rattle.std.proofs.Common.{◌≡◌, ℕ, suc, ◌+◌, ◌-◌, ◌<◌, ◌≤◌, true, false, cond, List, ◌++◌, length, get_or, drop, IfSome, Some, None, Option, sym, refl, ap, ◌∙◌, arith, lit<}
use Rattle.std.proofs.lemmas.List.{at_drop_more, at_drop_all}
use Rattle.std.specs.Int.Digits.{AllBelowBase}
use Rattle.std.specs.List.{list_all}
use Rattle.decimal.specs.Digits.{is_digit, values}
use Rattle.decimal.specs.CheckDigits.{product, passes, running, whole, inverse, check_digit, front, check_digit_after, Checks, DigitBefore}
use Rattle.decimal.proofs.Spelling.{every_all, under-values}
use Rattle.decimal.proofs.Tables.{checks}
use Rattle.decimal.proofs.Cancels.{running_lt}

pub running_more : (t : List ℕ) (place i p : ℕ) → i < length t →
    running (place + (i + 1)) (product p (passes (place + i) (get_or t i 0 - 48))) (values (drop (i + 1) t)) ≡ running (place + i) p (values (drop i t))
unfolding running
running_more t place i p h =
    let q = product p (passes (place + i) (get_or t i 0 - 48)) in
    let e : running (place + i) p (values (drop i t)) ≡ running (suc (place + i)) q (values (drop (i + 1) t)) = at_drop_more (λ t. running (place + i) p (values t)) t i 0 h in
    let s : place + (i + 1) ≡ suc (place + i) = omega arith in
    ap (λ n. running n q (values (drop (i + 1) t))) s ∙ sym e

pub running_all : (t : List ℕ) (i place p : ℕ) → length t ≤ i → running place p (values (drop i t)) ≡ p
unfolding running
running_all t i place p h = at_drop_all (λ t. running place p (values t)) t i h

-- the row ends at a byte that is no digit, goes on past one that is, and closes
pub row_ends : (t : List ℕ) (i m n : ℕ) → length t ≤ i → m ≡ n → list_all is_digit (drop i t) ≡ list_all is_digit t →
    Some m ≡ cond (list_all is_digit t) (Some n) None
row_ends t i m n h e k = let f : list_all is_digit t ≡ true = sym k ∙ every_all is_digit t i h in rw (f, e)

-- what is answered is the check digit of the row
pub front-under : (b : Option ℕ) (ds : List ℕ) → DigitBefore b → AllBelowBase 10 ds → AllBelowBase 10 (front b ++ ds)
front-under None ds h u = u
front-under (Some d) ds h u = (h, u)

pub row_checks : (b : Option ℕ) (t : List ℕ) (r : Option ℕ) → DigitBefore b → r ≡ check_digit_after b t → IfSome r (Checks (front b ++ values t))
unfolding check_digit_after check_digit whole
row_checks b t r h e =
    let ds = front b ++ values t in
    rw e (elim (list_all is_digit t) as (λ d. list_all is_digit t ≡ d → IfSome (cond d (Some (inverse (running 0 0 ds))) None) (Checks ds)) [
      | true ↦ λ f. checks ds (running_lt 0 0 ds (lit< tt) (front-under b (values t) h (under-values t f)))
      | false ↦ λ f. tt
    ] refl)
