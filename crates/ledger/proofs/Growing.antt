-- The law, one line on: Step, what one line changes; grow; law_none.
use Rattle.std.proofs.Common.{◌≡◌, ℕ, ◌+◌, ◌≤◌, max, ltb, List, [], ◌∷◌, ◌++◌, None, sym, refl, ap, ◌∙◌, subst, arith}
use Rattle.window.specs.Recovery.{lowest}
use Rattle.window.specs.Marks.{marked}
use Rattle.window.proofs.Counting.{marked-blank}
use Rattle.record.specs.declared.Record.{Record}
use Rattle.record.specs.Changes.{NewRecord, tariff_with}
use Rattle.sealing.specs.Suites.{Suite}
use Rattle.meter.specs.Journals.{one_if, or_zero}
use Rattle.ledger.specs.Journal.{effect, times, highest_in}
use Rattle.ledger.specs.Law.{Right, Law}
use Rattle.ledger.specs.Noted.{Line}
use Rattle.meter.proofs.Splits.{at_each_none, at_each_push}
use Rattle.meter.proofs.Pushing.{total_push, highest_push, tariff_push, writes_push}

-- what one line changes, from one record to the next
pub record Step (s : Suite) (start writes : ℕ) (h : List Line) (old : Record) (x : Line) (new : Record) (left : ℕ) : Type 0 where
  pub credit : new.credit + (effect s x).subtracted ≡ old.credit + (effect s x).added
  pub marks : (n : ℕ) → lowest new.window.highest ≤ n → marked new.window n ≡ ltb 0 (times s n h + one_if (effect s x).counted n)
  pub once : (n : ℕ) → times s n h + one_if (effect s x).counted n ≤ 1
  pub highest : new.window.highest ≡ max (highest_in s h) (or_zero (effect s x).counted)
  pub index : new.index ≡ old.index + (effect s x).rates
  pub tariff : new.tariff ≡ tariff_with (effect s x).tariff old.tariff
  pub store : left ≡ x.writes
  pub right : Right s start writes h x

pub grow : (s : Suite) (start writes : ℕ) (h : List Line) (old : Record) (had : ℕ) (x : Line) (new : Record) (left : ℕ) →
    Law s start writes h old had → Step s start writes h old x new left → Law s start writes (h ++ x ∷ []) new left
grow s start writes h old had x new left l p =
    let plus = total_push (λ e. (effect s e).added) h x in
    let less = total_push (λ e. (effect s e).subtracted) h x in
    let counts : (n : ℕ) → times s n (h ++ x ∷ []) ≡ times s n h + one_if (effect s x).counted n = λ n. total_push (λ e. one_if (effect s e).counted n) h x in
    record {
      credit = omega (arith, l.credit, p.credit, plus, less);
      marks = λ n k. p.marks n k ∙ ap (ltb 0) (sym (counts n));
      once = λ n. omega (arith, p.once n, counts n);
      highest = p.highest ∙ sym (highest_push (effect s) h x);
      index = omega (arith, l.index, p.index, total_push (λ e. (effect s e).rates) h x);
      tariff = p.tariff ∙ ap (tariff_with (effect s x).tariff) l.tariff ∙ sym (tariff_push (effect s) None h x);
      store = p.store ∙ sym (writes_push writes h x);
      right = at_each_push (Right s start writes) h x l.right p.right;
    }

-- the law holds before the first call
pub law_none : (s : Suite) (r : Record) (left : ℕ) → NewRecord r → Law s r.credit left [] r left
law_none s r left new =
    subst (λ x. Law s r.credit left [] x left) (sym new) (record {
      credit = refl;
      marks = λ n k. marked-blank n;
      once = λ n. omega arith;
      highest = refl;
      index = refl;
      tariff = refl;
      store = refl;
      right = at_each_none (Right s r.credit left);
    })
