-- Accounts, one line on. The meter's: Step, what one line changes; grow, rests, account_none. The till's: Dealt, till_grow, still,
-- till_none.
use Rattle.std.proofs.Common.{◌≡◌, ℕ, ◌+◌, ◌≤◌, max, ltb, List, [], ◌∷◌, ◌++◌, length, None, sym, refl, ap, ◌∙◌, subst, arith}
use Rattle.std.proofs.lemmas.Bool.Decides.{nat_tests}
use Rattle.window.specs.Recovery.{lowest}
use Rattle.window.specs.Marks.{marked}
use Rattle.window.proofs.Counting.{marked-blank}
use Rattle.record.specs.declared.Record.{Record}
use Rattle.record.specs.Changes.{NewRecord, tariff_with}
use Rattle.sealing.specs.Suites.{Suite}
use Rattle.till.specs.declared.counts.Counts.{Counts}
use Rattle.till.specs.declared.drawn.DrawnNumber.{DrawnNumber}
use Rattle.till.specs.Counting.{no_counts}
use Rattle.journal.specs.Noted.{Line}
use Rattle.journal.specs.Hands.{held, SameHand}
use Rattle.meter.specs.Journals.{Effect, nothing, one_if, or_zero}
use Rattle.journal.specs.Lines.{effect, Deal, idle, deal, times, drawn_times, draws, how_many, highest_in}
use Rattle.journal.specs.Law.{one_up_to}
use Rattle.journal.proofs.Accounts.{Account, TillAccount}
use Rattle.meter.proofs.Pushing.{total_push, highest_push, tariff_push, writes_push}

-- what one line changes at the meter, from one record to the next
pub record Step (s : Suite) (h : List Line) (old : Record) (x : Line) (new : Record) (left : ℕ) : Type 0 where
  pub credit : new.credit + (effect s x).subtracted ≡ old.credit + (effect s x).added
  pub marks : (n : ℕ) → lowest new.window.highest ≤ n → marked new.window n ≡ ltb 0 (times s n h + one_if (effect s x).counted n)
  pub once : (n : ℕ) → times s n h + one_if (effect s x).counted n ≤ 1
  pub highest : new.window.highest ≡ max (highest_in s h) (or_zero (effect s x).counted)
  pub index : new.index ≡ old.index + (effect s x).rates
  pub tariff : new.tariff ≡ tariff_with (effect s x).tariff old.tariff
  pub store : left ≡ x.writes

pub grow : (s : Suite) (opening writes : ℕ) (h : List Line) (old : Record) (had : ℕ) (x : Line) (new : Record) (left : ℕ) →
    Account s opening writes h old had → Step s h old x new left → Account s opening writes (h ++ x ∷ []) new left
grow s opening writes h old had x new left a p =
    let plus = total_push (λ e. (effect s e).added) h x in
    let less = total_push (λ e. (effect s e).subtracted) h x in
    let counts : (n : ℕ) → times s n (h ++ x ∷ []) ≡ times s n h + one_if (effect s x).counted n = λ n. total_push (λ e. one_if (effect s e).counted n) h x in
    record {
      credit = omega (arith, a.credit, p.credit, plus, less);
      marks = λ n k. p.marks n k ∙ ap (ltb 0) (sym (counts n));
      once = λ n. omega (arith, p.once n, counts n);
      highest = p.highest ∙ sym (highest_push (effect s) h x);
      index = omega (arith, a.index, p.index, total_push (λ e. (effect s e).rates) h x);
      tariff = p.tariff ∙ ap (tariff_with (effect s x).tariff) a.tariff ∙ sym (tariff_push (effect s) None h x);
      store = p.store ∙ sym (writes_push writes h x);
    }

-- a line that does nothing at the meter
pub rests : (s : Suite) (opening writes : ℕ) (h : List Line) (old : Record) (had : ℕ) (x : Line) (new : Record) (left : ℕ) →
    Account s opening writes h old had → effect s x ≡ nothing → new ≡ old → left ≡ x.writes → Step s h old x new left
rests s opening writes h old had x new left a none same noted =
    subst (λ r. Step s h old x r left) (sym same) (record {
      credit = let more = ap (λ (e : Effect). e.added) none in let less = ap (λ (e : Effect). e.subtracted) none in omega (arith, more, less);
      marks = λ n k. a.marks n k ∙ ap (ltb 0) (let z : times s n h ≡ times s n h + one_if (effect s x).counted n = omega (arith, uncounted n) in z);
      once = λ n. omega (arith, a.once n, uncounted n);
      highest = let z = ap (λ (e : Effect). or_zero e.counted) none in omega (arith, a.highest, z);
      index = let z = ap (λ (e : Effect). e.rates) none in omega (arith, z);
      tariff = ap (λ (e : Effect). tariff_with e.tariff old.tariff) (sym none);
      store = noted;
    })
  where
    uncounted : (n : ℕ) → one_if (effect s x).counted n ≡ 0
    uncounted n = ap (λ (e : Effect). one_if e.counted n) none

-- a new meter's account, before the first line
pub account_none : (s : Suite) (r : Record) (left : ℕ) → NewRecord r → Account s r.credit left [] r left
account_none s r left new =
    subst (λ x. Account s r.credit left [] x left) (sym new) (record {
      credit = refl;
      marks = λ n k. marked-blank n;
      once = λ n. omega arith;
      highest = refl;
      index = refl;
      tariff = refl;
      store = refl;
    })

-- what one line changes at the till
pub record Dealt (h : List Line) (counts : Counts) (index : ℕ) (hand : List DrawnNumber) (x : Line) (counts' : Counts) (index' : ℕ) (hand' : List DrawnNumber) : Type 0 where
  pub drawn_count : counts'.draws ≡ counts.draws + how_many (deal x).drawn
  pub issued_count : counts'.issues ≡ counts.issues + how_many (deal x).issued
  pub voided_count : counts'.voids ≡ counts.voids + how_many (deal x).voided
  pub till_index : index' ≡ index + (deal x).rates
  pub drawn : (n : ℕ) → drawn_times n h + one_if (deal x).drawn n ≡ one_up_to (draws h + how_many (deal x).drawn) n
  pub each : (n : ℕ) → one_if (deal x).issued n + one_if (deal x).voided n + held n hand' ≡ held n hand + one_if (deal x).drawn n
  pub long : how_many (deal x).issued + how_many (deal x).voided + length hand' ≡ length hand + how_many (deal x).drawn
  pub fits : draws h + how_many (deal x).drawn ≤ 4294967295
  pub index_fits : index' ≤ 65535

pub till_grow : (h : List Line) (counts : Counts) (index : ℕ) (hand : List DrawnNumber) (x : Line) (counts' : Counts) (index' : ℕ) (hand' : List DrawnNumber) →
    TillAccount h counts index hand → Dealt h counts index hand x counts' index' hand' → TillAccount (h ++ x ∷ []) counts' index' hand'
till_grow h counts index hand x counts' index' hand' a p =
    let more_draws = total_push (λ l. how_many (deal l).drawn) h x in
    let more_issues = total_push (λ l. how_many (deal l).issued) h x in
    let more_voids = total_push (λ l. how_many (deal l).voided) h x in
    record {
      drawn = λ n. total_push (λ l. one_if (deal l).drawn n) h x ∙ p.drawn n ∙ ap (λ d. one_up_to d n) (sym more_draws);
      each = λ n.
          let was = a.each n in
          let one_more = p.each n in
          let d = total_push (λ l. one_if (deal l).drawn n) h x in
          let i = total_push (λ l. one_if (deal l).issued n) h x in
          let v = total_push (λ l. one_if (deal l).voided n) h x in
          omega (arith, was, one_more, d, i, v);
      drawn_count = omega (arith, a.drawn_count, p.drawn_count, more_draws);
      issued_count = omega (arith, a.issued_count, p.issued_count, more_issues);
      voided_count = omega (arith, a.voided_count, p.voided_count, more_voids);
      balance = omega (arith, a.balance, p.long, more_draws, more_issues, more_voids);
      till_index = omega (arith, a.till_index, p.till_index, total_push (λ l. (deal l).rates) h x);
      fits = omega (arith, p.fits, more_draws);
      index_fits = p.index_fits;
    }

-- a line that does nothing at the till
pub still : (h : List Line) (counts : Counts) (index : ℕ) (hand : List DrawnNumber) (x : Line) (counts' : Counts) (index' : ℕ) (hand' : List DrawnNumber) →
    TillAccount h counts index hand → deal x ≡ idle → counts' ≡ counts → index' ≡ index → SameHand hand hand' → Dealt h counts index hand x counts' index' hand'
still h counts index hand x counts' index' hand' a none same-counts same_index same_hand =
    let d : how_many (deal x).drawn ≡ 0 = ap (λ (e : Deal). how_many e.drawn) none in
    let i : how_many (deal x).issued ≡ 0 = ap (λ (e : Deal). how_many e.issued) none in
    let v : how_many (deal x).voided ≡ 0 = ap (λ (e : Deal). how_many e.voided) none in
    record {
      drawn_count = let z = ap (λ (c : Counts). c.draws) same-counts in omega (arith, z, d);
      issued_count = let z = ap (λ (c : Counts). c.issues) same-counts in omega (arith, z, i);
      voided_count = let z = ap (λ (c : Counts). c.voids) same-counts in omega (arith, z, v);
      till_index = let z = ap (λ (e : Deal). e.rates) none in omega (arith, z, same_index);
      drawn = λ n.
          let z : one_if (deal x).drawn n ≡ 0 = ap (λ (e : Deal). one_if e.drawn n) none in
          let left : drawn_times n h + one_if (deal x).drawn n ≡ drawn_times n h = omega (arith, z) in
          let as_many : draws h ≡ draws h + how_many (deal x).drawn = omega (arith, d) in
          left ∙ a.drawn n ∙ ap (λ k. one_up_to k n) as_many;
      each = λ n.
          let zd : one_if (deal x).drawn n ≡ 0 = ap (λ (e : Deal). one_if e.drawn n) none in
          let zi : one_if (deal x).issued n ≡ 0 = ap (λ (e : Deal). one_if e.issued n) none in
          let zv : one_if (deal x).voided n ≡ 0 = ap (λ (e : Deal). one_if e.voided n) none in
          let same = same_hand.each n in
          omega (arith, zd, zi, zv, same);
      long = omega (arith, d, i, v, same_hand.long);
      fits = omega (arith, a.fits, d);
      index_fits = omega (arith, a.index_fits, same_index);
    }

none_yet : (n : ℕ) → 0 ≡ one_up_to 0 n
none_yet n = grind (arith, nat_tests)

-- a new till's account, before the first line
pub till_none : (counts : Counts) (index : ℕ) (hand : List DrawnNumber) → counts ≡ no_counts → index ≡ 0 → hand ≡ [] → TillAccount [] counts index hand
till_none counts index hand c i e =
    subst (λ c. TillAccount [] c index hand) (sym c) (subst (λ i. TillAccount [] no_counts i hand) (sym i) (subst (TillAccount [] no_counts 0) (sym e) (record {
      drawn = none_yet;
      each = λ n. refl;
      drawn_count = refl;
      issued_count = refl;
      voided_count = refl;
      balance = refl;
      till_index = refl;
      fits = omega arith;
      index_fits = omega arith;
    })))
