-- Single calls at a till with a hand, over plain values: same_till; drawn_performed, undrawn_performed; issued_performed,
-- unissued_performed; voided_performed; absent_issue, absent_void, of a number that is not in hand.
use Rattle.std.proofs.Common.{◌≡◌, ℕ, ◌+◌, Bool, true, false, cond, ◌&&◌, ltb, List, Ok, Err, Result, sym, refl, ap, ◌∙◌, subst, arith}
use Rattle.std.proofs.lemmas.Bool.{cond-true, cond-false}
use Rattle.refusal.specs.Checks.{provided}
use Rattle.refusal.specs.declared.Refusal.{Refusal}
use Rattle.refusal.specs.declared.Refusal.TheVariants.{Sale as NoSale, TillIndexFull, NoMoreNumbers}
use Rattle.refusal.proofs.Passing.{was_err}
use Rattle.record.specs.declared.Record.{Record}
use Rattle.token.specs.SubClasses.{sub_class_named}
use Rattle.entry.specs.Rules.{raisable}
use Rattle.sealing.specs.Suites.{Suite}
use Rattle.sale.specs.declared.orders.Sale.{Sale}
use Rattle.sale.specs.Sales.{salable}
use Rattle.sale.specs.Slips.{slip_length, slip_for}
use Rattle.till.specs.Counting.{drawn, after_draw, after_void}
use Rattle.till.specs.Drawing.{drawing, issuing}
use Rattle.till.specs.Tills.{with_desk, with_counts, after_sale}
use Rattle.till.specs.declared.counts.Counts.{Counts}
use Rattle.till.specs.declared.drawn.DrawnNumber.{DrawnNumber}
use Rattle.till.specs.declared.drawn.NotIssued.{NotIssued}
use Rattle.till.specs.declared.selling.Till.{Till}
use Rattle.journal.specs.declared.answers.Answer.TheVariants as answer
use Rattle.journal.specs.declared.answers.Issued.{Issued}
use Rattle.journal.specs.declared.calls.Call.TheVariants.{Draw, Issue, Void}
use Rattle.journal.specs.declared.calls.Cancellation.{Cancellation}
use Rattle.journal.specs.declared.calls.Order.{Order}
use Rattle.journal.specs.Hands.{held, is_in_hand, Gains}
use Rattle.journal.specs.Standings.{World}
use Rattle.journal.specs.Steps.{draw_answer, sold, issue_answer, SameMeter, Drew, Sold, Cancelled, Performed}
use Rattle.till_ledger.specs.Ledgers.{desk_world}
use Rattle.till_ledger.proofs.Hands.{in_hand, not_in_hand, back_again}

-- a till with another index and other counts is the till with those that it has then
pub same_till : {C A : Type 0} (old new : Till C A) (index : ℕ) (counts : Counts) → new ≡ with_desk old index counts → new ≡ with_desk old new.index new.counts
same_till old new index counts p = p ∙ (λ i. with_desk old (sym p i).index (sym p i).counts)

-- what a draw was, by what was answered
drawn_ok : (r : Result ℕ Refusal) (d : DrawnNumber) → Ok d ≡ drawing r → r ≡ Ok d.number
drawn_ok (Ok n) d e = let is : d ≡ record { number = n } = cc in ap (λ (x : DrawnNumber). Ok x.number) (sym is)
drawn_ok (Err f) d e = absurd (let z : ◌≡◌ {A = ℕ} 0 1 = cc in omega arith)

drawn_err : (r : Result ℕ Refusal) (e : Refusal) → Err e ≡ drawing r → r ≡ Err e
drawn_err (Ok n) e p = absurd (let z : ◌≡◌ {A = ℕ} 0 1 = cc in omega arith)
drawn_err (Err f) e p = cc

-- a draw that is refused leaves the counts
uncounted : (c : Counts) (e : Refusal) → drawn c.draws ≡ Err e → after_draw c ≡ c
unfolding drawn
uncounted c e is = cond-false (ltb c.draws 4294967295) _ _ (was_err (ltb c.draws 4294967295) NoMoreNumbers e (c.draws + 1) (sym is)).0

-- what an issue was, by what was answered
sold_ok : (a b : Bool) (d : DrawnNumber) (length whole : ℕ) → Ok length ≡ issuing d (provided a NoSale (provided b TillIndexFull (Ok whole))) →
    (a ≡ true) × (b ≡ true) × (length ≡ whole)
sold_ok true true d length whole e = (refl, refl, cc)
sold_ok true false d length whole e = absurd (let z : ◌≡◌ {A = ℕ} 0 1 = cc in omega arith)
sold_ok false b d length whole e = absurd (let z : ◌≡◌ {A = ℕ} 0 1 = cc in omega arith)

pub record Unsold (a b : Bool) (d : DrawnNumber) (back : NotIssued) : Type 0 where
  pub given : back.drawn ≡ d
  pub why : (i : Issued) → provided a NoSale (provided b TillIndexFull (Ok i)) ≡ Err back.refusal
  pub kept : (a && b) ≡ false

sold_err : (a b : Bool) (d : DrawnNumber) (back : NotIssued) (whole : ℕ) → Err back ≡ issuing d (provided a NoSale (provided b TillIndexFull (Ok whole))) → Unsold a b d back
sold_err true true d back whole e = absurd (let z : ◌≡◌ {A = ℕ} 0 1 = cc in omega arith)
sold_err true false d back whole e =
    let is : back ≡ record { refusal = TillIndexFull; drawn = d } = cc in
    record { given = ap (λ (x : NotIssued). x.drawn) is; why = λ i. ap (λ (x : NotIssued). Err x.refusal) (sym is); kept = refl }
sold_err false b d back whole e =
    let is : back ≡ record { refusal = NoSale; drawn = d } = cc in
    record { given = ap (λ (x : NotIssued). x.drawn) is; why = λ i. ap (λ (x : NotIssued). Err x.refusal) (sym is); kept = refl }

module _ {C A : Type 0} (t s : Suite) (kept : Record) (writes : ℕ) (till next : Till C A) (hand more : List DrawnNumber) where
  abbrev w : World
  w = desk_world kept writes till hand

  abbrev v : World
  v = desk_world kept writes next more

  untouched : SameMeter w v
  untouched = record { kept = refl; writes = refl }

  pub drawn_performed : (d : DrawnNumber) (n : ℕ) → n ≡ d.number → Ok d ≡ drawing (drawn till.counts.draws) →
      next ≡ with_counts till (after_draw till.counts) → Gains d.number hand more → Performed t s Draw (answer.Drawn (record { number = n })) w v
  drawn_performed d n is ok after gains =
      let r : drawn till.counts.draws ≡ Ok d.number = drawn_ok (drawn till.counts.draws) d ok in (
        ap (λ k. answer.Drawn (record { number = k })) is ∙ ap draw_answer (sym r),
        untouched,
        subst (λ q. Drew q w v) (sym r) (ap (λ (x : Till C A). x.counts) after, ap (λ (x : Till C A). x.index) after, gains),
      )

  pub undrawn_performed : (e : Refusal) → Err e ≡ drawing (drawn till.counts.draws) → next ≡ with_counts till (after_draw till.counts) → more ≡ hand →
      Performed t s Draw (answer.Refused e) w v
  undrawn_performed e err after same =
      let r : drawn till.counts.draws ≡ Err e = drawn_err (drawn till.counts.draws) e err in (
        ap draw_answer (sym r),
        untouched,
        subst (λ q. Drew q w v) (sym r) (record {
          counts = ap (λ (x : Till C A). x.counts) after ∙ uncounted till.counts e r;
          index = ap (λ (x : Till C A). x.index) after;
          hand = same;
        }),
      )

  -- an issue of a number that was taken out of the hand
  module _ (o : Order) (settled : t.settings ≡ till.sealer.settings) (d : DrawnNumber) (its_own : d.number ≡ o.number) where
    abbrev a : Bool
    a = salable till.sealer.settings o.sale

    abbrev b : Bool
    b = raisable (sub_class_named o.sale.subclass) till.index

    abbrev slip : Issued
    slip = record { slip = slip_for t o.number till.index o.sale; length = slip_length o.sale }

    comes_to : sold t till.index o ≡ provided a NoSale (provided b TillIndexFull (Ok slip))
    unfolding sold
    comes_to = ap (λ k. provided (salable k o.sale) NoSale (provided b TillIndexFull (Ok slip))) settled

    pub issued_performed : (length : ℕ) (old bytes : List ℕ) →
        Ok length ≡ issuing d (provided a NoSale (provided b TillIndexFull (Ok (slip_length o.sale)))) →
        next ≡ cond (a && b) (after_sale till o.sale) till → bytes ≡ cond (a && b) (slip_for t d.number till.index o.sale) old →
        Gains o.number more hand → Performed t s (Issue o) (answer.Issued (record { slip = bytes; length = length })) w v
    issued_performed length old bytes ok after printed gains =
        let yes = sold_ok a b d length (slip_length o.sale) ok in
        let both : (a && b) ≡ true = λ i. yes.0 i && yes.1 i in
        let r : sold t till.index o ≡ Ok slip = comes_to ∙ (λ i. provided (yes.0 i) NoSale (provided (yes.1 i) TillIndexFull (Ok slip))) in
        let here : is_in_hand o.number hand ≡ true = in_hand o.number more hand gains in
        let done : next ≡ after_sale till o.sale = after ∙ cond-true (a && b) _ _ both in
        let same : bytes ≡ slip_for t o.number till.index o.sale =
        printed ∙ cond-true (a && b) _ _ both ∙ ap (λ n. slip_for t n till.index o.sale) its_own in (
          (λ i. answer.Issued (record { slip = same i; length = yes.2 i })) ∙ (λ i. cond (sym here i) (issue_answer (sym r i)) answer.NotInHand),
          untouched,
          subst (λ h. Sold h (sold t till.index o) o w v) (sym here)
              (subst (λ q. Sold true q o w v) (sym r) (ap (λ (x : Till C A). x.counts) done, ap (λ (x : Till C A). x.index) done, gains)),
        )

    pub unissued_performed : (back : NotIssued) (out : List DrawnNumber) →
        Err back ≡ issuing d (provided a NoSale (provided b TillIndexFull (Ok (slip_length o.sale)))) →
        next ≡ cond (a && b) (after_sale till o.sale) till → Gains o.number out hand → Gains back.drawn.number out more →
        Performed t s (Issue o) (answer.Refused back.refusal) w v
    unissued_performed back out err after gains again =
        let no = sold_err a b d back (slip_length o.sale) err in
        let r : sold t till.index o ≡ Err back.refusal = comes_to ∙ no.why slip in
        let here : is_in_hand o.number hand ≡ true = in_hand o.number out hand gains in
        let done : next ≡ till = after ∙ cond-false (a && b) _ _ no.kept in
        let same : back.drawn.number ≡ o.number = ap (λ (x : DrawnNumber). x.number) no.given ∙ its_own in (
          (λ i. cond (sym here i) (issue_answer (sym r i)) answer.NotInHand),
          untouched,
          subst (λ h. Sold h (sold t till.index o) o w v) (sym here)
              (subst (λ q. Sold true q o w v) (sym r)
              (ap (λ (x : Till C A). x.counts) done, ap (λ (x : Till C A). x.index) done, back_again o.number back.drawn.number hand out more gains again same)),
        )

  -- a number that is not in hand
  pub absent_issue : (o : Order) → held o.number hand ≡ 0 → next ≡ till → more ≡ hand → Performed t s (Issue o) answer.NotInHand w v
  absent_issue o none same-one same =
      let out = not_in_hand o.number hand none in (
        (λ i. cond (sym out i) (issue_answer (sold t till.index o)) answer.NotInHand),
        untouched,
        subst (λ h. Sold h (sold t till.index o) o w v) (sym out) (record { counts = ap (λ (x : Till C A). x.counts) same-one; index = ap (λ (x : Till C A). x.index) same-one; hand = same }),
      )

  pub absent_void : (c : Cancellation) → held c.number hand ≡ 0 → next ≡ till → more ≡ hand → Performed t s (Void c) answer.NotInHand w v
  absent_void c none same-one same =
      let out = not_in_hand c.number hand none in (
        (λ i. cond (sym out i) answer.Voided answer.NotInHand),
        untouched,
        subst (λ h. Cancelled h c.number w v) (sym out) (record { counts = ap (λ (x : Till C A). x.counts) same-one; index = ap (λ (x : Till C A). x.index) same-one; hand = same }),
      )

  pub voided_performed : (c : Cancellation) → next ≡ with_counts till (after_void till.counts) → Gains c.number more hand → Performed t s (Void c) answer.Voided w v
  voided_performed c after gains =
      let here : is_in_hand c.number hand ≡ true = in_hand c.number more hand gains in (
        (λ i. cond (sym here i) answer.Voided answer.NotInHand),
        untouched,
        subst (λ h. Cancelled h c.number w v) (sym here) (ap (λ (x : Till C A). x.counts) after, ap (λ (x : Till C A). x.index) after, gains),
      )
