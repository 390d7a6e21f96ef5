-- One call at the till: Deals-to, what it changes and that it was answered rightly; draw_deals, issue_deals, void_deals.
use Rattle.std.proofs.Common.{◌≡◌, ℕ, ◌+◌, ◌≤◌, min, Bool, true, false, cond, ltb, List, length, Ok, Err, Result, sym, refl, ap, ◌∙◌, subst, arith}
use Rattle.std.proofs.lemmas.Bool.{ltb-true, cond-true}
use Rattle.std.proofs.lemmas.Bool.Decides.{nat_tests}
use Rattle.refusal.specs.Checks.{AllKept, FirstBroken}
use Rattle.refusal.specs.declared.Refusal.{Refusal}
use Rattle.refusal.proofs.Passing.{checked_ok, checked_err}
use Rattle.token.specs.SubClasses.{sub_class_named}
use Rattle.token.specs.declared.subclass.SubClass.{SubClass}
use Rattle.token.specs.declared.subclass.SubClass.TheVariants.{Clear, Enciphered, Rates}
use Rattle.sealing.specs.Indices.{one_for_rates}
use Rattle.entry.specs.Rules.{raisable}
use Rattle.sealing.specs.Suites.{Suite}
use Rattle.sale.specs.Sales.{sale_rules}
use Rattle.sale.specs.Slips.{slip_length, slip_for}
use Rattle.till.specs.Counting.{draw_rules, drawn}
use Rattle.till.specs.declared.counts.Counts.{Counts}
use Rattle.till.specs.declared.drawn.DrawnNumber.{DrawnNumber}
use Rattle.journal.specs.declared.answers.Answer.{Answer}
use Rattle.journal.specs.declared.answers.Answer.TheVariants as answer
use Rattle.journal.specs.declared.answers.Issued.{Issued}
use Rattle.journal.specs.declared.calls.Call.{Call}
use Rattle.journal.specs.declared.calls.Call.TheVariants.{Draw, Issue, Void}
use Rattle.journal.specs.declared.calls.Cancellation.{Cancellation}
use Rattle.journal.specs.Noted.{Line}
use Rattle.journal.specs.declared.calls.Order.{Order}
use Rattle.journal.specs.Hands.{held, one, is_in_hand, Gains, SameHand}
use Rattle.meter.specs.Journals.{writes_after}
use Rattle.journal.specs.Lines.{drawn_times, draws}
use Rattle.journal.specs.Standings.{World, Desk, desk_after}
use Rattle.journal.specs.Law.{Right, one_up_to}
use Rattle.journal.specs.Steps.{draw_answer, sold, issue_answer, SameDesk, Drew, Sold, Cancelled}
use Rattle.journal.proofs.Accounts.{TillAccount}
use Rattle.journal.proofs.Agreeing.{holds_same}
use Rattle.journal.proofs.Growing.{Dealt, still}

-- one number more is drawn
up_one : (last n : ℕ) → one_up_to last n + one (last + 1) n ≡ one_up_to (last + 1) n
up_one last n = grind (arith, nat_tests)

-- an index that can be raised is raised by as much
raised_by : (k : SubClass) (index : ℕ) → raisable k index ≡ true → index ≤ 65535 → min (index + one_for_rates k) 65535 ≡ index + one_for_rates k
raised_by Clear index r f = omega arith
raised_by Enciphered index r f = omega arith
raised_by Rates index r f = let h = ltb-true index 65535 r in omega (arith, h)

same_hand : (hand other : List DrawnNumber) → other ≡ hand → SameHand hand other
same_hand hand other e = record { long = ap length e; each = λ k. ap (held k) e }

module _ (s : Suite) (opening writes : ℕ) (h : List Line) (left : ℕ) (noted : left ≡ writes_after writes h) (w v : World)
    (account : TillAccount h w.counts w.index w.hand) where
  abbrev d : Desk
  d = desk_after h

  abbrev line : Call → Answer → Line
  line c x = record { call = c; answer = x; writes = left }

  pub record Deals-to (c : Call) (x : Answer) : Type 0 where
    pub dealt : Dealt h w.counts w.index w.hand (line c x) v.counts v.index v.hand
    pub right : Right s opening writes h (line c x)

  holds : (n : ℕ) → is_in_hand n w.hand ≡ d.holds n
  holds = holds_same h w.counts w.index w.hand account

  -- a draw, by what it comes to
  drew : (r : Result ℕ Refusal) → drawn w.counts.draws ≡ r → Drew r w v → Deals-to Draw (draw_answer r)
  unfolding drawn
  drew (Ok n) is (counts, index, gains) =
      let passed = checked_ok (draw_rules w.counts.draws) (w.counts.draws + 1) n is in
      let more = ltb-true w.counts.draws 4294967295 passed.0.0 in
      let after : v.counts ≡ record { draws = w.counts.draws + 1; issues = w.counts.issues; voids = w.counts.voids } =
      counts ∙ cond-true (ltb w.counts.draws 4294967295) _ _ passed.0.0 in
      let next : n ≡ draws h + 1 = sym passed.1 ∙ ap (λ k. k + 1) account.drawn_count in
      record {
        dealt = record {
          drawn_count = ap (λ (c : Counts). c.draws) after;
          issued_count = let z = ap (λ (c : Counts). c.issues) after in omega (arith, z);
          voided_count = let z = ap (λ (c : Counts). c.voids) after in omega (arith, z);
          till_index = omega (arith, index);
          drawn = λ k. ap (λ j. j + one n k) (account.drawn k) ∙ ap (λ m. one_up_to (draws h) k + one m k) next ∙ up_one (draws h) k;
          each = λ k. let z = gains.each k in omega (arith, z);
          long = omega (arith, gains.long);
          fits = omega (arith, more, account.drawn_count);
          index_fits = omega (arith, index, account.index_fits);
        };
        right = (refl, subst (λ k. AllKept (draw_rules k)) account.drawn_count passed.0, next, noted);
      }
  drew (Err e) is same =
      let broken = checked_err (draw_rules w.counts.draws) (w.counts.draws + 1) e is in
      record {
        dealt = still h w.counts w.index w.hand (line Draw (answer.Refused e)) v.counts v.index v.hand account refl same.counts same.index
            (same_hand w.hand v.hand same.hand);
        right = (refl, subst (λ k. FirstBroken (draw_rules k) e) account.drawn_count broken, noted);
      }

  -- one issue or one void fewer than numbers drawn
  room : (n : ℕ) → Gains n v.hand w.hand → w.counts.issues + w.counts.voids + 1 ≤ 4294967295
  room n gains = omega (arith, gains.long, account.balance, account.fits, account.issued_count, account.voided_count)

  not_held : (c : Call) → Right s opening writes h (line c answer.NotInHand) → SameDesk w v → Deals-to c answer.NotInHand
  not_held c right same = record {
    dealt = still h w.counts w.index w.hand (line c answer.NotInHand) v.counts v.index v.hand account refl same.counts same.index
        (same_hand w.hand v.hand same.hand);
    right = right;
  }

  -- an issue, by whether the number is in hand and what it comes to
  issued : (o : Order) (b : Bool) (r : Result Issued Refusal) → is_in_hand o.number w.hand ≡ b → sold s w.index o ≡ r → Sold b r o w v →
      Deals-to (Issue o) (cond b (issue_answer r) answer.NotInHand)
  unfolding sold
  issued o false r out is same = not_held (Issue o) (sym (holds o.number) ∙ out, noted) same
  issued o true (Ok i) in_hand is (counts, index, gains) =
      let slip : Issued = record { slip = slip_for s o.number w.index o.sale; length = slip_length o.sale } in
      let passed = checked_ok (sale_rules s.settings w.index o.sale) slip i is in
      let up = raised_by (sub_class_named o.sale.subclass) w.index passed.0.1.0 account.index_fits in
      let room_left = room o.number gains in
      record {
        dealt = record {
          drawn_count = let z = ap (λ (c : Counts). c.draws) counts in omega (arith, z);
          issued_count = let z = ap (λ (c : Counts). c.issues) counts in omega (arith, z, room_left);
          voided_count = let z = ap (λ (c : Counts). c.voids) counts in omega (arith, z);
          till_index = index ∙ up;
          drawn = λ k. let z : drawn_times k h + 0 ≡ drawn_times k h = omega arith in let y : draws h ≡ draws h + 0 = omega arith in z ∙ account.drawn k ∙ ap (λ j. one_up_to j k) y;
          each = λ k. let z = gains.each k in omega (arith, z);
          long = omega (arith, gains.long);
          fits = omega (arith, account.fits);
          index_fits = omega (arith, index);
        };
        right = (
          o,
          refl,
          record {
            in_hand = sym (holds o.number) ∙ in_hand;
            rules = subst (λ k. AllKept (sale_rules s.settings k o.sale)) account.till_index passed.0;
            bytes = ap (λ (j : Issued). j.slip) (sym passed.1) ∙ ap (λ k. slip_for s o.number k o.sale) account.till_index;
            long = ap (λ (j : Issued). j.length) (sym passed.1);
          },
          noted,
        );
      }
  issued o true (Err e) in_hand is (counts, index, same) =
      let slip : Issued = record { slip = slip_for s o.number w.index o.sale; length = slip_length o.sale } in
      let broken = checked_err (sale_rules s.settings w.index o.sale) slip e is in
      record {
        dealt = still h w.counts w.index w.hand (line (Issue o) (answer.Refused e)) v.counts v.index v.hand account refl counts index same;
        right = (sym (holds o.number) ∙ in_hand, subst (λ k. FirstBroken (sale_rules s.settings k o.sale) e) account.till_index broken, noted);
      }

  -- a void, by whether the number is in hand
  voided : (c : Cancellation) (b : Bool) → is_in_hand c.number w.hand ≡ b → Cancelled b c.number w v →
      Deals-to (Void c) (cond b answer.Voided answer.NotInHand)
  voided c false out same = not_held (Void c) (sym (holds c.number) ∙ out, noted) same
  voided c true in_hand (counts, index, gains) =
      let room_left = room c.number gains in
      record {
        dealt = record {
          drawn_count = let z = ap (λ (c : Counts). c.draws) counts in omega (arith, z);
          issued_count = let z = ap (λ (c : Counts). c.issues) counts in omega (arith, z);
          voided_count = let z = ap (λ (c : Counts). c.voids) counts in omega (arith, z, room_left);
          till_index = omega (arith, index);
          drawn = λ k. let z : drawn_times k h + 0 ≡ drawn_times k h = omega arith in let y : draws h ≡ draws h + 0 = omega arith in z ∙ account.drawn k ∙ ap (λ j. one_up_to j k) y;
          each = λ k. let z = gains.each k in omega (arith, z);
          long = omega (arith, gains.long);
          fits = omega (arith, account.fits);
          index_fits = omega (arith, index, account.index_fits);
        };
        right = (c, refl, sym (holds c.number) ∙ in_hand, noted);
      }

  pub draw_deals : (x : Answer) → x ≡ draw_answer (drawn w.counts.draws) → Drew (drawn w.counts.draws) w v → Deals-to Draw x
  draw_deals x is moved = subst (Deals-to Draw) (sym is) (drew (drawn w.counts.draws) refl moved)

  pub issue_deals : (o : Order) (x : Answer) → x ≡ cond (is_in_hand o.number w.hand) (issue_answer (sold s w.index o)) answer.NotInHand →
      Sold (is_in_hand o.number w.hand) (sold s w.index o) o w v → Deals-to (Issue o) x
  issue_deals o x is moved = subst (Deals-to (Issue o)) (sym is) (issued o (is_in_hand o.number w.hand) (sold s w.index o) refl refl moved)

  pub void_deals : (c : Cancellation) (x : Answer) → x ≡ cond (is_in_hand c.number w.hand) answer.Voided answer.NotInHand →
      Cancelled (is_in_hand c.number w.hand) c.number w v → Deals-to (Void c) x
  void_deals c x is moved = subst (Deals-to (Void c)) (sym is) (voided c (is_in_hand c.number w.hand) refl moved)
