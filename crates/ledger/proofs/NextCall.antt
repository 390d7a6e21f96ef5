-- The law, one call on: took, performed, idle, what single calls change; entered, used, by what they come to; law_more.
use Rattle.std.proofs.Common.{◌≡◌, ℕ, ◌+◌, ◌-◌, ◌≤◌, max, Bool, true, false, cond, not, ◌||◌, eqb, ltb, List, [], ◌∷◌, ◌++◌, Some, None, Ok, Err, vec_items, Option, Result, sym, refl, ap, ◌∙◌, subst, ⊎_elim, arith}
use Rattle.std.proofs.lemmas.Bool.{lt-ltb, ltb-true, ltb-false, leb-true}
use Rattle.std.proofs.lemmas.Bool.Decides.{eqb_tells}
use Rattle.refusal.specs.Checks.{AllKept, FirstBroken}
use Rattle.refusal.specs.declared.Refusal.{Refusal}
use Rattle.refusal.proofs.Passing.{checked_ok, checked_err}
use Rattle.token.specs.declared.subclass.SubClass.{SubClass}
use Rattle.token.specs.declared.subclass.SubClass.TheVariants.{Clear, Enciphered, Rates}
use Rattle.token.specs.declared.tariff.Tariff.{Tariff}
use Rattle.token.specs.RatePrices.{tariff_in}
use Rattle.window.specs.Recovery.{Stands}
use Rattle.window.specs.Marks.{marked, counted}
use Rattle.window.proofs.Counting.{highest_counted, marked-counted}
use Rattle.window.proofs.Recovery.{reached}
use Rattle.record.specs.declared.Record.{Record}
use Rattle.record.specs.Changes.{index_with, taken, spent}
use Rattle.sealing.specs.Suites.{Suite}
use Rattle.sealing.specs.Opening.{parts_of}
use Rattle.entry.specs.declared.worth.Worth.{Worth}
use Rattle.entry.specs.Reading.{slip_read, amount_in, brought_by, tariff_brought}
use Rattle.entry.specs.Rules.{Standing, standing, raisable, number_in, priced, entry_rules}
use Rattle.entry.specs.Judging.{worth_of, judged}
use Rattle.meter.specs.Answering.{taking, spend_rules, spend_judged, spending}
use Rattle.meter.specs.declared.answers.Answer.{Answer}
use Rattle.meter.specs.declared.answers.Answer.TheVariants as answer
use Rattle.ledger.specs.declared.calls.Call.{Call}
use Rattle.ledger.specs.declared.calls.Call.TheVariants.{Enter, Spend}
use Rattle.meter.specs.declared.calls.Entry.{Entry}
use Rattle.meter.specs.declared.calls.Usage.{Usage}
use Rattle.ledger.specs.Noted.{Line}
use Rattle.sealing.specs.Indices.{one_for_rates}
use Rattle.ledger.specs.Journal.{times, standing_after}
use Rattle.meter.specs.Telling.{entry_answer, spend_answer}
use Rattle.meter.specs.Writing.{OneWrite, next_of, Moved}
use Rattle.ledger.specs.Law.{Right, Law}
use Rattle.ledger.specs.Steps.{Performed}
use Rattle.ledger.proofs.Standings.{number_from, Agree, agree, entry_same, spend_same}
use Rattle.ledger.proofs.Growing.{Step, grow}

or_true : (b : Bool) → (b || true) ≡ true
or_true true = refl
or_true false = refl

or_false : (b : Bool) → (b || false) ≡ b
or_false true = refl
or_false false = refl

-- a count that one more is added to, or none
or_plus : (a : ℕ) (b : Bool) → (ltb 0 a || b) ≡ ltb 0 (a + cond b 1 0)
or_plus a true = or_true (ltb 0 a) ∙ sym (lt-ltb 0 (a + 1) (omega arith))
or_plus a false = or_false (ltb 0 a) ∙ ap (ltb 0) (let z : a ≡ a + 0 = omega arith in z)

not-true : (b : Bool) → not b ≡ true → b ≡ false
not-true true e = sym e
not-true false e = refl

-- a slip with rate prices that is taken raises the index by one, and any other by none
raises : (k : SubClass) (t : Option Tariff) (index : ℕ) → raisable k index ≡ true → priced k t ≡ true → index_with (brought_by k t) index ≡ index + one_for_rates k
raises Clear t index r p = omega arith
raises Enciphered t index r p = omega arith
raises Rates (Some t) index r p = let h = ltb-true index 65535 r in omega (arith, h)
raises Rates None index r p = absurd (let z : false ≡ true = p in let y : ◌≡◌ {A = ℕ} 0 1 = cc in omega arith)

module _ (s : Suite) (start writes : ℕ) (h : List Line) (old : Record) (had left : ℕ) (law : Law s start writes h old had) where
  abbrev m : Standing
  m = standing old had

  abbrev k : Standing
  k = standing_after s start writes h

  abbrev same : Agree m k
  same = agree s start writes h old had law

  -- an entry that keeps every rule
  took : (e : Entry) → AllKept (entry_rules s m (vec_items e.text)) → OneWrite had left →
      Step s start writes h old
      (record {
        call = Enter e;
        answer = answer.Taken (record {
          number = number_in m (slip_read s (vec_items e.text));
          amount = amount_in s.settings (slip_read s (vec_items e.text));
          credit = old.credit + amount_in s.settings (slip_read s (vec_items e.text));
        });
        writes = left;
      })
      (taken old (number_in m (slip_read s (vec_items e.text))) (amount_in s.settings (slip_read s (vec_items e.text))) (tariff_brought (slip_read s (vec_items e.text))))
      left
  took e kept write =
      let text = vec_items e.text in
      let slip = slip_read s text in
      let n = number_in m slip in
      let w = old.window in
      let index_rule = kept.1.1.1.1.1.1.0 in
      let window_rule = kept.1.1.1.1.1.1.1.0 in
      let mark_rule = kept.1.1.1.1.1.1.1.1.1.0 in
      let price_rule = kept.1.1.1.1.1.1.1.1.1.1.1.0 in
      let stands : Stands w.highest slip.first.tstn n = reached w.highest slip.first.tstn window_rule in
      let top : (counted w n).highest ≡ max w.highest n = highest_counted w n stands.within in
      let fresh : times s n h ≤ 0 =
      ltb-false 0 (times s n h) (sym (law.marks n (number_from w.highest slip.first.tstn)) ∙ not-true (marked w n) mark_rule) in
      record {
        credit = omega arith;
        marks = λ j from.
            marked-counted w n j stands.within (omega (arith, from)) (omega (arith, from))
            ∙ ap (λ b. b || eqb j n) (law.marks j (omega (arith, from, top)))
            ∙ or_plus (times s j h) (eqb j n);
        once = λ j.
            ⊎_elim
            (λ p. let none : times s j h ≤ 0 = subst (λ i. times s i h ≤ 0) (sym p.1) fresh in
            let one : ◌≡◌ {A = ℕ} (cond (eqb j n) 1 0) 1 = ap (λ b. cond b 1 0) p.0 in omega (arith, none, one))
            (λ p. let zero : ◌≡◌ {A = ℕ} (cond (eqb j n) 1 0) 0 = ap (λ b. cond b 1 0) p.0 in omega (arith, law.once j, zero))
            (eqb_tells j n);
        highest = omega (arith, top, law.highest);
        index = raises slip.subclass (tariff_in (parts_of slip)) old.index index_rule price_rule;
        tariff = refl;
        store = refl;
        right = record {
          rules = subst AllKept (entry_same s m k text same) kept;
          number = subst (λ top. Stands top slip.first.tstn n) law.highest stands;
          tells = ap (λ credit. record { number = 0; values = n ∷ amount_in s.settings slip ∷ (credit + amount_in s.settings slip) ∷ [] }) same.credit;
          write = subst (λ had. OneWrite had left) law.store write;
        };
      }

  -- a spend that keeps every rule
  performed : (u : Usage) → AllKept (spend_rules m u.amount) → OneWrite had left →
      Step s start writes h old
      (record { call = Spend u; answer = answer.Spent (record { amount = u.amount; credit = old.credit - u.amount }); writes = left })
      (spent old u.amount) left
  performed u kept write =
      let enough = leb-true u.amount old.credit kept.1.0 in
      record {
        credit = omega (arith, enough);
        marks = λ j from. law.marks j from ∙ ap (ltb 0) (let z : times s j h ≡ times s j h + 0 = omega arith in z);
        once = λ j. omega (arith, law.once j);
        highest = omega (arith, law.highest);
        index = omega arith;
        tariff = refl;
        store = refl;
        right = record {
          rules = subst AllKept (spend_same m k u.amount same) kept;
          tells = ap (λ credit. record { number = 0; values = u.amount ∷ (credit - u.amount) ∷ [] }) same.credit;
          write = subst (λ had. OneWrite had left) law.store write;
        };
      }

  -- a call that is refused
  idle : (c : Call) (f : Refusal) → Right s start writes h (record { call = c; answer = answer.Refused f; writes = left }) →
      Step s start writes h old (record { call = c; answer = answer.Refused f; writes = left }) old left
  idle c f right = record {
    credit = omega arith;
    marks = λ j from. law.marks j from ∙ ap (ltb 0) (let z : times s j h ≡ times s j h + 0 = omega arith in z);
    once = λ j. omega (arith, law.once j);
    highest = omega (arith, law.highest);
    index = omega arith;
    tariff = refl;
    store = refl;
    right = right;
  }

  abbrev StepsTo : Call → Answer → Record → Type 0
  StepsTo c x new = Step s start writes h old (record { call = c; answer = x; writes = left }) new left

  -- an entry, by what it comes to
  entered : (e : Entry) (v : Result Worth Refusal) (new : Record) → judged s old had (vec_items e.text) ≡ v → Moved (next_of v) old had new left →
      StepsTo (Enter e) (entry_answer (taking v)) new
  unfolding judged
  entered e (Ok w) new is moved =
      let text = vec_items e.text in
      let slip = slip_read s text in
      let worth = worth_of s.settings old (number_in m slip) slip in
      let passed = checked_ok (entry_rules s m text) worth w is in
      let core = took e passed.0 moved.1 in
      let at_worth : StepsTo (Enter e) (entry_answer (taking (Ok w))) w.next =
      subst (λ v. StepsTo (Enter e) (entry_answer (taking (Ok v))) v.next) passed.1 core in
      subst (StepsTo (Enter e) (entry_answer (taking (Ok w)))) (sym moved.0) at_worth
  entered e (Err f) new is moved =
      let text = vec_items e.text in
      let slip = slip_read s text in
      let broken = checked_err (entry_rules s m text) (worth_of s.settings old (number_in m slip) slip) f is in
      subst (StepsTo (Enter e) (answer.Refused f)) (sym moved.0)
      (idle (Enter e) f (subst (λ rules. FirstBroken rules f) (entry_same s m k text same) broken, moved.1 ∙ law.store))

  -- a spend, by what it comes to
  used : (u : Usage) (v : Result Record Refusal) (new : Record) → spend_judged old had u.amount ≡ v → Moved v old had new left →
      StepsTo (Spend u) (spend_answer (spending u.amount v)) new
  unfolding spend_judged
  used u (Ok next) new is moved =
      let passed = checked_ok (spend_rules m u.amount) (spent old u.amount) next is in
      let core = performed u passed.0 moved.1 in
      let at_next : StepsTo (Spend u) (spend_answer (spending u.amount (Ok next))) next =
      subst (λ r. StepsTo (Spend u) (spend_answer (spending u.amount (Ok r))) r) passed.1 core in
      subst (StepsTo (Spend u) (spend_answer (spending u.amount (Ok next)))) (sym moved.0) at_next
  used u (Err f) new is moved =
      let broken = checked_err (spend_rules m u.amount) (spent old u.amount) f is in
      subst (StepsTo (Spend u) (answer.Refused f)) (sym moved.0)
      (idle (Spend u) f (subst (λ rules. FirstBroken rules f) (spend_same m k u.amount same) broken, moved.1 ∙ law.store))

  steps : (c : Call) (x : Answer) (new : Record) → Performed s c x old had new left → StepsTo c x new
  steps (Enter e) x new (is, moved) =
      subst (λ y. StepsTo (Enter e) y new) (sym is) (entered e (judged s old had (vec_items e.text)) new refl moved)
  steps (Spend u) x new (is, moved) =
      subst (λ y. StepsTo (Spend u) y new) (sym is) (used u (spend_judged old had u.amount) new refl moved)

  -- the law holds after one call more
  pub law_more : (c : Call) (x : Answer) (new : Record) → Performed s c x old had new left →
      Law s start writes (h ++ record { call = c; answer = x; writes = left } ∷ []) new left
  law_more c x new did = grow s start writes h old had (record { call = c; answer = x; writes = left }) new left law (steps c x new did)
