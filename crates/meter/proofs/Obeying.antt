-- A store that obeys a verdict moves as the verdict says: entry_kept, spend_kept.
use Rattle.std.proofs.Common.{◌≡◌, ℕ, ◌-◌, ◌<◌, ◌≤◌, List, Ok, Err, Result, sym, refl, ap, ◌∙◌, subst, arith}
use Rattle.std.proofs.lemmas.Bool.{ltb-true}
use Rattle.refusal.specs.declared.Refusal.{Refusal}
use Rattle.refusal.proofs.Passing.{checked_ok}
use Rattle.record.specs.declared.Record.{Record}
use Rattle.record.specs.Changes.{spent}
use Rattle.sealing.specs.Suites.{Suite}
use Rattle.entry.specs.declared.worth.Worth.{Worth}
use Rattle.entry.specs.Reading.{slip_read}
use Rattle.entry.specs.Rules.{standing, number_in, entry_rules}
use Rattle.entry.specs.Judging.{worth_of, judged}
use Rattle.meter.specs.Meters.{with_store}
use Rattle.meter.specs.Answering.{entry_obeyed, spend_rules, spend_judged, spend_obeyed}
use Rattle.meter.specs.Writing.{next_of, Moved}
use Rattle.meter.specs.declared.service.Meter.{Meter}

module _ {S : Type 0} (kept : S → Record) (writes : S → ℕ) (after : S → Record → S)
    (holds : (s : S) (r : Record) → 0 < writes s → kept (after s r) ≡ r)
    (most : (s : S) (r : Record) → 0 < writes s → writes (after s r) ≤ writes s)
    (least : (s : S) (r : Record) → 0 < writes s → writes s - 1 ≤ writes (after s r)) where
  -- one write, where there is one left
  wrote : (store : S) (next : Record) → 0 < writes store → Moved (Ok next) (kept store) (writes store) (kept (after store next)) (writes (after store next))
  wrote store next left = (
    holds store next left,
    record { left = left; most = most store next left; least = let l = least store next left in omega (arith, l, left) },
  )

  entry_moves : (s : Suite) (store : S) (text : List ℕ) (v : Result Worth Refusal) → judged s (kept store) (writes store) text ≡ v →
      Moved (next_of v) (kept store) (writes store) (kept (entry_obeyed after v store)) (writes (entry_obeyed after v store))
  unfolding judged
  entry_moves s store text (Ok w) is =
      let m = standing (kept store) (writes store) in
      let slip = slip_read s text in
      let passed = checked_ok (entry_rules s m text) (worth_of s.settings (kept store) (number_in m slip) slip) w is in
      wrote store w.next (ltb-true 0 (writes store) passed.0.1.1.1.1.1.1.1.1.1.1.1.1.1.0)
  entry_moves s store text (Err e) is = (refl, refl)

  spend_moves : (store : S) (amount : ℕ) (v : Result Record Refusal) → spend_judged (kept store) (writes store) amount ≡ v →
      Moved v (kept store) (writes store) (kept (spend_obeyed after v store)) (writes (spend_obeyed after v store))
  unfolding spend_judged
  spend_moves store amount (Ok next) is =
      let passed = checked_ok (spend_rules (standing (kept store) (writes store)) amount) (spent (kept store) amount) next is in
      wrote store next (ltb-true 0 (writes store) passed.0.1.1.0)
  spend_moves store amount (Err e) is = (refl, refl)

  -- a store that came to obey the verdict on an entry, or on a spend, moved as it says
  pub entry_kept : (s : Suite) (store new : S) (text bytes : List ℕ) → text ≡ bytes → new ≡ entry_obeyed after (judged s (kept store) (writes store) text) store →
      Moved (next_of (judged s (kept store) (writes store) bytes)) (kept store) (writes store) (kept new) (writes new)
  entry_kept s store new text bytes is p =
      let v = judged s (kept store) (writes store) in
      subst (λ t. Moved (next_of (v bytes)) (kept store) (writes store) (kept t) (writes t)) (sym (p ∙ ap (λ xs. entry_obeyed after (v xs) store) is))
      (entry_moves s store bytes (v bytes) refl)

  pub spend_kept : (store new : S) (amount : ℕ) → new ≡ spend_obeyed after (spend_judged (kept store) (writes store) amount) store →
      Moved (spend_judged (kept store) (writes store) amount) (kept store) (writes store) (kept new) (writes new)
  spend_kept store new amount p =
      let v = spend_judged (kept store) (writes store) amount in
      subst (λ t. Moved v (kept store) (writes store) (kept t) (writes t)) (sym p) (spend_moves store amount v refl)
