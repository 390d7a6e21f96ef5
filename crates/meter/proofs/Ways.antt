-- The ways through an entry, over plain values: refused_at, unwritable, taken_at; and a store after a write: done, undone.
use Rattle.std.proofs.Common.{◌≡◌, ℕ, true, false, cond, ltb, List, Ok, Err, Result, sym, ap, ◌∙◌}
use Rattle.refusal.specs.Checks.{provided, and_then}
use Rattle.refusal.specs.declared.Refusal.{Refusal}
use Rattle.refusal.specs.declared.Refusal.TheVariants.{NoWrites}
use Rattle.record.specs.declared.Record.{Record}
use Rattle.sealing.specs.Suites.{Suite}
use Rattle.entry.specs.declared.worth.Worth.{Worth}
use Rattle.entry.specs.Judging.{judged}
use Rattle.entry.specs.Stages.{judged_by}
use Rattle.entry.proofs.Staged.{staged}

module _ (s : Suite) (r : Record) (writes : ℕ) (text : List ℕ) where
  written : Result Worth Refusal → Result Worth Refusal
  written v = and_then v (λ w. provided (ltb 0 writes) NoWrites (Ok w))

  pub refused_at : (e : Refusal) → Err e ≡ judged_by s r text → Err e ≡ judged s r writes text
  unfolding written
  refused_at e p = ap written p ∙ staged s r writes text

  pub unwritable : (w : Worth) → Ok w ≡ judged_by s r text → ltb 0 writes ≡ false → Err NoWrites ≡ judged s r writes text
  unfolding written
  unwritable w p h = ap (λ b. provided b NoWrites (Ok w)) (sym h) ∙ ap written p ∙ staged s r writes text

  pub taken_at : (w : Worth) → Ok w ≡ judged_by s r text → ltb 0 writes ≡ true → Ok w ≡ judged s r writes text
  unfolding written
  taken_at w p h = ap (λ b. provided b NoWrites (Ok w)) (sym h) ∙ ap written p ∙ staged s r writes text

-- a store that was read, then written to: after a write that is done, and after one that is not
module _ {S : Type 0} (writes : S → ℕ) (after : S → Record → S) (s t u : S) (r : Record) where
  pub done : t ≡ s → u ≡ cond (ltb 0 (writes t)) (after t r) t → ltb 0 (writes s) ≡ true → u ≡ after s r
  done e f h = f ∙ ap (λ x. cond (ltb 0 (writes x)) (after x r) x) e ∙ ap (λ b. cond b (after s r) s) h

  pub undone : t ≡ s → u ≡ cond (ltb 0 (writes t)) (after t r) t → ltb 0 (writes s) ≡ false → u ≡ s
  undone e f h = f ∙ ap (λ x. cond (ltb 0 (writes x)) (after x r) x) e ∙ ap (λ b. cond b (after s r) s) h
