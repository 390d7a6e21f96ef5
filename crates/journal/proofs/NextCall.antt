-- One call more: core_none, core_more.
use Rattle.std.proofs.Common.{◌≡◌, ℕ, Bool, true, false, cond, List, [], ◌∷◌, ◌++◌, length, Ok, Err, vec_items, Result, refl, ap, ◌∙◌}
use Rattle.refusal.specs.declared.Refusal.{Refusal}
use Rattle.sealing.specs.Suites.{Suite}
use Rattle.entry.specs.Judging.{judged}
use Rattle.meter.specs.Answering.{taking, spend_judged, spending}
use Rattle.meter.specs.declared.answers.Taken.{Taken}
use Rattle.meter.specs.declared.answers.Spent.{Spent}
use Rattle.till.specs.Counting.{drawn}
use Rattle.journal.specs.declared.answers.Answer.{Answer}
use Rattle.journal.specs.declared.answers.Answer.TheVariants as answer
use Rattle.journal.specs.declared.answers.Issued.{Issued}
use Rattle.journal.specs.declared.calls.Call.{Call}
use Rattle.journal.specs.declared.calls.Call.TheVariants.{Draw, Issue, Void, Enter, Spend}
use Rattle.journal.specs.Noted.{Line}
use Rattle.journal.specs.Hands.{held, is_in_hand}
use Rattle.meter.specs.Journals.{nothing, writes_after}
use Rattle.journal.specs.Lines.{effect_of, effect, deal_of, deal, idle}
use Rattle.journal.specs.Standings.{World, NewWorld}
use Rattle.journal.specs.Law.{Right}
use Rattle.journal.specs.Steps.{entry_answer, spend_answer, draw_answer, sold, issue_answer, SameMeter, SameDesk, Performed}
use Rattle.journal.proofs.Accounts.{Core}
use Rattle.meter.proofs.Splits.{at_each_none, at_each_push}
use Rattle.journal.proofs.Growing.{Step, Dealt, grow, rests, account_none, till_grow, still, till_none}
use Rattle.journal.proofs.AtMeter.{StepsTo, entry_steps, spend_steps}
use Rattle.journal.proofs.AtTill.{Deals-to, draw_deals, issue_deals, void_deals}

-- what is answered at one side does nothing at the other
entry_idle : (c : Call) (r : Result Taken Refusal) → deal_of c (entry_answer r) ≡ idle
entry_idle c (Ok t) = refl
entry_idle c (Err e) = refl

spend_idle : (c : Call) (r : Result Spent Refusal) → deal_of c (spend_answer r) ≡ idle
spend_idle c (Ok p) = refl
spend_idle c (Err e) = refl

draw_nothing : (s : Suite) (c : Call) (r : Result ℕ Refusal) → effect_of s c (draw_answer r) ≡ nothing
draw_nothing s c (Ok n) = refl
draw_nothing s c (Err e) = refl

issue_nothing : (s : Suite) (c : Call) (b : Bool) (r : Result Issued Refusal) → effect_of s c (cond b (issue_answer r) answer.NotInHand) ≡ nothing
issue_nothing s c false r = refl
issue_nothing s c true (Ok i) = refl
issue_nothing s c true (Err e) = refl

void_nothing : (s : Suite) (c : Call) (b : Bool) → effect_of s c (cond b answer.Voided answer.NotInHand) ≡ nothing
void_nothing s c false = refl
void_nothing s c true = refl

-- before the first call
pub core_none : (s : Suite) (w : World) → NewWorld w → Core s w [] w
core_none s w new = record {
  meter = account_none s w.kept w.writes new.meter;
  till = till_none w.counts w.index w.hand new.counts new.index new.hand;
  right = at_each_none (Right s w.kept.credit w.writes);
}

module _ (s : Suite) (start : World) (h : List Line) (w v : World) (core : Core s start h w) where
  abbrev line : Call → Answer → Line
  line c x = record { call = c; answer = x; writes = v.writes }

  -- one line more, by what it changes at both sides
  more : (c : Call) (x : Answer) → Step s h w.kept (line c x) v.kept v.writes → Dealt h w.counts w.index w.hand (line c x) v.counts v.index v.hand →
      Right s start.kept.credit start.writes h (line c x) → Core s start (h ++ line c x ∷ []) v
  more c x step dealt right = record {
    meter = grow s start.kept.credit start.writes h w.kept w.writes (line c x) v.kept v.writes core.meter step;
    till = till_grow h w.counts w.index w.hand (line c x) v.counts v.index v.hand core.till dealt;
    right = at_each_push (Right s start.kept.credit start.writes) h (line c x) core.right right;
  }

  at_meter : (c : Call) (x : Answer) → deal (line c x) ≡ idle → SameDesk w v →
      StepsTo s start.kept.credit start.writes h w.kept w.writes v.writes core.meter c x v.kept → Core s start (h ++ line c x ∷ []) v
  at_meter c x none same steps =
      more c x steps.step
      (still h w.counts w.index w.hand (line c x) v.counts v.index v.hand core.till none same.counts same.index
      (record { long = ap length same.hand; each = λ k. ap (held k) same.hand }))
      steps.right

  noted : SameMeter w v → v.writes ≡ writes_after start.writes h
  noted same = same.writes ∙ core.meter.store

  at_till : (c : Call) (x : Answer) → effect s (line c x) ≡ nothing → (same : SameMeter w v) →
      Deals-to s start.kept.credit start.writes h v.writes (noted same) w v core.till c x → Core s start (h ++ line c x ∷ []) v
  at_till c x none same deals =
      more c x (rests s start.kept.credit start.writes h w.kept w.writes (line c x) v.kept v.writes core.meter none same.kept refl)
      deals.dealt deals.right

  pub core_more : (c : Call) (x : Answer) → Performed s s c x w v → Core s start (h ++ line c x ∷ []) v
  core_more Draw x (is, same, moved) =
      at_till Draw x (ap (effect_of s Draw) is ∙ draw_nothing s Draw (drawn w.counts.draws)) same
      (draw_deals s start.kept.credit start.writes h v.writes (noted same) w v core.till x is moved)
  core_more (Issue o) x (is, same, moved) =
      at_till (Issue o) x (ap (effect_of s (Issue o)) is ∙ issue_nothing s (Issue o) (is_in_hand o.number w.hand) (sold s w.index o)) same
      (issue_deals s start.kept.credit start.writes h v.writes (noted same) w v core.till o x is moved)
  core_more (Void c) x (is, same, moved) =
      at_till (Void c) x (ap (effect_of s (Void c)) is ∙ void_nothing s (Void c) (is_in_hand c.number w.hand)) same
      (void_deals s start.kept.credit start.writes h v.writes (noted same) w v core.till c x is moved)
  core_more (Enter e) x (is, same, moved) =
      at_meter (Enter e) x (ap (deal_of (Enter e)) is ∙ entry_idle (Enter e) (taking (judged s w.kept w.writes (vec_items e.text)))) same
      (entry_steps s start.kept.credit start.writes h w.kept w.writes v.writes core.meter e x v.kept is moved)
  core_more (Spend u) x (is, same, moved) =
      at_meter (Spend u) x (ap (deal_of (Spend u)) is ∙ spend_idle (Spend u) (spending u.amount (spend_judged w.kept w.writes u.amount))) same
      (spend_steps s start.kept.credit start.writes h w.kept w.writes v.writes core.meter u x v.kept is moved)
