-- A list of calls, worked off one by one: calls_more, calls_all, length_more; hand_long.
use Rattle.std.proofs.Common.{◌≡◌, ℕ, ◌+◌, ◌≤◌, Bool, true, false, List, [], ◌∷◌, ◌++◌, length, Ok, Err, Result, sym, ap, ◌∙◌, append_assoc, arith}
use Rattle.std.proofs.lemmas.List.{append-nil, map_push, length-append}
use Rattle.refusal.specs.declared.Refusal.{Refusal}
use Rattle.sealing.specs.Suites.{Suite}
use Rattle.till.specs.Counting.{drawn}
use Rattle.journal.specs.declared.answers.Answer.{Answer}
use Rattle.journal.specs.declared.answers.Issued.{Issued}
use Rattle.journal.specs.declared.calls.Call.{Call}
use Rattle.journal.specs.declared.calls.Call.TheVariants.{Draw, Issue, Void, Enter, Spend}
use Rattle.journal.specs.declared.calls.Order.{Order}
use Rattle.journal.specs.Hands.{is_in_hand}
use Rattle.journal.specs.Standings.{World}
use Rattle.journal.specs.Steps.{sold, Drew, Sold, Cancelled, Performed}
use Rattle.journal.specs.Noted.{Line}
use Rattle.till_ledger.specs.Ledgers.{line_of, calls_of}

-- the calls noted and the calls left are all calls, when one more is noted
pub calls_more : (journal after : List Line) (call : Call) (x : Answer) (writes : ℕ) (left rest all : List Call) →
    after ≡ journal ++ line_of call x writes ∷ [] → left ≡ call ∷ rest → calls_of journal ++ left ≡ all → calls_of after ++ rest ≡ all
calls_more journal after call x writes left rest all noted next before =
    ap (λ ls. calls_of ls ++ rest) noted
    ∙ ap (λ cs. cs ++ rest) (map_push (λ l. l.call) journal (line_of call x writes))
    ∙ append_assoc (calls_of journal) (call ∷ []) rest
    ∙ ap (λ cs. calls_of journal ++ cs) (sym next)
    ∙ before

-- and when none is left
pub calls_all : (journal : List Line) (left all : List Call) → length left ≡ 0 → calls_of journal ++ left ≡ all → calls_of journal ≡ all
calls_all journal [] all none before = sym (append-nil (calls_of journal)) ∙ before
calls_all journal (c ∷ cs) all none before = absurd (omega (arith, none))

-- the journal is longer by one
pub length_more : (journal after : List Line) (l : Line) → after ≡ journal ++ l ∷ [] → length after ≡ length journal + 1
length_more journal after l noted = ap length noted ∙ length-append journal (l ∷ [])

-- a call adds at most one number to the hand
drew_long : (r : Result ℕ Refusal) (w v : World) → Drew r w v → length v.hand ≤ length w.hand + 1
drew_long (Ok n) w v (counts, index, gains) = omega (arith, gains.long)
drew_long (Err e) w v same = omega (arith, ap length same.hand)

sold_long : (b : Bool) (r : Result Issued Refusal) (o : Order) (w v : World) → Sold b r o w v → length v.hand ≤ length w.hand + 1
sold_long false r o w v same = omega (arith, ap length same.hand)
sold_long true (Ok i) o w v (counts, index, gains) = omega (arith, gains.long)
sold_long true (Err e) o w v (counts, index, same) = omega (arith, same.long)

cancelled_long : (b : Bool) (n : ℕ) (w v : World) → Cancelled b n w v → length v.hand ≤ length w.hand + 1
cancelled_long false n w v same = omega (arith, ap length same.hand)
cancelled_long true n w v (counts, index, gains) = omega (arith, gains.long)

pub hand_long : (t s : Suite) (c : Call) (x : Answer) (w v : World) → Performed t s c x w v → length v.hand ≤ length w.hand + 1
hand_long t s Draw x w v (is, same, moved) = drew_long (drawn w.counts.draws) w v moved
hand_long t s (Issue o) x w v (is, same, moved) = sold_long (is_in_hand o.number w.hand) (sold t w.index o) o w v moved
hand_long t s (Void c) x w v (is, same, moved) = cancelled_long (is_in_hand c.number w.hand) c.number w v moved
hand_long t s (Enter e) x w v (is, same, moved) = omega (arith, ap length same.hand)
hand_long t s (Spend u) x w v (is, same, moved) = omega (arith, ap length same.hand)
