-- A ledger that keeps the law agrees with its journal: answers that are right tell the amounts of the law, taken_right and
-- spent_right; total_same; kept_agrees.
use Rattle.std.proofs.Common.{◌≡◌, ℕ, Bool, true, ◌&&◌, List, [], ◌∷◌, length, get_or, vec_items, sym, refl, ap, ◌∙◌, subst, arith, eq-eqb}
use Rattle.std.proofs.lemmas.List.Sums.{sum_by-cons}
use Rattle.cipher.specs.Clearing.{as_is}
use Rattle.authenticator.specs.Sum.{byte_sum}
use Rattle.sealing.specs.Suites.{Suite, suite}
use Rattle.sealing.specs.declared.settings.Settings.{Settings}
use Rattle.entry.specs.Reading.{amount_read}
use Rattle.entry.specs.Rules.{Standing}
use Rattle.store.specs.Plain.{plain_kept, plain_writes}
use Rattle.meter.specs.Meters.{suite_at}
use Rattle.journal.specs.Telling.{Told}
use Rattle.meter.specs.Journals.{total, AtEach}
use Rattle.journal.specs.Lines.{effect, effect_of, text_of, amount_named}
use Rattle.journal.specs.Standings.{Desk}
use Rattle.journal.specs.Law.{RightBy, Law}
use Rattle.journal.specs.declared.answers.Answer.{Answer}
use Rattle.journal.specs.declared.answers.Answer.TheVariants.{Drawn, Issued, Voided, Taken, Spent, NotInHand, Refused}
use Rattle.journal.specs.declared.calls.Call.{Call}
use Rattle.journal.specs.Noted.{Line}
use Rattle.till_ledger.specs.Ledgers.{journal_of, start_of, world_at}
use Rattle.day.specs.Balances.{amount_taken, amount_spent, balance_of, agreeing}
use Rattle.day.specs.Days.{DayLedger, Kept}

taken_right : (s : Suite) (m : Standing) (d : Desk) (c : Call) (x : Answer) (writes : ℕ) → RightBy s m d c x writes → amount_taken x ≡ (effect_of s c x).added
taken_right s m d c (Drawn a) writes r = refl
taken_right s m d c (Issued i) writes r = refl
taken_right s m d c Voided writes r = refl
taken_right s m d c (Taken t) writes r =
    ap (λ (told : Told). get_or told.values 1 0) r.2.tells ∙ ap (λ (call : Call). amount_read s (text_of call)) (sym r.1)
taken_right s m d c (Spent p) writes r = refl
taken_right s m d c NotInHand writes r = refl
taken_right s m d c (Refused e) writes r = refl

spent_right : (s : Suite) (m : Standing) (d : Desk) (c : Call) (x : Answer) (writes : ℕ) → RightBy s m d c x writes → amount_spent x ≡ (effect_of s c x).subtracted
spent_right s m d c (Drawn a) writes r = refl
spent_right s m d c (Issued i) writes r = refl
spent_right s m d c Voided writes r = refl
spent_right s m d c (Taken t) writes r = refl
spent_right s m d c (Spent p) writes r =
    ap (λ (told : Told). get_or told.values 0 0) r.2.tells ∙ ap amount_named (sym r.1)
spent_right s m d c NotInHand writes r = refl
spent_right s m d c (Refused e) writes r = refl

-- what is the same on each line is the same in all
total_same : (f g : Line → ℕ) (lines : List Line) → AtEach (λ before l. f l ≡ g l) lines → total f lines ≡ total g lines
total_same f g [] each = refl
total_same f g (l ∷ ls) each =
    let here : f l ≡ g l = each [] ls l refl in
    let rest : total f ls ≡ total g ls = total_same f g ls (λ before after x e. each (l ∷ before) after x (ap (λ (xs : List Line). l ∷ xs) e)) in
    omega (arith, sum_by-cons f l ls, sum_by-cons g l ls)

both : (a b : Bool) → a ≡ true → b ≡ true → (a && b) ≡ true
both a b p q = subst (λ (x : Bool). (x && b) ≡ true) (sym p) q

lawful_agrees : (l : DayLedger) (opened : ℕ) → opened ≡ (start_of l).kept.credit →
    Law (suite_at as_is as_is byte_sum l.meter) (start_of l) (journal_of l) (world_at plain_kept plain_writes l) →
    agreeing opened (plain_kept l.meter.parts.store).credit l.till.counts (length (vec_items l.hand)) (balance_of (journal_of l)) ≡ true
lawful_agrees l opened e law =
    let s = suite_at as_is as_is byte_sum l.meter in
    let lines = journal_of l in
    let taken : total (λ x. amount_taken x.answer) lines ≡ total (λ x. (effect s x).added) lines =
    total_same (λ x. amount_taken x.answer) (λ x. (effect s x).added) lines (λ before after x split. taken_right s _ _ x.call x.answer x.writes (law.right before after x split)) in
    let spent : total (λ x. amount_spent x.answer) lines ≡ total (λ x. (effect s x).subtracted) lines =
    total_same (λ x. amount_spent x.answer) (λ x. (effect s x).subtracted) lines (λ before after x split. spent_right s _ _ x.call x.answer x.writes (law.right before after x split)) in
    both _ _ (eq-eqb _ _ (omega (arith, law.credit)))
    (both _ _ (both _ _ (eq-eqb _ _ law.numbers.drawn_count) (both _ _ (eq-eqb _ _ law.numbers.issued_count) (eq-eqb _ _ law.numbers.voided_count)))
    (eq-eqb _ _ law.numbers.balance))

pub kept_agrees : (l : DayLedger) (opened : ℕ) → Kept l → opened ≡ 0 →
    agreeing opened (plain_kept l.meter.parts.store).credit l.till.counts (length (vec_items l.hand)) (balance_of (journal_of l)) ≡ true
kept_agrees l opened k e =
    lawful_agrees l opened (e ∙ sym k.opening) (k.lawful k.fresh (ap (λ (x : Settings). suite x (as_is l.till.sealer.cipher) (as_is l.till.sealer.cipher) (byte_sum l.till.sealer.authenticator)) (k.till ∙ sym k.meter)))
