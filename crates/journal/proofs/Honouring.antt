-- A slip that was issued and is due is taken: not_both, entry_answer_lem, honours.
use Rattle.std.proofs.Common.{◌≡◌, ℕ, ◌+◌, true, false, not, ltb, List, [], ◌∷◌, ◌++◌, get_or, take, vec_items, sym, ap, ◌∙◌, subst, append_assoc, arith}
use Rattle.std.proofs.lemmas.Bool.{lt-ltb, le-leb}
use Rattle.refusal.specs.Checks.{Rule, rule, AllKept, FirstBroken}
use Rattle.refusal.specs.declared.Refusal.{Refusal}
use Rattle.window.proofs.Recovery.{stands_for}
use Rattle.sealing.specs.Suites.{Suite, Sound}
use Rattle.entry.specs.Reading.{slip_read}
use Rattle.entry.specs.Rules.{Standing, entry_rules}
use Rattle.meter.specs.declared.answers.Taken as taken
use Rattle.sale.specs.Slips.{slip_text}
use Rattle.sale.specs.declared.orders.Sale.{Sale}
use Rattle.readback.specs.Back.{amount_sold, open_rules, Reads}
use Rattle.readback.proofs.Ruling.{reads_anywhere, slip_digits}
use Rattle.journal.specs.declared.answers.Answer.{Answer}
use Rattle.journal.specs.declared.answers.Answer.TheVariants.{Drawn, Issued, Voided, Taken, Spent, NotInHand, Refused}
use Rattle.journal.specs.declared.answers.Issued as issued
use Rattle.journal.specs.declared.calls.Call.{Call}
use Rattle.journal.specs.declared.calls.Call.TheVariants.{Issue, Enter}
use Rattle.meter.specs.declared.calls.Entry.{Entry}
use Rattle.journal.specs.Noted.{Line}
use Rattle.journal.specs.declared.calls.Order.{Order}
use Rattle.journal.specs.Telling.{Told}
use Rattle.meter.specs.Journals.{AtEach}
use Rattle.journal.specs.Lines.{rates_issued}
use Rattle.journal.specs.Standings.{Desk, standing_after, desk_after}
use Rattle.journal.specs.Law.{call_rules, held_for, EntryTaken, SlipIssued, RightBy, Right, Honoured}

-- no rule is broken where all are kept
broken_among : (before after : List Rule) (e : Refusal) → AllKept (before ++ rule e false ∷ after) → ⊥
broken_among [] after e kept = let k : false ≡ true = kept.0 in let z : ◌≡◌ {A = ℕ} 0 1 = cc in omega arith
broken_among (p ∷ ps) after e kept = broken_among ps after e kept.1

not_both : (rules : List Rule) (e : Refusal) → AllKept rules → FirstBroken rules e → ⊥
not_both rules e kept broken = broken_among broken.before broken.after e (subst AllKept broken.split kept)

module _ (s : Suite) (m : Standing) (d : Desk) (e : Entry) (number : ℕ) (sale : Sale) (reads : Reads s m (vec_items e.text) number sale)
    (kept : AllKept (entry_rules s m (vec_items e.text))) where
  abbrev own : taken.Taken
  own = record { number = number; amount = amount_sold s.settings sale; credit = m.credit + amount_sold s.settings sale }

  -- an entry taken rightly, of a slip that reads so
  taken_own : (t : taken.Taken) (writes : ℕ) → EntryTaken s m (vec_items e.text) t writes → Taken t ≡ Taken own
  taken_own t writes right =
      let text = vec_items e.text in
      let for_it : t.number ≡ number =
      sym (stands_for m.highest (slip_read s text).first.tstn t.number right.number).1 ∙ reads.for_number in
      let values : List ℕ → ℕ → ℕ = λ vs k. get_or vs k 0 in
      let amount : t.amount ≡ amount_sold s.settings sale = ap (λ (x : Told). values x.values 1) right.tells ∙ reads.amount in
      let credit : t.credit ≡ m.credit + amount_sold s.settings sale =
      ap (λ (x : Told). values x.values 2) right.tells ∙ ap (λ a. m.credit + a) reads.amount in
      λ i. Taken (record { number = for_it i; amount = amount i; credit = credit i })

  -- the only right answer
  entry_answer_lem : (c : Call) (x : Answer) (writes : ℕ) → c ≡ Enter e → RightBy s m d c x writes → x ≡ Taken own
  entry_answer_lem c (Drawn a) writes is (other, kept-rules, next, noted) = absurd (let z : ◌≡◌ {A = ℕ} 0 1 = cc in omega arith)
  entry_answer_lem c (Issued i) writes is (o, other, slip, noted) = absurd (let z : ◌≡◌ {A = ℕ} 0 1 = cc in omega arith)
  entry_answer_lem c Voided writes is (v, other, held, noted) = absurd (let z : ◌≡◌ {A = ℕ} 0 1 = cc in omega arith)
  entry_answer_lem c (Taken t) writes is (f, also, right) =
      let same : f ≡ e = cc in
      taken_own t writes (subst (λ (g : Entry). EntryTaken s m (vec_items g.text) t writes) same right)
  entry_answer_lem c (Spent p) writes is (u, other, right) = absurd (let z : ◌≡◌ {A = ℕ} 0 1 = cc in omega arith)
  entry_answer_lem c NotInHand writes is (out, rest) =
      absurd (let k : true ≡ false = sym (ap (held_for d) is) ∙ out in let z : ◌≡◌ {A = ℕ} 0 1 = cc in omega arith)
  entry_answer_lem c (Refused r) writes is (in_hand, broken, noted) =
      absurd (not_both (entry_rules s m (vec_items e.text)) r kept (subst (λ k. FirstBroken (call_rules s m d k) r) is broken))

-- an issue that was answered with a slip was answered rightly
issued_right : (s : Suite) (m : Standing) (d : Desk) (c : Call) (x : Answer) (writes : ℕ) (o : Order) (i : issued.Issued) → c ≡ Issue o → x ≡ Issued i →
    RightBy s m d c x writes → SlipIssued s d o i
issued_right s m d c x writes o i is answered right =
    from (subst (λ y. RightBy s m d c y writes) answered right)
  where
    from : RightBy s m d c (Issued i) writes → SlipIssued s d o i
    from (p, also, slip, noted) = let same : p ≡ o = cc in subst (λ q. SlipIssued s d q i) same slip

pub honours : (s : Suite) → Sound s → (opening writes : ℕ) (lines : List Line) → AtEach (Right s opening writes) lines → AtEach (Honoured s opening writes) lines
honours s sound opening writes lines right before after l split e o is due =
    let m = standing_after s opening writes before in
    let d = desk_after before in
    let text = vec_items e.text in
    let n = o.number in
    let sale = o.sale in
    let index = rates_issued due.earlier in
    let whole : lines ≡ due.earlier ++ due.issue ∷ (due.later ++ l ∷ after) =
    split ∙ ap (λ b. b ++ l ∷ after) due.stands ∙ append_assoc due.earlier (due.issue ∷ due.later) (l ∷ after) in
    let issued = issued_right s (standing_after s opening writes due.earlier) (desk_after due.earlier) due.issue.call due.issue.answer due.issue.writes o due.slip
    due.asked due.answered (right due.earlier (due.later ++ l ∷ after) due.issue whole) in
    let its_own : text ≡ slip_text s n index sale =
    due.digits ∙ (λ i. take (issued.long i) (issued.bytes i)) ∙ slip_digits s sound n index sale issued.rules in
    let reads : Reads s m text n sale =
    subst (λ t. Reads s m t n sale) (sym its_own) (reads_anywhere s sound n index sale issued.rules m due.within due.current) in
    let open_kept : AllKept (open_rules s.settings m n (amount_sold s.settings sale)) =
    (ap (λ k. not (ltb 0 k)) due.uncounted, (le-leb _ _ due.ceiling, (lt-ltb _ _ due.write, tt))) in
    entry_answer_lem s m d e n sale reads (reads.kept open_kept) l.call l.answer l.writes is (right before after l split)
