use Rattle.std.proofs.Common.{◌≡◌, length, vec_items, ap, ◌∙◌}
use Rattle.store.specs.Plain.{plain_kept}
use Rattle.till_ledger.specs.Ledgers.{journal_of}
use Rattle.day.specs.Balances.{balance_of, agreeing}
use Rattle.day.specs.Days.{DayLedger}
use Rattle.day.proofs.Agreement.{kept_agrees}
use Rattle.day.proofs.sum_up.Goals as goal

pub returns-clause-agrees : goal.returns-clause-agrees
returns-clause-agrees c =
    let l = c.args.ledger.now in
    let same : c.credit-credit.new.self ≡ l = c.credit-credit.ensures.same in
    let credit : c.credit-credit.result ≡ (plain_kept l.meter.parts.store).credit = c.credit-credit.ensures.value in
    let sums : c.balance-balance.result ≡ balance_of (journal_of l) =
    c.balance-balance.ensures.value ∙ ap balance_of (c.lines.ensures ∙ ap journal_of same) in
    let counts : c.counts-counts.result ≡ l.till.counts = c.counts-counts.ensures ∙ ap (λ (d : DayLedger). d.till.counts) same in
    let held : length c.hand-in_hand.result.now ≡ length (vec_items l.hand) =
    ap length (c.hand-in_hand.ensures ∙ ap (λ (d : DayLedger). vec_items d.hand) same) in
    let agrees : c.agree-agrees.result ≡ agreeing c.args.opened (plain_kept l.meter.parts.store).credit l.till.counts (length (vec_items l.hand)) (balance_of (journal_of l)) =
    c.agree-agrees.ensures ∙ (λ i. agreeing c.args.opened (credit i) (counts i) (held i) (sums i)) in
    λ kept none. agrees ∙ kept_agrees l c.args.opened kept none
