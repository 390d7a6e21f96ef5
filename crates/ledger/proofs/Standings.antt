-- A meter stands as its journal says: number_from, Agree, agree, entry_same, spend_same.
use Rattle.std.proofs.Common.{◌≡◌, ℕ, ◌≤◌, Bool, List, ap, ◌∙◌, arith}
use Rattle.refusal.specs.Checks.{Rule}
use Rattle.window.specs.Recovery.{lowest, number_for}
use Rattle.record.specs.declared.Record.{Record}
use Rattle.sealing.specs.Suites.{Suite}
use Rattle.entry.specs.Reading.{slip_read}
use Rattle.entry.specs.Rules.{Standing, standing, number_in, entry_rules}
use Rattle.meter.specs.Answering.{spend_rules}
use Rattle.ledger.specs.Journal.{standing_after}
use Rattle.ledger.specs.Law.{Law}
use Rattle.ledger.specs.Noted.{Line}

-- the number that ten bits stand for never lies below the window
pub number_from : (highest low : ℕ) → lowest highest ≤ number_for highest low
unfolding number_for
number_from highest low = omega arith

-- two standings that the rules cannot tell apart
pub record Agree (m k : Standing) : Type 0 where
  pub credit : m.credit ≡ k.credit
  pub highest : m.highest ≡ k.highest
  pub counted : (n : ℕ) → lowest m.highest ≤ n → m.counted n ≡ k.counted n
  pub index : m.index ≡ k.index
  pub writes : m.writes ≡ k.writes

-- the record stands as the journal says
pub agree : (s : Suite) (opening writes : ℕ) (lines : List Line) (r : Record) (left : ℕ) → Law s opening writes lines r left →
    Agree (standing r left) (standing_after s opening writes lines)
agree s opening writes lines r left l = record {
  credit = omega (arith, l.credit);
  highest = l.highest;
  counted = l.marks;
  index = l.index;
  writes = l.store;
}

-- the rules of an entry, from their values
with_values : Suite → List ℕ → ℕ → ℕ → Bool → ℕ → ℕ → List Rule
with_values s text credit highest marked index writes =
    entry_rules s (record { credit = credit; highest = highest; counted = λ _. marked; index = index; writes = writes }) text

pub entry_same : (s : Suite) (m k : Standing) (text : List ℕ) → Agree m k → entry_rules s m text ≡ entry_rules s k text
unfolding with_values
entry_same s m k text a =
    let slip = slip_read s text in
    let here : m.counted (number_in m slip) ≡ k.counted (number_in m slip) = a.counted (number_in m slip) (number_from m.highest slip.first.tstn) in
    let there : k.counted (number_in m slip) ≡ k.counted (number_in k slip) = ap (λ h. k.counted (number_for h slip.first.tstn)) a.highest in
    λ i. with_values s text (a.credit i) (a.highest i) ((here ∙ there) i) (a.index i) (a.writes i)

pub spend_same : (m k : Standing) (amount : ℕ) → Agree m k → spend_rules m amount ≡ spend_rules k amount
spend_same m k amount a = λ i. spend_rules (record { credit = a.credit i; highest = 0; counted = m.counted; index = 0; writes = a.writes i }) amount
