-- A ledger that is opened keeps the law, and one that notes a call goes on keeping it: opened, continued.
use Rattle.std.proofs.Common.{◌≡◌, ℕ, List, [], ◌∷◌, ◌++◌, sym, subst}
use Rattle.record.specs.declared.Record.{Record}
use Rattle.record.specs.Changes.{NewRecord}
use Rattle.sealing.specs.Suites.{Suite}
use Rattle.meter.specs.declared.answers.Answer.{Answer}
use Rattle.ledger.specs.declared.calls.Call.{Call}
use Rattle.ledger.specs.Noted.{Line}
use Rattle.ledger.specs.Law.{Law}
use Rattle.ledger.specs.Steps.{Performed}
use Rattle.ledger.specs.Ledgers.{line_of}
use Rattle.ledger.proofs.Growing.{law_none}
use Rattle.ledger.proofs.NextCall.{law_more}

pub opened : (s : Suite) (r : Record) (writes : ℕ) (lines : List Line) (closing : Record) (left : ℕ) →
    lines ≡ [] → closing ≡ r → left ≡ writes → NewRecord r → Law s r.credit writes lines closing left
opened s r writes lines closing left none same as_many new =
    subst (λ ls. Law s r.credit writes ls closing left) (sym none)
    (subst (λ x. Law s r.credit writes [] x left) (sym same) (subst (λ k. Law s r.credit writes [] r k) (sym as_many) (law_none s r writes new)))

pub continued : (s t : Suite) (start writes : ℕ) (h lines : List Line) (old : Record) (had : ℕ) (call : Call) (x : Answer) (closing : Record) (left : ℕ) →
    t ≡ s → lines ≡ h ++ line_of call x left ∷ [] → Performed s call x old had closing left → Law s start writes h old had →
    Law t start writes lines closing left
continued s t start writes h lines old had call x closing left same one_more did law =
    subst (λ u. Law u start writes lines closing left) (sym same)
    (subst (λ ls. Law s start writes ls closing left) (sym one_more) (law_more s start writes h old had left law call x closing did))
