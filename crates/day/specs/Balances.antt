-- The balance of a journal: amount_taken, amount_spent, of one line; share_of; balance_of; Small; agreeing, whether credit, counts and hand are
-- those of a balance.
use Rattle.std.specs.Prelude.{ℕ, ◌+◌, ◌^◌, ◌<◌, Bool, ◌&&◌, List, ◌==◌}
use Rattle.till.specs.declared.counts.Counts.{Counts}
use Rattle.meter.specs.Journals.{total}
use Rattle.journal.specs.Lines.{deal, how_many, draws, issues, voids}
use Rattle.journal.specs.declared.answers.Answer.{Answer}
use Rattle.journal.specs.declared.answers.Answer.TheVariants.{Drawn, Issued, Voided, Taken, Spent, NotInHand, Refused}
use Rattle.journal.specs.Noted.{Line}
use Rattle.day.specs.declared.sums.Balance.{Balance}
use Rattle.day.specs.declared.sums.Share.{Share}

-- the amount of an entry that was answered as taken
abbrev pub amount_taken : Answer → ℕ
amount_taken (Drawn d) = 0
amount_taken (Issued i) = 0
amount_taken Voided = 0
amount_taken (Taken t) = t.amount
amount_taken (Spent p) = 0
amount_taken NotInHand = 0
amount_taken (Refused e) = 0

-- the amount of a spend that was answered as performed
abbrev pub amount_spent : Answer → ℕ
amount_spent (Drawn d) = 0
amount_spent (Issued i) = 0
amount_spent Voided = 0
amount_spent (Taken t) = 0
amount_spent (Spent p) = p.amount
amount_spent NotInHand = 0
amount_spent (Refused e) = 0

-- what one line adds to each sum
abbrev pub share_of : Line → Share
share_of l = record {
  taken = amount_taken l.answer;
  spent = amount_spent l.answer;
  draws = how_many (deal l).drawn;
  issues = how_many (deal l).issued;
  voids = how_many (deal l).voided;
}

-- the sums over a journal
abbrev pub balance_of : List Line → Balance
balance_of lines = record {
  taken = total (λ l. amount_taken l.answer) lines;
  spent = total (λ l. amount_spent l.answer) lines;
  draws = draws lines;
  issues = issues lines;
  voids = voids lines;
}

-- sums that leave room in 128 bits
pub record Small (b : Balance) : Type 0 where
  pub taken : b.taken < 2 ^ 96
  pub spent : b.spent < 2 ^ 96
  pub draws : b.draws < 2 ^ 96
  pub issues : b.issues < 2 ^ 96
  pub voids : b.voids < 2 ^ 96

-- the credit is what it opened with and what was taken, less what was spent; the counts are those of the balance; and each number
-- drawn was issued or voided or is in hand
abbrev pub agreeing : ℕ → ℕ → Counts → ℕ → Balance → Bool
agreeing opened credit counts held b =
    (credit + b.spent == opened + b.taken)
    && ((counts.draws == b.draws && (counts.issues == b.issues && counts.voids == b.voids))
    && b.draws == b.issues + b.voids + held)
