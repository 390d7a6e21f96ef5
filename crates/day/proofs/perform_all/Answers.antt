use Rattle.std.proofs.Common.{ℕ, ◌+◌, ◌<◌, List, length, get_or, drop, sym, refl, subst}
use Rattle.std.proofs.lemmas.List.{drop_more, drop_all}
use Rattle.journal.specs.Noted.{Line}
use Rattle.till_ledger.specs.Ledgers.{journal_of}
use Rattle.day.specs.declared.plan.Deed.{Deed}
use Rattle.day.specs.Deeds.{wanted}
use Rattle.day.specs.Days.{Noted, AllNoted}
use Rattle.day.proofs.perform_all.Goals as goal

-- one deed and those after it
noted_more : (deeds : List Deed) (i : ℕ) (d : Deed) (before next end : List Line) → i < length deeds →
    Noted (wanted (get_or deeds i d) before) before next → AllNoted (drop (i + 1) deeds) next end → AllNoted (drop i deeds) before end
noted_more deeds i d before next end h noted rest = subst (λ (ds : List Deed). AllNoted ds before end) (sym (drop_more deeds i d h)) (next, noted, rest)

pub loop-deed-preserved : goal.loop-deed-preserved
loop-deed-preserved c = (
  λ kept. c.perform.ensures.kept (c.loop-deed.invariant.0 kept),
  λ end rest. c.loop-deed.invariant.1 end (noted_more c.args.deeds.now c.loop-deed.deed-index _ (journal_of c.loop-deed.ledger) (journal_of c.perform.new.ledger) end c.loop-deed-test.true c.in_ok-perform.ensures.noted rest),
)

pub returns-clause-noted : goal.returns-clause-noted
returns-clause-noted c =
    let lines = journal_of c.loop-deed.ledger in
    c.loop-deed.invariant.1 lines (subst (λ (ds : List Deed). AllNoted ds lines lines) (sym (drop_all c.loop-deed.deed-index c.args.deeds.now c.loop-deed-test.false)) refl)
