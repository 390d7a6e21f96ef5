-- A list of calls worked out by hand, of a draw and an issue: bench_start, order, drawn_first, issued_first, bench_end; and that all that
-- the law asks for can be met: WorkedRun.
use Rattle.std.specs.Prelude.{[], ◌∷◌, ◌++◌, replicate, codes}
use Rattle.till.specs.Counting.{no_counts}
use Rattle.journal.specs.declared.answers.Answer.TheVariants.{Drawn, Issued}
use Rattle.journal.specs.declared.calls.Call.TheVariants.{Draw, Issue}
use Rattle.journal.specs.Noted.{Line}
use Rattle.journal.specs.declared.calls.Order.{Order}
use Rattle.journal.specs.Law.{Law, Due}
use Rattle.journal.specs.Standings.{World, NewWorld}
use Rattle.worked.specs.Bench.{bench_suite, blank}
use Rattle.worked_sales.specs.Printed.{clear_sale}

-- a new till and a new meter on the bench
abbrev pub bench_start : World
bench_start = record { kept = blank; writes = 4294967295; counts = no_counts; index = 0; hand = [] }

-- 500 in clear, for number 1
abbrev pub order : Order
order = record { number = 1; sale = clear_sale 0 500 }

-- number 1 is drawn, and issued as the slip that the bench enters first
abbrev pub drawn_first : Line
drawn_first = record { call = Draw; answer = Drawn (record { number = 1 }); writes = 4294967295 }

abbrev pub issued_first : Line
issued_first = record {
  call = Issue order;
  answer = Issued (record { slip = codes "73942998757583096280" ++ replicate 60 0; length = 20 });
  writes = 4294967295;
}

-- one draw, one issue, nothing in hand, and the meter as it was
abbrev pub bench_end : World
bench_end = record { kept = blank; writes = 4294967295; counts = record { draws = 1; issues = 1; voids = 0 }; index = 0; hand = [] }

-- Till and meter are new, the law holds over the two lines, and the slip is due: were its digits entered next, it would be taken.
pub record WorkedRun : Type 0 where
  pub new : NewWorld bench_start
  pub law : Law bench_suite bench_start (drawn_first ∷ issued_first ∷ []) bench_end
  pub due : Due bench_suite 0 4294967295 (drawn_first ∷ issued_first ∷ []) (codes "73942998757583096280") order
