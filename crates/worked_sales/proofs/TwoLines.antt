-- The worked list of calls, step by step: bench_sound, worked.
use Rattle.std.proofs.Common.{◌≡◌, List, [], ◌∷◌, refl, inl, arith, lit<, lit≤, rules}
use Rattle.decimal.specs.Digits.{padded}
use Rattle.decimal.specs.CheckDigits.{product, mapped, passes, running, whole, check_digit}
use Rattle.decimal.specs.Slips.{groups_after, text_of}
use Rattle.authenticator.specs.Sum.{byte_sum}
use Rattle.sealing.specs.Messages.{nonce, head, message, tag_field}
use Rattle.sealing.specs.Suites.{Sound}
use Rattle.sale.specs.Sales.{salable}
use Rattle.sale.specs.Slips.{tag_sold, sealed_blocks}
use Rattle.till.specs.Counting.{drawn}
use Rattle.till.specs.declared.drawn.DrawnNumber.{DrawnNumber}
use Rattle.journal.specs.Hands.{Gains}
use Rattle.journal.specs.Standings.{World, NewWorld}
use Rattle.journal.specs.Steps.{sold, Performed}
use Rattle.journal.specs.declared.calls.Call.TheVariants.{Draw, Issue}
use Rattle.journal.proofs.Keeping.{opened, continued}
use Rattle.worked.specs.Bench.{bench_suite, blank}
use Rattle.worked_sales.specs.Run.{bench_start, order, drawn_first, issued_first, bench_end, WorkedRun}

-- the bench's cipher and authenticator have their laws
bench_sound : Sound bench_suite
unfolding byte_sum
bench_sound = record {
  below = λ w n small. small;
  undone = λ w n small. refl;
  sixteen = λ x m. search rules;
  bytes = λ x m. search rules;
}

-- number 1
abbrev first : DrawnNumber
first = record { number = 1 }

-- after the draw
abbrev between : World
between = record { kept = blank; writes = 4294967295; counts = record { draws = 1; issues = 0; voids = 0 }; index = 0; hand = first ∷ [] }

in_hand_then : (none : List DrawnNumber) → none ≡ [] → Gains 1 none (first ∷ [])
in_hand_then none e = rw e (record { long = refl; each = λ k. omega arith })

new : NewWorld bench_start
new = record { meter = refl; counts = refl; index = refl; hand = refl }

did_draw : Performed bench_suite bench_suite Draw drawn_first.answer bench_start between
unfolding drawn
did_draw = (refl, record { kept = refl; writes = refl }, (refl, refl, in_hand_then [] refl))

did_issue : Performed bench_suite bench_suite (Issue order) issued_first.answer between bench_end
unfolding sold salable tag_sold sealed_blocks tag_field nonce head message byte_sum groups_after text_of padded product mapped passes running whole check_digit
did_issue = (refl, record { kept = refl; writes = refl }, (refl, refl, in_hand_then [] refl))

pub worked : WorkedRun
worked = record {
  new = new;
  law =
      continued bench_suite bench_suite bench_suite bench_suite bench_sound bench_start (drawn_first ∷ []) (drawn_first ∷ issued_first ∷ []) between bench_end (Issue order) issued_first.answer refl refl refl did_issue
      (continued bench_suite bench_suite bench_suite bench_suite bench_sound bench_start [] (drawn_first ∷ []) bench_start between Draw drawn_first.answer refl refl refl did_draw
      (opened bench_suite bench_suite bench_sound bench_start bench_start [] refl refl))
      new refl;
  due = record {
    earlier = drawn_first ∷ [];
    issue = issued_first;
    later = [];
    slip = record { slip = _; length = 20 };
    stands = refl;
    asked = refl;
    answered = refl;
    digits = refl;
    uncounted = refl;
    within = refl;
    current = inl refl;
    ceiling = lit≤ tt;
    write = lit< tt;
  };
}
