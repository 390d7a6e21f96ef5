-- A till's counts: no_counts, of a new till; draw_rules, drawn, what a draw asks and comes to; one_more; after_draw, after_issue, after_void,
-- the counts after a call that is performed, and after a draw that is refused.
use Rattle.std.specs.Prelude.{ℕ, ◌+◌, min, cond, List, [], ◌∷◌, Ok, Result, nat_lt}
use Rattle.refusal.specs.Checks.{Rule, rule, checked}
use Rattle.refusal.specs.declared.Refusal.{Refusal}
use Rattle.refusal.specs.declared.Refusal.TheVariants.{NoMoreNumbers}
use Rattle.till.specs.declared.counts.Counts.{Counts}

abbrev pub no_counts : Counts
no_counts = record { draws = 0; issues = 0; voids = 0 }

-- one more, up to 4,294,967,295
abbrev pub one_more : ℕ → ℕ
one_more n = min (n + 1) 4294967295

-- the rule of a draw after so many: not every number of 32 bits was drawn
abbrev pub draw_rules : ℕ → List Rule
draw_rules draws = rule NoMoreNumbers (nat_lt draws 4294967295) ∷ []

-- what a draw comes to after so many: numbers are drawn in their order, from 1 on
unfoldable pub drawn : ℕ → Result ℕ Refusal
drawn draws = checked (draw_rules draws) (Ok (draws + 1))

-- a draw that is refused is not counted
abbrev pub after_draw : Counts → Counts
after_draw c = cond (nat_lt c.draws 4294967295) (record { draws = c.draws + 1; issues = c.issues; voids = c.voids }) c

abbrev pub after_issue : Counts → Counts
after_issue c = record { draws = c.draws; issues = one_more c.issues; voids = c.voids }

abbrev pub after_void : Counts → Counts
after_void c = record { draws = c.draws; issues = c.issues; voids = one_more c.voids }
