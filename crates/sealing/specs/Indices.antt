-- The function index, which till and meter each keep: one_for_rates, by how much a slip raises it.
use Rattle.std.specs.Prelude.{ℕ}
use Rattle.token.specs.declared.subclass.SubClass.{SubClass}
use Rattle.token.specs.declared.subclass.SubClass.TheVariants.{Clear, Enciphered, Rates}

-- 1 for a slip with rate prices
abbrev pub one_for_rates : SubClass → ℕ
one_for_rates Clear = 0
one_for_rates Enciphered = 0
one_for_rates Rates = 1
