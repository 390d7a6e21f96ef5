use Rattle.std.proofs.Common.{ℕ, ◌+◌, ◌%◌, ap, ◌∙◌}
use native.Mathlib.Nat.{add-mod-mod}
use Rattle.ff1.proofs.network.add.Goals as goal

pub returns-clause-value : goal.returns-clause-value
returns-clause-value c = ap (λ (m : ℕ). (c.args.a + c.args.y % m) % c.args.m) c.from.ensures ∙ add-mod-mod c.args.a c.args.y c.args.m
