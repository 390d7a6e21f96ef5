use Rattle.std.proofs.Common.{ap, ◌∙◌}
use Rattle.ghash.specs.Keyed.{hash_for}
use Rattle.gmac.proofs.GmacAuthenticator.keyed.Goals as goal

pub invariant_of-result : goal.invariant_of-result
invariant_of-result c = record { kept = c.new-hash.ensures ∙ ap hash_for c.apply.ensures }
