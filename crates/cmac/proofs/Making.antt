-- A value with a key and the subkeys kept for it is the one that the key makes.
use Rattle.std.proofs.Common.{◌≡◌, ℕ, List, sym, refl, ap, ◌∙◌}
use mathlib.Core.Path.{Cosingl, contract'}
use Rattle.aes.specs.Keyed.{aes_for, key_of}
use Rattle.aes.specs.declared.state.Aes128.{Aes128}
use Rattle.cmac.specs.Subkeys.{subkeys_of}
use Rattle.cmac.specs.Authenticating.{cmac_for}
use Rattle.cmac.specs.declared.subkeys.Subkeys.{Subkeys}
use Rattle.cmac.specs.declared.state.Cmac.{Cmac}

pub made : (key : List ℕ) (meter : ℕ) (a : Aes128) (s : Subkeys) (e : s ≡ subkeys_of (key_of a)) → a ≡ aes_for key
    → ◌≡◌ {A = Cmac} (record { aes = a; subkeys = s; kept = e }) (cmac_for key meter)
made key meter a s e p =
    sym (ap (λ (t : Cosingl (subkeys_of (key_of a))). record { aes = a; subkeys = t.0; kept = t.1 }) (contract' e))
    ∙ ap (λ (b : Aes128). record { aes = b; subkeys = subkeys_of (key_of b); kept = refl }) p
