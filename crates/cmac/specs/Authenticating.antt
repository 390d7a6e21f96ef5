-- CMAC as an authenticator: cmac_for, the one for a key, whatever the meter; mac_key, its key; cmac_tag, the tag of nonce and message
-- put one after the other.
use Rattle.std.specs.Prelude.{ℕ, List, ◌++◌, refl}
use Rattle.aes.specs.Keyed.{aes_for, key_of}
use Rattle.cmac.specs.Cmac.{cmac}
use Rattle.cmac.specs.Subkeys.{subkeys_of}
use Rattle.cmac.specs.declared.state.Cmac.{Cmac}

abbrev pub cmac_for : List ℕ → ℕ → Cmac
cmac_for key meter = record { aes = aes_for key; subkeys = subkeys_of key; kept = refl }

abbrev pub mac_key : Cmac → List ℕ
mac_key c = key_of c.aes

abbrev pub cmac_tag : Cmac → (nonce message : List ℕ) → List ℕ
cmac_tag c nonce message = cmac (mac_key c) (nonce ++ message)
