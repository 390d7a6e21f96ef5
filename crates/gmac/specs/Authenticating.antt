-- GMAC as an authenticator: gmac_for, the one for a key, whatever the meter; gmac_tag, the tag of nonce and message.
use Rattle.std.specs.Prelude.{ℕ, List, refl}
use Rattle.aes.specs.Keyed.{aes_for, key_of}
use Rattle.ghash.specs.Keyed.{hash_for}
use Rattle.gmac.specs.Gmac.{hash_key, gmac}
use Rattle.gmac.specs.declared.state.Gmac.{Gmac}

abbrev pub gmac_for : List ℕ → ℕ → Gmac
gmac_for key meter = record { aes = aes_for key; hash = hash_for (hash_key key); kept = refl }

abbrev pub gmac_tag : Gmac → (nonce message : List ℕ) → List ℕ
gmac_tag g nonce message = gmac (key_of g.aes) nonce message
