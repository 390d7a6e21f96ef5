-- AES-128 for a key: aes_for, and key_of, the key that it is for.
use Rattle.std.specs.Prelude.{ℕ, List, refl}
use Rattle.aes.specs.Expansion.{expanded}
use Rattle.aes.specs.declared.state.Aes128.{Aes128}

abbrev pub aes_for : List ℕ → Aes128
aes_for key = record { key = key; round_keys = expanded key; kept = refl }

abbrev pub key_of : Aes128 → List ℕ
key_of a = a.key
