-- CMAC is an authenticator: cmac_sixteen, a tag is sixteen long; cmac_bytes, and made of bytes.
use Rattle.std.specs.Prelude.{◌≡◌, ℕ, List, length, refl}
use Rattle.std.specs.Int.Digits.{AllBelowBase}
use Rattle.chaining.proofs.Numbers.{bytes_below}
use Rattle.cmac.specs.Cmac.{cmac}
use Rattle.cmac.specs.Authenticating.{cmac_tag}
use Rattle.cmac.specs.declared.state.Cmac.{Cmac}

pub cmac_sixteen : (c : Cmac) (nonce message : List ℕ) → length (cmac_tag c nonce message) ≡ 16
unfolding cmac
cmac_sixteen c nonce message = refl

pub cmac_bytes : (c : Cmac) (nonce message : List ℕ) → AllBelowBase 256 (cmac_tag c nonce message)
unfolding cmac
cmac_bytes c nonce message = bytes_below 16 _
