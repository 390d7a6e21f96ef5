-- GMAC is an authenticator: gmac_sixteen, a tag is sixteen long; gmac_bytes, and made of bytes.
use Rattle.std.specs.Prelude.{◌≡◌, ℕ, List, length, refl}
use Rattle.std.specs.Int.Digits.{AllBelowBase}
use Rattle.chaining.proofs.Numbers.{bytes_below}
use Rattle.gmac.specs.Gmac.{gmac}
use Rattle.gmac.specs.Authenticating.{gmac_tag}
use Rattle.gmac.specs.declared.state.Gmac.{Gmac}

pub gmac_sixteen : (g : Gmac) (nonce message : List ℕ) → length (gmac_tag g nonce message) ≡ 16
unfolding gmac
gmac_sixteen g nonce message = refl

pub gmac_bytes : (g : Gmac) (nonce message : List ℕ) → AllBelowBase 256 (gmac_tag g nonce message)
unfolding gmac
gmac_bytes g nonce message = bytes_below 16 _
