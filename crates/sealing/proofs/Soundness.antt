-- What a sealer means is sound, by the laws of its cipher and its authenticator: sound_of.
use Rattle.std.proofs.Common.{◌≡◌, ℕ, ◌^◌, ◌<◌, List, length}
use Rattle.std.specs.Int.Digits.{AllBelowBase}
use Rattle.cipher.specs.Widths.{bits}
use Rattle.cipher.specs.declared.width.Width.{Width}
use Rattle.sealing.specs.Suites.{Sound, suite_of}
use Rattle.sealing.specs.declared.sealer.Sealer.{Sealer}

pub sound_of : {C A : Type 0} (enciphered deciphered : C → Width → ℕ → ℕ) (tagged : A → List ℕ → List ℕ → List ℕ) →
    ((c : C) (w : Width) (n : ℕ) → n < 2 ^ bits w → enciphered c w n < 2 ^ bits w) →
    ((c : C) (w : Width) (n : ℕ) → n < 2 ^ bits w → deciphered c w (enciphered c w n) ≡ n) →
    ((a : A) (nonce message : List ℕ) → length (tagged a nonce message) ≡ 16) →
    ((a : A) (nonce message : List ℕ) → AllBelowBase 256 (tagged a nonce message)) →
    (s : Sealer C A) → Sound (suite_of enciphered deciphered tagged s)
sound_of enciphered deciphered tagged below undone sixteen bytes s = record {
  below = below s.cipher;
  undone = undone s.cipher;
  sixteen = sixteen s.authenticator;
  bytes = bytes s.authenticator;
}
