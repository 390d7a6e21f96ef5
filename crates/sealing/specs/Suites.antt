-- What a till and its meter agree on: settings_of, the settings that values give; Suite, settings with the meanings of cipher and
-- authenticator, suite, one of its parts, suite_of, what a sealer means, and Sound, what these meanings keep; sealer_of, with_cipher
-- and with_authenticator, sealers made from parts and from sealers; multiplier_of and amount_of, what an amount code is worth.
use Rattle.std.specs.Prelude.{◌≡◌, ℕ, ◌*◌, ◌^◌, ◌<◌, List, length, Result, slice_index}
use Rattle.std.specs.Int.Digits.{AllBelowBase}
use Rattle.refusal.specs.Checks.{found}
use Rattle.refusal.specs.declared.Refusal.{Refusal}
use Rattle.refusal.specs.declared.Refusal.TheVariants as no
use Rattle.cipher.specs.Widths.{bits}
use Rattle.cipher.specs.declared.width.Width.{Width}
use Rattle.refusal.specs.Making.{where_so}
use Rattle.sealing.specs.Limits.{allowed}
use Rattle.sealing.specs.declared.settings.SettingValues.{SettingValues}
use Rattle.sealing.specs.declared.settings.Settings.{Settings}
use Rattle.sealing.specs.declared.sealer.Sealer.{Sealer}

-- the settings of these values, where they are allowed
abbrev pub settings_of : SettingValues → Result Settings Refusal
settings_of v =
    found (where_so (allowed v.multipliers v.ceiling) (λ p. record {
      supplier = v.supplier;
      meter = v.meter;
      multipliers = v.multipliers;
      ceiling = v.ceiling;
      ok = p;
    })) no.Settings

-- the settings, and what the cipher and the authenticator mean
pub record Suite : Type 0 where
  pub settings : Settings
  pub enciphered : Width → ℕ → ℕ
  pub deciphered : Width → ℕ → ℕ
  pub tagged : List ℕ → List ℕ → List ℕ

abbrev pub suite : Settings → (Width → ℕ → ℕ) → (Width → ℕ → ℕ) → (List ℕ → List ℕ → List ℕ) → Suite
suite settings enciphered deciphered tagged = record { settings = settings; enciphered = enciphered; deciphered = deciphered; tagged = tagged }

-- what the settings, the cipher and the authenticator of a sealer mean, by the meanings of their kinds
abbrev pub suite_of : {C A : Type 0} → (C → Width → ℕ → ℕ) → (C → Width → ℕ → ℕ) → (A → List ℕ → List ℕ → List ℕ) → Sealer C A → Suite
suite_of enciphered deciphered tagged s = suite s.settings (enciphered s.cipher) (deciphered s.cipher) (tagged s.authenticator)

-- a sealer of these parts
abbrev pub sealer_of : {C A : Type 0} → Settings → C → A → Sealer C A
sealer_of settings cipher authenticator = record { settings = settings; cipher = cipher; authenticator = authenticator }

-- the same sealer with another cipher
abbrev pub with_cipher : {C A : Type 0} → Sealer C A → C → Sealer C A
with_cipher s cipher = sealer_of s.settings cipher s.authenticator

-- the same sealer with another authenticator
abbrev pub with_authenticator : {C A : Type 0} → Sealer C A → A → Sealer C A
with_authenticator s authenticator = sealer_of s.settings s.cipher authenticator

-- Enciphering stays below 2 to the width, and deciphering undoes it; a tag is sixteen bytes. Whatever is a cipher and an
-- authenticator has this among its laws.
pub record Sound (s : Suite) : Type 0 where
  pub below : (w : Width) (n : ℕ) → n < 2 ^ bits w → s.enciphered w n < 2 ^ bits w
  pub undone : (w : Width) (n : ℕ) → n < 2 ^ bits w → s.deciphered w (s.enciphered w n) ≡ n
  pub sixteen : (nonce message : List ℕ) → length (s.tagged nonce message) ≡ 16
  pub bytes : (nonce message : List ℕ) → AllBelowBase 256 (s.tagged nonce message)

-- the multiplier that an AMTConfig stands for; 0 is reserved
abbrev pub multiplier_of : Settings → ℕ → ℕ
multiplier_of s config = slice_index s.multipliers config

-- what an AMT is worth, in minor units
abbrev pub amount_of : Settings → ℕ → ℕ → ℕ
amount_of s config amt = amt * multiplier_of s config
