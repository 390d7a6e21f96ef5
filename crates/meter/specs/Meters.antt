-- Meters made from meters: fitted_with, with_cipher, with_authenticator, in_service, with_store. Each names the one part that changes.
-- And suite_at, what a meter's settings, cipher and authenticator mean.
use Rattle.std.specs.Prelude.{ℕ, List}
use Rattle.cipher.specs.declared.width.Width.{Width}
use Rattle.sealing.specs.Suites as recast
use Rattle.sealing.specs.Suites.{Suite, suite_of, sealer_of}
use Rattle.sealing.specs.declared.settings.Settings.{Settings}
use Rattle.meter.specs.declared.parts.Parts.{Parts}
use Rattle.meter.specs.declared.fitted.FittedMeter.{FittedMeter}
use Rattle.meter.specs.declared.service.Meter.{Meter}

-- a fitted meter of these parts
abbrev pub fitted_with : {S C A : Type 0} → Settings → S → C → A → FittedMeter S C A
fitted_with settings store cipher authenticator = record {
  parts = record { sealer = sealer_of settings cipher authenticator; store = store };
}

-- the same fitted meter with another cipher
abbrev pub with_cipher : {S C A : Type 0} → FittedMeter S C A → C → FittedMeter S C A
with_cipher m cipher = record { parts = record { sealer = recast.with_cipher m.parts.sealer cipher; store = m.parts.store } }

-- the same fitted meter with another authenticator
abbrev pub with_authenticator : {S C A : Type 0} → FittedMeter S C A → A → FittedMeter S C A
with_authenticator m authenticator = record { parts = record { sealer = recast.with_authenticator m.parts.sealer authenticator; store = m.parts.store } }

-- a meter in service of these parts
abbrev pub in_service : {S C A : Type 0} → Parts S C A → Meter S C A
in_service parts = record { parts = parts }

-- the same meter in service with another store
abbrev pub with_store : {S C A : Type 0} → Meter S C A → S → Meter S C A
with_store m store = record { parts = record { sealer = m.parts.sealer; store = store } }

-- what the settings, the cipher and the authenticator of a meter mean, by the meanings of their kinds
abbrev pub suite_at : {S C A : Type 0} → (C → Width → ℕ → ℕ) → (C → Width → ℕ → ℕ) → (A → List ℕ → List ℕ → List ℕ) → Meter S C A → Suite
suite_at enciphered deciphered tagged m = suite_of enciphered deciphered tagged m.parts.sealer
