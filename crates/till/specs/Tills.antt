-- Tills made from tills: new_till, with_cipher, with_authenticator, with_desk, with_counts, after_sale. Each names what changes. And till_suite, what
-- a till's settings, cipher and authenticator mean.
use Rattle.std.specs.Prelude.{ℕ, ◌+◌, min, List}
use Rattle.cipher.specs.declared.width.Width.{Width}
use Rattle.token.specs.SubClasses.{sub_class_named}
use Rattle.sealing.specs.Indices.{one_for_rates}
use Rattle.sealing.specs.Suites as recast
use Rattle.sealing.specs.Suites.{Suite, suite_of, sealer_of}
use Rattle.sealing.specs.declared.settings.Settings.{Settings}
use Rattle.sale.specs.declared.orders.Sale.{Sale}
use Rattle.till.specs.declared.counts.Counts.{Counts}
use Rattle.till.specs.declared.selling.Till.{Till}
use Rattle.till.specs.Counting.{no_counts, after_issue}

-- nothing was drawn, issued or voided
abbrev pub new_till : {C A : Type 0} → Settings → C → A → Till C A
new_till settings cipher authenticator = record {
  sealer = sealer_of settings cipher authenticator;
  index = 0;
  counts = no_counts;
}

-- the same till with another cipher
abbrev pub with_cipher : {C A : Type 0} → Till C A → C → Till C A
with_cipher t cipher = record { sealer = recast.with_cipher t.sealer cipher; index = t.index; counts = t.counts }

-- the same till with another authenticator
abbrev pub with_authenticator : {C A : Type 0} → Till C A → A → Till C A
with_authenticator t authenticator = record { sealer = recast.with_authenticator t.sealer authenticator; index = t.index; counts = t.counts }

-- the same till with another index and other counts
abbrev pub with_desk : {C A : Type 0} → Till C A → ℕ → Counts → Till C A
with_desk t index counts = record { sealer = t.sealer; index = index; counts = counts }

-- the same till with other counts
abbrev pub with_counts : {C A : Type 0} → Till C A → Counts → Till C A
with_counts t counts = with_desk t t.index counts

-- the till after a sale is issued: the index higher by one after a slip with rate prices, and one issue more
abbrev pub after_sale : {C A : Type 0} → Till C A → Sale → Till C A
after_sale t sale = with_desk t (min (t.index + one_for_rates (sub_class_named sale.subclass)) 65535) (after_issue t.counts)

-- what the settings, the cipher and the authenticator of a till mean, by the meanings of their kinds
abbrev pub till_suite : {C A : Type 0} → (C → Width → ℕ → ℕ) → (C → Width → ℕ → ℕ) → (A → List ℕ → List ℕ → List ℕ) → Till C A → Suite
till_suite enciphered deciphered tagged t = suite_of enciphered deciphered tagged t.sealer
