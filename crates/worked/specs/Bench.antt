-- A meter on the bench, with the clear cipher and the byte sum: bench_settings, bench_suite; blank, its first record; entered, what the
-- digits of an entry come to; leaves, the record after it.
use Rattle.std.specs.Prelude.{[], ◌∷◌, Ok, Err, codes, Result}
use Prim.Native.String.{String}
use Rattle.refusal.specs.declared.Refusal.{Refusal}
use Rattle.cipher.specs.Clearing.{as_is}
use Rattle.authenticator.specs.Sum.{byte_sum}
use Rattle.record.specs.declared.Record.{Record}
use Rattle.record.specs.Changes.{opening}
use Rattle.sealing.specs.declared.settings.Settings.{Settings}
use Rattle.sealing.specs.Suites.{Suite, suite}
use Rattle.entry.specs.declared.worth.Worth.{Worth}
use Rattle.entry.specs.Judging.{judged}

-- SupplierID 1, MeterID 2
abbrev pub bench_settings : Settings
bench_settings = record { supplier = 1; meter = 2; multipliers = 1 ∷ 10 ∷ 100 ∷ 1000 ∷ []; ceiling = 3400; ok = tt }

abbrev pub bench_suite : Suite
bench_suite = suite bench_settings (as_is (record {})) (as_is (record {})) (byte_sum (record {}))

-- no credit, nothing counted, no tariff
abbrev pub blank : Record
blank = opening 0

-- an entry of these digits at a record, with as many writes left as a store can have
abbrev pub entered : Record → String → Result Worth Refusal
entered r digits = judged bench_suite r 4294967295 (codes digits)

-- the next record where the entry is taken; refused, the one that was there
abbrev pub leaves : Record → Result Worth Refusal → Record
leaves r (Ok w) = w.next
leaves r (Err e) = r
