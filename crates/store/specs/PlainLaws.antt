-- The plain store is a store: plain_holds, it means the record written; plain_most and plain_least, its count stays.
use Rattle.std.specs.Prelude.{◌≡◌, ◌-◌, ◌<◌, ◌≤◌, refl}
use Rattle.std.proofs.Common.{lit≤}
use Rattle.record.specs.declared.Record.{Record}
use Rattle.store.specs.declared.plain.PlainStore.{PlainStore}
use Rattle.store.specs.Plain.{plain_kept, plain_writes, plain_after}

pub plain_holds : (s : PlainStore) (r : Record) → 0 < plain_writes s → plain_kept (plain_after s r) ≡ r
plain_holds s r some = refl

pub plain_most : (s : PlainStore) (r : Record) → 0 < plain_writes s → plain_writes (plain_after s r) ≤ plain_writes s
plain_most s r some = lit≤ tt

pub plain_least : (s : PlainStore) (r : Record) → 0 < plain_writes s → plain_writes s - 1 ≤ plain_writes (plain_after s r)
plain_least s r some = lit≤ tt
