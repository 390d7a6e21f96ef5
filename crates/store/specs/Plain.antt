-- The plain store: plain_opening, plain_kept, plain_writes, plain_after.
use Rattle.std.specs.Prelude.{ℕ}
use Rattle.record.specs.declared.Record.{Record}
use Rattle.record.specs.Changes.{opening}
use Rattle.store.specs.declared.plain.PlainStore.{PlainStore}

-- it holds the record of a new meter
abbrev pub plain_opening : ℕ → PlainStore
plain_opening credit = record { last = opening credit }

-- it means the record that it holds
abbrev pub plain_kept : PlainStore → Record
plain_kept s = s.last

-- and always has as many writes left
abbrev pub plain_writes : PlainStore → ℕ
plain_writes s = 4294967295

-- after a write it holds the record written
abbrev pub plain_after : PlainStore → Record → PlainStore
plain_after s r = record { last = r }
