-- Records from their parts and from records: record_of, opening, NewRecord, index_with, tariff_with, taken, spent.
use Rattle.std.specs.Prelude.{◌≡◌, ℕ, ◌+◌, ◌-◌, min, Some, None, Option}
use Rattle.token.specs.declared.tariff.Tariff.{Tariff}
use Rattle.window.specs.Marks.{blank_window, counted}
use Rattle.window.specs.declared.state.Window.{Window}
use Rattle.record.specs.declared.Record.{Record}

-- the record of these parts
abbrev pub record_of : ℕ → Window → ℕ → Option Tariff → Record
record_of credit window index tariff = record { credit = credit; window = window; index = index; tariff = tariff }

-- all zero, nothing counted and no tariff, but for the credit
abbrev pub opening : ℕ → Record
opening credit = record { credit = credit; window = blank_window; index = 0; tariff = None }

-- a record is new that is blank but for the credit
abbrev pub NewRecord : Record → Type 0
NewRecord r = r ≡ opening r.credit

-- a tariff that is given raises the index by one, up to 65,535, and takes the place of the old one
abbrev pub index_with : Option Tariff → ℕ → ℕ
index_with None index = index
index_with (Some given) index = min (index + 1) 65535

abbrev pub tariff_with : Option Tariff → Option Tariff → Option Tariff
tariff_with None old = old
tariff_with (Some given) old = Some given

-- after an entry: the amount added, the number counted, and the tariff set where one is given
abbrev pub taken : Record → ℕ → ℕ → Option Tariff → Record
taken r number amount given = record {
  credit = r.credit + amount;
  window = counted r.window number;
  index = index_with given r.index;
  tariff = tariff_with given r.tariff;
}

-- after a spend: the credit is lower by the amount, and all else as it was
abbrev pub spent : Record → ℕ → Record
spent r amount = record { credit = r.credit - amount; window = r.window; index = r.index; tariff = r.tariff }
