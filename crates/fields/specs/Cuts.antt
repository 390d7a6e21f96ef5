-- What a cut of the code stands for: told.
use Rattle.std.specs.Prelude.{Some, None, Option}
use Rattle.fields.specs.Fields.{Part}
use Rattle.fields.specs.declared.cut.Cut.{Cut}

-- the bytes that it borrows, in the place of the borrows
abbrev pub told : Option Cut → Option Part
told None = None
told (Some c) = Some (record { tag = c.tag; value = c.value.now; rest = c.rest.now })
