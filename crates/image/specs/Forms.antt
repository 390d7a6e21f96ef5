-- The fields of an image, by tag and width: record_form, those of the record; image_form, all of them.
use Rattle.std.specs.Prelude.{List, [], ◌∷◌, ◌++◌}
use Rattle.fields.specs.Fields.{Field, field}

-- credit, highest number, marks, index, tariff
abbrev pub record_form : List Field
record_form = field 1 4 ∷ field 2 4 ∷ field 3 16 ∷ field 4 2 ∷ field 5 20 ∷ []

-- and after them the writes left
abbrev pub image_form : List Field
image_form = record_form ++ field 6 4 ∷ []
