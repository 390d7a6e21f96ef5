-- What an image means. record_values, image_values, the values of the fields; record_in, image_in, what values tell; decoded,
-- what bytes tell; image_over, an image written over bytes; record_or, writes_or, the meaning of what was decoded.
use Rattle.std.specs.Prelude.{ℕ, List, [], ◌∷◌, ◌++◌, drop, Some, None, Option, slice_index_or}
use Rattle.std.specs.Int.Digits.{number_from_digits}
use Rattle.window.specs.Marks.{window_of}
use Rattle.record.specs.declared.Record.{Record}
use Rattle.record.specs.Changes.{record_of, opening}
use Rattle.fields.specs.Options.{and_then}
use Rattle.fields.specs.Spelling.{spell}
use Rattle.fields.specs.Fields.{row_of, read, size}
use Rattle.image.specs.Forms.{image_form}
use Rattle.image.specs.Tariffs.{tariff_in, tariff_bytes}
use Rattle.image.specs.declared.content.Image.{Image}

-- the values of the fields of a record
abbrev pub record_values : Record → List (List ℕ)
record_values r = spell 4 r.credit ∷ spell 4 r.window.highest ∷ spell 16 r.window.marks ∷ spell 2 r.index ∷ tariff_bytes r.tariff ∷ []

-- and of an image
abbrev pub image_values : Record → ℕ → List (List ℕ)
image_values r writes = record_values r ++ spell 4 writes ∷ []

-- the record that values tell; none where a mark or the tariff is outside its limits
abbrev pub record_in : List (List ℕ) → Option Record
record_in values =
    and_then (window_of (number_from_digits 256 (slice_index_or values 1 [])) (number_from_digits 256 (slice_index_or values 2 []))) (λ window.
    and_then (tariff_in (slice_index_or values 4 [])) (λ tariff.
    Some (record_of (number_from_digits 256 (slice_index_or values 0 [])) window (number_from_digits 256 (slice_index_or values 3 [])) tariff)))

-- the record and the writes left that values tell
abbrev pub image_in : List (List ℕ) → Option Image
image_in values = and_then (record_in values) (λ r. Some (record { kept = r; writes = number_from_digits 256 (slice_index_or values 5 []) }))

-- what bytes tell; none where they are ill-formed
unfoldable pub decoded : List ℕ → Option Image
decoded bytes = and_then (read image_form bytes) (λ q. image_in q.values)

-- bytes with an image over their front, and those after it as they are
unfoldable pub image_over : Record → ℕ → List ℕ → List ℕ
image_over r writes bytes = row_of image_form (image_values r writes) ++ drop (size image_form) bytes

-- ill-formed bytes mean the blank record
abbrev pub record_or : Option Image → Record
record_or None = opening 0
record_or (Some m) = m.kept

-- and no writes left
abbrev pub writes_or : Option Image → ℕ
writes_or None = 0
writes_or (Some m) = m.writes
