-- The fields of an image as the code has them: tag_of, width_of, value_of; part_of, told_next, what a field stands for; is_listed,
-- whether a form has this tag with this width; next_of, the first field where the image has such a one.
use Rattle.std.specs.Prelude.{ℕ, Bool, false, cond, ◌&&◌, ◌||◌, List, [], ◌∷◌, length, Some, None, Option, ◌==◌}
use Rattle.std.specs.Borrow.{Bor}
use Rattle.fields.specs.Options.{and_then}
use Rattle.fields.specs.Fields.{Field as Listed, Part, cut}
use Rattle.image.specs.Forms.{image_form}
use Rattle.image.specs.declared.field.Field.{Field}
use Rattle.image.specs.declared.field.Field.TheVariants.{Credit, Highest, Marks, Index, Tariff, Writes}

abbrev pub tag_of : Field → ℕ
tag_of (Credit v) = 1
tag_of (Highest v) = 2
tag_of (Marks v) = 3
tag_of (Index v) = 4
tag_of (Tariff v) = 5
tag_of (Writes v) = 6

abbrev pub width_of : Field → ℕ
width_of (Credit v) = 4
width_of (Highest v) = 4
width_of (Marks v) = 16
width_of (Index v) = 2
width_of (Tariff v) = 20
width_of (Writes v) = 4

abbrev pub value_of : Field → List ℕ
value_of (Credit v) = v.now
value_of (Highest v) = v.now
value_of (Marks v) = v.now
value_of (Index v) = v.now
value_of (Tariff v) = v.now
value_of (Writes v) = v.now

-- a field with the bytes after it
abbrev pub part_of : Field → List ℕ → Part
part_of f rest = record { tag = tag_of f; value = value_of f; rest = rest }

abbrev pub told_next : Option (Field × Bor (List ℕ)) → Option Part
told_next None = None
told_next (Some n) = Some (part_of n.0 n.1.now)

-- the form has a field of this tag and this width
abbrev pub is_listed : List Listed → ℕ → ℕ → Bool
is_listed [] tag width = false
is_listed (f ∷ form) tag width = (tag == f.tag && width == f.width) || is_listed form tag width

-- the first field, where it is one of an image
abbrev pub next_of : List ℕ → Option Part
next_of bytes = and_then (cut bytes) (λ p. cond (is_listed image_form p.tag (length p.value)) (Some p) None)
