-- The law of fields, of any form: ReadBack, what reads back was written; FieldsLaw.
use Rattle.std.specs.Prelude.{◌≡◌, ℕ, suc, List, ◌++◌, length, Some}
use Rattle.std.specs.Int.Digits.{number_from_digits}
use Rattle.std.specs.List.{AllByRecursion}
use Rattle.fields.specs.Spelling.{spell}
use Rattle.fields.specs.Fields.{Field, Reading, row_of, read, size, Fit, Bytes}

-- the values are bytes, of the widths of the form, and the row is its fields with these values, and then the rest
pub record ReadBack (form : List Field) (row : List ℕ) (r : Reading) : Type 0 where
  pub fit : Fit form r.values
  pub bytes : AllByRecursion Bytes r.values
  pub is : row ≡ row_of form r.values ++ r.rest

pub record FieldsLaw : Type 0 where
  -- what is written reads back, whatever lies after it
  pub there : (form : List Field) (values : List (List ℕ)) (rest : List ℕ) → Fit form values → read form (row_of form values ++ rest) ≡ Some (record { values = values; rest = rest })
  -- what reads back was written so: any other tag or width is no row of the form
  pub back : (form : List Field) (row : List ℕ) (r : Reading) → Bytes row → read form row ≡ Some r → ReadBack form row r
  -- the fields take as many bytes as the form says
  pub long : (form : List Field) (values : List (List ℕ)) → Fit form values → length (row_of form values) ≡ size form
  -- a number is read back from its bytes
  pub number_there : (k n : ℕ) → number_from_digits 256 (spell (suc k) n) ≡ n
  -- and bytes are those of the number that they spell
  pub number_back : (k : ℕ) (v : List ℕ) → Bytes v → length v ≡ suc k → spell (suc k) (number_from_digits 256 v) ≡ v
