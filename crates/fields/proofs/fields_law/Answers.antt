use Rattle.fields.proofs.Rows.{there, back, row_long}
use Rattle.fields.proofs.Spells.{number_spell, spell_number}
use Rattle.fields.proofs.fields_law.Goals as goal

pub returns : goal.returns
returns c = record { there = there; back = back; long = row_long; number_there = number_spell; number_back = spell_number }
