use Rattle.aes.proofs.Xors.{column_is}
use Rattle.aes.proofs.columns.mixed_column.Goals as goal

pub returns : goal.returns
returns c = column_is _ _ _ _ c.args.k c.from_row.ensures c.from_row-2.ensures c.from_row-3.ensures c.from_row-4.ensures
