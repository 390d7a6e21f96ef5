use Rattle.std.proofs.Common.{◌≡◌}
use Rattle.token.proofs.Turns.{Behind}
use Rattle.token.proofs.fields.unpack.Given as goal

abbrev pub invariant-loop-i : goal.invariant-loop-i
invariant-loop-i g l = record {
  first : l.i-iterator.iter.count ≡ 0;
  behind : Behind l.widths l.fields l.i-iterator.iter.iter.rest.now l.word l.left;
}
