use Rattle.std.proofs.Common.{ℕ, ◌<◌, List, [], ◌∷◌, get_or, ap, rules}
use Rattle.sealing.proofs.Spelled.{seven}
use Rattle.sealing.proofs.message.head_of.Goals as goal

pub returns : goal.returns
returns c =
    let first = c.args.first in
    let low : List ℕ → List ℕ = λ l. get_or l 2 0 ∷ get_or l 3 0 ∷ [] in
    let k : first.subclass < 256 = search rules in
    let j : first.config < 256 = search rules in
    record {
      value = seven c.args.settings.now c.args.number c.args.index first
          c.new-message.result.items c.append.new.message.items c.append-2.new.message.items c.append-3.new.message.items c.append-4.new.message.items c.append-5.new.message.items c.append-6.new.message.items c.append-7.new.message.items
          c.to_be_bytes.result c.to_be_bytes-2.result c.to_be_bytes-3.result (low c.to_be_bytes-4.result) c.to_be_bytes-5.result k j
          c.to_be_bytes.ensures c.to_be_bytes-2.ensures c.to_be_bytes-3.ensures (ap low c.to_be_bytes-4.ensures) c.to_be_bytes-5.ensures
          c.new-message.ensures c.append.ensures.value c.append-2.ensures.value c.append-3.ensures.value c.append-4.ensures.value c.append-5.ensures.value c.append-6.ensures.value c.append-7.ensures.value;
      len = search rules;
    }
