use Rattle.std.proofs.Common.{◌≡◌, ◌-◌, ◌*◌}
use Rattle.aes.specs.Keyed.{key_of}
use Rattle.feistel.specs.Feistel.{unrun, alternate}
use Rattle.ff1.specs.Sizes.{Within}
use Rattle.ff1.specs.Network.{masked}
use Rattle.ff1.proofs.network.Network.ten_back.Given as goal

abbrev pub invariant-loop-j : goal.invariant-loop-j
invariant-loop-j l =
    let r = l.self.rounds.now in
    let f = masked (key_of l.self.aes.now) r.mask r.sizes.bytes in
    Within r.sizes (l.p, l.q)
    × ((l.p, l.q) ≡ unrun (alternate r.sizes.left r.sizes.right) f (10 - 2 * l.j) (2 * l.j) (l.left, l.right))
