use Rattle.std.proofs.Common.{ℕ, ◌+◌, ◌%◌, refl, ap, ◌∙◌, arith}
use Rattle.aes.specs.Keyed.{key_of}
use Rattle.ff1.specs.Network.{masked}
use Rattle.ff1.proofs.Rounding.{two_more, ten_done}
use Rattle.ff1.proofs.network.Network.ten_rounds.Goals as goal

pub loop-j-init : goal.loop-j-init
loop-j-init c = (c.requires, refl)

pub loop-j-preserved : goal.loop-j-preserved
loop-j-preserved c =
    let r = c.args.self.now.rounds.now in
    let m = r.sizes.left in
    let n = r.sizes.right in (
      record { left = c.add-p.ensures.bound; right = c.add-q.ensures.bound },
      two_more m n (masked (key_of c.args.self.now.aes.now) r.mask r.sizes.bytes) c.loop-j.j c.loop-j.p c.loop-j.q
          c.add-p.result c.add-q.result _ (omega arith)
          (c.add-p.ensures.value ∙ ap (λ (y : ℕ). (c.loop-j.p + y) % m) c.round_number.ensures)
          (c.add-q.ensures.value ∙ ap (λ (y : ℕ). (c.loop-j.q + y) % n) c.round_number-in-loop-j.ensures)
          c.loop-j.invariant.1,
    )

pub returns : goal.returns
returns c =
    let r = c.args.self.now.rounds.now in
    record {
      bound = c.loop-j.invariant.0;
      value =
          ten_done r.sizes.left r.sizes.right (masked (key_of c.args.self.now.aes.now) r.mask r.sizes.bytes) c.loop-j.j
          (c.loop-j.p, c.loop-j.q) _ (omega arith) c.loop-j.invariant.1;
    }
