-- A slip as the code prints it: was_ready, writes, prints.
use Rattle.std.proofs.Common.{◌≡◌, ℕ, ◌*◌, Bool, true, false, cond, List, length, is_some, Some, None, Option, sym, refl, ap, ◌∙◌, arith}
use Rattle.std.proofs.lemmas.Bool.{cond-true}
use Rattle.decimal.specs.Slips.{writable, slip_of}
use Rattle.sealing.specs.declared.settings.Settings.{Settings}
use Rattle.sealing.specs.Suites.{Suite, Sound}
use Rattle.sale.specs.declared.checking.Ready.{Ready}
use Rattle.sale.specs.declared.orders.Sale.{Sale}
use Rattle.sale.specs.Sales.{salable}
use Rattle.sale.specs.Slips.{sealed_blocks, slip_length, slip_for, readied}
use Rattle.sale.proofs.Sealed.{sold_by, sealed, blocks_length, blocks_writable}

ready_when : (b : Bool) (sale : Sale) (ready : Ready) → Some ready ≡ cond b (Some (readied sale)) None → (b ≡ true) × (ready ≡ readied sale)
ready_when true sale ready e = (refl, cc)
ready_when false sale ready e = absurd (let z : ◌≡◌ {A = ℕ} 0 1 = cc in omega arith)

-- a sale was made ready that can be sold
pub was_ready : (s : Settings) (sale : Sale) (ready : Ready) → Some ready ≡ cond (salable s sale) (Some (readied sale)) None →
    (salable s sale ≡ true) × (ready ≡ readied sale)
was_ready s sale ready e = ready_when (salable s sale) sale ready e

-- the blocks bs are found from what writing them answered, so that a proof need not name how the slice of them was made
module _ (s : Suite) (o : Sound s) (number index : ℕ) (sale : Sale) (can : salable s.settings sale ≡ true) (bs : List ℕ) (answer : Option ℕ)
    (told : answer ≡ cond (writable bs) (Some (20 * length bs)) None) (is : bs ≡ sealed_blocks s number index sale) where
  able : writable bs ≡ true
  able =
      ap writable is ∙ blocks_writable s number index sale (sealed s o number index sale (sold_by s.settings sale can))

  -- it can be written
  pub writes : is_some answer ≡ true
  writes = ap is_some (told ∙ cond-true (writable bs) _ _ able)

  -- what is answered, and what the bytes are
  pub prints : (n : ℕ) (old new : List ℕ) → answer ≡ Some n → new ≡ cond (writable bs) (slip_of bs) old →
      (n ≡ slip_length sale) × (new ≡ slip_for s number index sale)
  prints n old new p q =
      let z = sealed s o number index sale (sold_by s.settings sale can) in
      let long : Some n ≡ Some (20 * length bs) = sym p ∙ told ∙ cond-true (writable bs) _ _ able in
      let same : n ≡ 20 * length bs = cc in (
        same ∙ ap (λ k. 20 * k) (ap length is ∙ blocks_length s number index sale z),
        q ∙ cond-true (writable bs) _ _ able ∙ ap slip_of is,
      )
