-- What a slip that was printed is read as. Its text: keyed, digits; its shape: Shape, shape; the slip in clear: first_back, sold_slip,
-- slip_read_lem; its further blocks and its data parts: further_read, parts-read.
use Rattle.std.proofs.Common.{◌≡◌, ℕ, suc, ◌*◌, ◌%◌, ◌^◌, true, List, ◌∷◌, map, length, get_or, take, Ok, sym, refl, ap, ◌∙◌, subst, div-one, arith}
use Rattle.std.proofs.lemmas.List.{take_at}
use Rattle.refusal.proofs.Passing.{provided_ok}
use Rattle.refusal.specs.declared.Refusal.TheVariants.{OtherSubClass, WrongBlocks}
use Rattle.token.specs.declared.first.FirstBlock.{FirstBlock}
use Rattle.token.specs.declared.subclass.SubClass.{SubClass}
use Rattle.token.specs.FirstBlocks.{first_widths, first_fields, first_block_of, Small}
use Rattle.token.specs.FurtherBlocks.{numbered, part_of}
use Rattle.token.specs.Shapes.{sub_class_in, fitting, shape_of}
use Rattle.token.specs.SubClasses.{takes, served, sub_class_named}
use Rattle.token.specs.Widths.{packed, unpacked}
use Rattle.token.proofs.Numbered.{carried}
use Rattle.token.proofs.Packs.{packs}
use Rattle.token.proofs.Shapes.{shape_made}
use Rattle.arrayvec.specs.ArrayVec.{ArrayVec}
use Rattle.decimal.specs.Groups.{blocks_in}
use Rattle.decimal.proofs.Grouping.{Passes, passed}
use Rattle.decimal.proofs.Returning.{there as text_reads, length_text}
use Rattle.sealing.specs.Opening.{further_of, parts_of, opened_as}
use Rattle.sealing.specs.Suites.{Suite, Sound}
use Rattle.sealing.specs.Opening.{through_low}
use Rattle.sealing.specs.declared.opening.Opened.{Opened}
use Rattle.sealing.proofs.Walk.{low_back}
use Rattle.entry.specs.Reading.{slip_read}
use Rattle.sale.specs.declared.orders.Sale.{Sale}
use Rattle.sale.specs.Sales.{parts_sold}
use Rattle.sale.specs.Slips.{further_sold, first_sold, tag_sold, clear_blocks, sealed_blocks, slip_text, slip_length, slip_for}
use Rattle.sale.proofs.Sealed.{Sold, carries, first_small, low_sold, low_fits, Sealed, sealed, blocks_below, blocks_length, blocks_few}

-- a first block is found again in the number that it packs to
first_back : (b : FirstBlock) → Small b → first_block_of (packed first_widths (first_fields b)) ≡ b
first_back b h =
    let n = packed first_widths (first_fields b) in
    let e : unpacked first_widths n ≡ first_fields b = (packs first_widths).there (first_fields b) (h.subclass, (h.tstn, (h.config, (h.amt, (h.tmac, tt))))) in
    let last : n % 2 ^ 32 ≡ b.tmac = ap (λ (m : ℕ). m % 2 ^ 32) (sym (div-one n)) ∙ ap (λ (xs : List ℕ). get_or xs 4 0) e in
    λ i. record {
      subclass = get_or (e i) 0 0;
      tstn = get_or (e i) 1 0;
      config = get_or (e i) 2 0;
      amt = get_or (e i) 3 0;
      tmac = last i;
    }

-- blocks make a slip of the SubClass
pub record Shape (bs : List ℕ) (k : SubClass) : Type 0 where
  pub known : served (sub_class_in bs) ≡ true
  pub fitted : fitting bs ≡ true
  pub named : sub_class_named (sub_class_in bs) ≡ k

shaped : (bs : List ℕ) (k : SubClass) → shape_of bs ≡ Ok k → Shape bs k
unfolding shape_of
shaped bs k e =
    let p = provided_ok (served (sub_class_in bs)) OtherSubClass _ k e in
    let q = provided_ok (fitting bs) WrongBlocks (Ok (sub_class_named (sub_class_in bs))) k p.1 in
    let same = q.1 in
    record { known = p.0; fitted = q.0; named = cc }

module _ (s : Suite) (o : Sound s) (number index : ℕ) (sale : Sale) (v : Sold s.settings sale) where
  abbrev k : SubClass
  k = sub_class_named sale.subclass

  abbrev text : List ℕ
  text = slip_text s number index sale

  abbrev blocks : List ℕ
  blocks = sealed_blocks s number index sale

  -- the blocks as they are printed
  z : Sealed s number index sale
  z = sealed s o number index sale v

  -- the text passes the tests of digits, and comes to the blocks
  pub keyed : Passes text × (blocks_in text ≡ sealed_blocks s number index sale)
  keyed =
      let n = blocks_length s number index sale z in
      let p = passed text (record { items = blocks }) (text_reads blocks (omega (arith, n)) (blocks_few s number index sale z) (blocks_below s number index sale z)) in
      (p.0, ap (λ (v : ArrayVec ℕ). v.items) (sym p.1))

  pub shape : Shape (blocks_in text) k
  shape =
      let c = carries k sale.prices v.prices in
      let t : takes k (suc (length z.parts)) ≡ true = ap (λ (n : ℕ). takes k (suc n)) z.as_many ∙ c.taken in
      let there : blocks_in text ≡ z.first ∷ numbered z.parts = keyed.1 ∙ z.are in
      let P : List ℕ → Type 0 = λ bs. Shape bs k in
      subst P (sym there) (shaped (z.first ∷ numbered z.parts) k (shape_made z.first z.parts k z.names t z.carried))

  -- the slip in clear
  abbrev pub sold_slip : Opened
  sold_slip = record {
    subclass = k;
    first = first_sold number sale (tag_sold s number index sale);
    blocks = record { items = clear_blocks s number index sale };
  }

  pub slip_read_lem : slip_read s text ≡ sold_slip
  unfolding slip_read sealed_blocks
  slip_read_lem =
      let c = carries k sale.prices v.prices in
      let low = low_sold number sale (tag_sold s number index sale) in
      let clear : through_low s.deciphered k (sealed_blocks s number index sale) ≡ clear_blocks s number index sale =
      low_back s o k sale.subclass low (parts_sold sale.prices) (low_fits s o number index sale v) c.carried in
      let first = first_back (first_sold number sale (tag_sold s number index sale)) (first_small s o number index sale v) in
      (λ i. opened_as (shape.named i) (through_low s.deciphered (shape.named i) (keyed.1 i)))
      ∙ ap (opened_as k) clear
      ∙ (λ i. record { subclass = k; first = first i; blocks = record { items = clear_blocks s number index sale } })

  pub further_read : further_of sold_slip ≡ further_sold sale
  further_read = refl

  pub parts-read : parts_of sold_slip ≡ parts_sold sale.prices
  parts-read = ap (map part_of) further_read ∙ (carried.back (parts_sold sale.prices) (carries k sale.prices v.prices).carried).1

  -- the digits are the bytes of the slip up to its length
  pub digits : take (slip_length sale) (slip_for s number index sale) ≡ text
  digits =
      take_at text _ (slip_length sale)
      (length_text blocks (blocks_below s number index sale z) ∙ ap (λ (n : ℕ). 20 * n) (blocks_length s number index sale z))
