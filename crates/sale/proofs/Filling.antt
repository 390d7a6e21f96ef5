-- The blocks of a sale as the code fills them in: tag_is, is_packed, block_is, filled.
use Rattle.std.proofs.Common.{◌≡◌, ℕ, true, cond, List, ◌∷◌, set, is_some, Some, None, Option, sym, ap, ◌∙◌}
use Rattle.std.proofs.lemmas.Bool.{cond-true}
use Rattle.token.specs.declared.first.FirstBlock.{FirstBlock}
use Rattle.token.specs.FirstBlocks.{first_widths, first_fields, first_fits}
use Rattle.token.specs.Widths.{packed}
use Rattle.sealing.specs.Messages.{index_for}
use Rattle.sealing.specs.Messages.{tag_field}
use Rattle.sealing.specs.Opening.{further_of}
use Rattle.sealing.specs.Suites.{Suite}
use Rattle.sealing.specs.Opening.{through_low}
use Rattle.sale.specs.declared.checking.Ready.{Ready}
use Rattle.sale.specs.declared.orders.Sale.{Sale}
use Rattle.sale.specs.Slips.{further_sold, first_sold, tag_sold, sealed_blocks, readied}

-- the tag field that the code computes
pub tag_is : (s : Suite) (number index : ℕ) (sale : Sale) (ready : Ready) → ready ≡ readied sale →
    tag_field s.settings s.tagged number (index_for ready.subclass index) (first_sold number sale 0)
    (further_of (record { subclass = ready.subclass; first = first_sold number sale 0; blocks = ready.blocks }))
    ≡ tag_sold s number index sale
unfolding tag_sold
tag_is s number index sale ready is =
    ap (λ (r : Ready). tag_field s.settings s.tagged number (index_for r.subclass index) (first_sold number sale 0)
    (further_of (record { subclass = r.subclass; first = first_sold number sale 0; blocks = r.blocks }))) is

-- a first block that fits is packed
pub is_packed : (f : FirstBlock) (o : Option ℕ) → first_fits f ≡ true → o ≡ cond (first_fits f) (Some (packed first_widths (first_fields f))) None → is_some o ≡ true
is_packed f o h e = ap is_some (e ∙ cond-true (first_fits f) _ _ h)

block_is : (f : FirstBlock) (o : Option ℕ) (b : ℕ) → first_fits f ≡ true → o ≡ cond (first_fits f) (Some (packed first_widths (first_fields f))) None → o ≡ Some b →
    b ≡ packed first_widths (first_fields f)
block_is f o b h e p = let q : Some b ≡ Some (packed first_widths (first_fields f)) = sym p ∙ e ∙ cond-true (first_fits f) _ _ h in cc

-- the blocks that the code seals are those of the sale
pub filled : (s : Suite) (number index : ℕ) (sale : Sale) (ready : Ready) (tag b : ℕ) (o : Option ℕ) (r : List ℕ) → ready ≡ readied sale →
    tag ≡ tag_sold s number index sale → first_fits (first_sold number sale (tag_sold s number index sale)) ≡ true →
    o ≡ cond (first_fits (first_sold number sale tag)) (Some (packed first_widths (first_fields (first_sold number sale tag)))) None → o ≡ Some b →
    r ≡ through_low s.enciphered ready.subclass (set ready.blocks.items 0 b) → r ≡ sealed_blocks s number index sale
unfolding sealed_blocks
filled s number index sale ready tag b o r is tagged fits packs some e =
    let t = tag_sold s number index sale in
    let packs' : o ≡ cond (first_fits (first_sold number sale t)) (Some (packed first_widths (first_fields (first_sold number sale t)))) None =
    packs ∙ ap (λ (k : ℕ). cond (first_fits (first_sold number sale k)) (Some (packed first_widths (first_fields (first_sold number sale k)))) None) tagged in
    e
    ∙ ap (λ (r : Ready). through_low s.enciphered r.subclass (set r.blocks.items 0 b)) is
    ∙ ap (λ (k : ℕ). through_low s.enciphered (readied sale).subclass (k ∷ further_sold sale)) (block_is (first_sold number sale t) o b fits packs' some)
