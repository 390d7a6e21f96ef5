-- The cipher over a slip as a list of blocks. Parts that can be carried are few and small: few, small. What a SubClass sends its low bits
-- through: low_map; a slip of its first block and its data parts goes through it part by part: low_list; where the map keeps the widths,
-- the parts can be carried still: low_below, map-carriable; and what was enciphered is deciphered to itself: low_back.
use Rattle.std.proofs.Common.{◌≡◌, ℕ, ◌+◌, ◌*◌, ◌/◌, ◌%◌, ◌^◌, ◌<◌, ◌≤◌, true, ltb, leb, List, [], ◌∷◌, map, length, sym, refl, ap, ◌∙◌, arith}
use Rattle.std.proofs.lemmas.Nat.{shr_high, mod_low}
use Rattle.std.proofs.lemmas.List.{length-map, map-id}
use Rattle.std.proofs.lemmas.Bool.{and_parts, and_from, leb-true, le-leb, ltb-true, lt-ltb}
use Rattle.cipher.specs.Widths.{bits}
use Rattle.cipher.specs.declared.width.Width.{Width}
use Rattle.cipher.specs.declared.width.Width.TheVariants.{First, Further}
use Rattle.token.specs.declared.subclass.SubClass.{SubClass}
use Rattle.token.specs.declared.subclass.SubClass.TheVariants.{Clear, Enciphered, Rates}
use Rattle.token.specs.FurtherBlocks.{carriable, numbered}
use Rattle.token.specs.Limits.{under}
use Rattle.sealing.specs.Suites.{Suite, Sound}
use Rattle.sealing.specs.Opening.{through_block, through_all, through_low}

-- at most three parts, each of 59 bits
pub few : (ps : List ℕ) → carriable ps ≡ true → length ps ≤ 3
few ps c = leb-true (length ps) 3 (and_parts (leb (length ps) 3) (under (2 ^ 59) ps) c).0

pub small : (ps : List ℕ) → carriable ps ≡ true → under (2 ^ 59) ps ≡ true
small ps c = (and_parts (leb (length ps) 3) (under (2 ^ 59) ps) c).1

-- the low bits of a number go through a map, and those above them stay
through-bits : (f : ℕ → ℕ) (bits high low : ℕ) → low < 2 ^ bits →
    (high * 2 ^ bits + low) / 2 ^ bits * 2 ^ bits + f ((high * 2 ^ bits + low) % 2 ^ bits) ≡ high * 2 ^ bits + f low
through-bits f bits high low h = λ i. shr_high high bits low h i * 2 ^ bits + f (mod_low high bits low h i)

-- data parts go through the map, and their sequences stay
parts-through : (m : Width → ℕ → ℕ) (ps : List ℕ) → under (2 ^ 59) ps ≡ true → map (through_block m Further) (numbered ps) ≡ numbered (map (m Further) ps)
parts-through m [] h = refl
parts-through m (p ∷ ps) h =
    let u = and_parts (ltb p (2 ^ 59)) (under (2 ^ 59) ps) h in
    let low : p * 1 + 0 < 2 ^ 59 = omega (arith, ltb-true p (2 ^ 59) u.0) in
    let e : p * 1 + 0 ≡ p = omega arith in
    let n = length-map ps (m Further) in
    let f : m Further p ≡ m Further p * 1 + 0 = omega arith in
    λ i. ((through-bits (m Further) 59 (length ps) (p * 1 + 0) low ∙ (λ j. sym n j * 2 ^ 59 + (ap (m Further) e ∙ f) j)) i) ∷ parts-through m ps u.1 i

-- what a SubClass sends its low bits through: in clear, nothing
abbrev pub low_map : SubClass → (Width → ℕ → ℕ) → Width → ℕ → ℕ
low_map Clear m = λ w n. n
low_map Enciphered m = m
low_map Rates m = m

all_through : (m : Width → ℕ → ℕ) (high low : ℕ) (ps : List ℕ) → low < 2 ^ 57 → carriable ps ≡ true →
    through_all m ((high * 2 ^ 57 + low) ∷ numbered ps) ≡ (high * 2 ^ 57 + m First low) ∷ numbered (map (m Further) ps)
all_through m high low ps h c = λ i. through-bits (m First) 57 high low h i ∷ parts-through m ps (small ps c) i

-- a slip of its first block and its data parts
pub low_list : (m : Width → ℕ → ℕ) (k : SubClass) (high low : ℕ) (ps : List ℕ) → low < 2 ^ 57 → carriable ps ≡ true →
    through_low m k (((high * 2 ^ 57 + low) ∷ numbered ps)) ≡ ((high * 2 ^ 57 + low_map k m First low) ∷ numbered (map (low_map k m Further) ps))
low_list m Clear high low ps h c = ap (λ (qs : List ℕ). ((high * 2 ^ 57 + low) ∷ numbered qs)) (sym (map-id ps))
low_list m Enciphered high low ps h c = all_through m high low ps h c
low_list m Rates high low ps h c = all_through m high low ps h c

pub low_below : (m : Width → ℕ → ℕ) (k : SubClass) → ((w : Width) (n : ℕ) → n < 2 ^ bits w → m w n < 2 ^ bits w) →
    (w : Width) (n : ℕ) → n < 2 ^ bits w → low_map k m w n < 2 ^ bits w
low_below m Clear b w n h = h
low_below m Enciphered b w n h = b w n h
low_below m Rates b w n h = b w n h

low_undone : (e d : Width → ℕ → ℕ) (k : SubClass) → ((w : Width) (n : ℕ) → n < 2 ^ bits w → d w (e w n) ≡ n) →
    (w : Width) (n : ℕ) → n < 2 ^ bits w → low_map k d w (low_map k e w n) ≡ n
low_undone e d Clear u w n h = refl
low_undone e d Enciphered u w n h = u w n h
low_undone e d Rates u w n h = u w n h

-- data parts after a map that keeps their width, and after one that undoes it
under-map : (m : ℕ → ℕ) → ((n : ℕ) → n < 2 ^ 59 → m n < 2 ^ 59) → (ps : List ℕ) → under (2 ^ 59) ps ≡ true → under (2 ^ 59) (map m ps) ≡ true
under-map m b [] h = refl
under-map m b (p ∷ ps) h =
    let u = and_parts (ltb p (2 ^ 59)) (under (2 ^ 59) ps) h in
    and_from (ltb (m p) (2 ^ 59)) (under (2 ^ 59) (map m ps)) (lt-ltb (m p) (2 ^ 59) (b p (ltb-true p (2 ^ 59) u.0))) (under-map m b ps u.1)

pub map-carriable : (m : ℕ → ℕ) → ((n : ℕ) → n < 2 ^ 59 → m n < 2 ^ 59) → (ps : List ℕ) → carriable ps ≡ true → carriable (map m ps) ≡ true
map-carriable m b ps c =
    and_from (leb (length (map m ps)) 3) (under (2 ^ 59) (map m ps)) (le-leb _ 3 (omega (arith, length-map ps m, few ps c))) (under-map m b ps (small ps c))

map_undone : (e d : ℕ → ℕ) → ((n : ℕ) → n < 2 ^ 59 → d (e n) ≡ n) → (ps : List ℕ) → under (2 ^ 59) ps ≡ true → map d (map e ps) ≡ ps
map_undone e d b [] h = refl
map_undone e d b (p ∷ ps) h =
    let u = and_parts (ltb p (2 ^ 59)) (under (2 ^ 59) ps) h in
    λ i. b p (ltb-true p (2 ^ 59) u.0) i ∷ map_undone e d b ps u.1 i

-- a slip that was enciphered is deciphered to itself
pub low_back : (s : Suite) → Sound s → (k : SubClass) (high low : ℕ) (ps : List ℕ) → low < 2 ^ 57 → carriable ps ≡ true →
    through_low s.deciphered k (through_low s.enciphered k (((high * 2 ^ 57 + low) ∷ numbered ps))) ≡ ((high * 2 ^ 57 + low) ∷ numbered ps)
low_back s o k high low ps h c =
    let below = low_below s.enciphered k o.below in
    let undone = low_undone s.enciphered s.deciphered k o.undone in
    let e = low_map k s.enciphered in
    ap (through_low s.deciphered k) (low_list s.enciphered k high low ps h c)
    ∙ low_list s.deciphered k high (e First low) (map (e Further) ps) (below First low h) (map-carriable (e Further) (below Further) ps c)
    ∙ (λ i. ((high * 2 ^ 57 + undone First low h i) ∷ numbered (map_undone (e Further) (low_map k s.deciphered Further) (undone Further) ps (small ps c) i)))
