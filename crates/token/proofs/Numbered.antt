-- Data parts turned into blocks, one by one, and found again. Assumes nothing.
use Rattle.std.proofs.Common.{◌≡◌, ℕ, suc, ◌+◌, ◌*◌, ◌%◌, ◌^◌, ◌<◌, ◌≤◌, Bool, true, eqb, reverse, add-zero, ◌&&◌, ltb, leb, List, [], ◌∷◌, ◌++◌, map, length, take, drop, sym, refl, ap, ◌∙◌, div-one, arith}
use Rattle.std.proofs.lemmas.List.{reverse-append, length-reverse}
use Rattle.std.proofs.lemmas.Bool.{and_from, and_parts, eq-eqb, leb-true, ltb-true}
use Rattle.std.proofs.Math.Bool.{and_comm, and-true}
use Rattle.std.specs.List.{list_all, enumerate_from}
use Rattle.std.proofs.lemmas.List.Folds.{list_all-append}
use Rattle.token.specs.Limits.{under}
use Rattle.token.specs.FurtherBlocks.{sequence_of, part_of, sequenced, numbered, Carried}

pub length-numbered : (ps : List ℕ) → length (numbered ps) ≡ length ps
length-numbered [] = refl
length-numbered (p ∷ ps) = ap suc (length-numbered ps)

in_sequence : (ps : List ℕ) → length ps ≤ 3 → under (2 ^ 59) ps ≡ true → (sequenced (numbered ps) ≡ true) × (map part_of (numbered ps) ≡ ps)
in_sequence [] l h = (refl, refl)
in_sequence (p ∷ ps) l h =
    let u = and_parts (ltb p (2 ^ 59)) (under (2 ^ 59) ps) h in
    let small : p < 2 ^ 59 = ltb-true p (2 ^ 59) u.0 in
    let rest = in_sequence ps (omega arith) u.1 in
    let n = length-numbered ps in
    let s : sequence_of (length ps * 2 ^ 59 + (p * 2 ^ 0 + 0)) ≡ length (numbered ps) = omega arith in
    let q : part_of (length ps * 2 ^ 59 + (p * 2 ^ 0 + 0)) ≡ p = omega arith in (
      and_from (eqb (sequence_of (length ps * 2 ^ 59 + (p * 2 ^ 0 + 0))) (length (numbered ps))) (sequenced (numbered ps)) (eq-eqb _ _ s) rest.0,
      λ i. q i ∷ rest.1 i,
    )

pub carried : Carried
carried = record {
  cut = λ b. ap (λ (n : ℕ). sequence_of b ∷ n % 2 ^ 59 ∷ []) (sym (div-one b));
  back = λ ps h.
      let c = and_parts (leb (length ps) 3) (under (2 ^ 59) ps) h in
      in_sequence ps (leb-true (length ps) 3 c.0) c.1;
}

enumerate_from-append : (n : ℕ) (xs ys : List ℕ) → enumerate_from n (xs ++ ys) ≡ enumerate_from n xs ++ enumerate_from (n + length xs) ys
enumerate_from-append n [] ys = ap (λ k. enumerate_from k ys) (sym (add-zero n))
enumerate_from-append n (x ∷ xs) ys =
    ap (λ zs. (n, x) ∷ zs) (enumerate_from-append (n + 1) xs ys ∙ ap (λ k. enumerate_from (n + 1) xs ++ enumerate_from k ys) (omega arith))

-- each block names its place, counted from the last
pub sequenced_is : (bs : List ℕ) → sequenced bs ≡ list_all (λ (p : ℕ × ℕ). eqb (sequence_of p.1) p.0) (enumerate_from 0 (reverse bs))
sequenced_is [] = refl
sequenced_is (b ∷ bs) =
    let test : ℕ × ℕ → Bool = λ p. eqb (sequence_of p.1) p.0 in
    let here = eqb (sequence_of b) (length bs) in
    let split : reverse (b ∷ bs) ≡ reverse bs ++ b ∷ [] = reverse-append (b ∷ []) bs in
    let all : list_all test (enumerate_from 0 (reverse (b ∷ bs))) ≡ (list_all test (enumerate_from 0 (reverse bs)) && list_all test (enumerate_from (0 + length (reverse bs)) (b ∷ []))) =
    ap (λ (l : List ℕ). list_all test (enumerate_from 0 l)) split ∙ ap (list_all test) (enumerate_from-append 0 (reverse bs) (b ∷ [])) ∙ list_all-append test (enumerate_from 0 (reverse bs)) (enumerate_from (0 + length (reverse bs)) (b ∷ [])) in
    let n : 0 + length (reverse bs) ≡ length bs = omega (arith, length-reverse bs) in
    sym (all ∙ (λ i. sym (sequenced_is bs) i && (eqb (sequence_of b) (n i) && true)) ∙ ap (λ v. sequenced bs && v) (and-true here) ∙ and_comm (sequenced bs) here)

-- what is done, and what is left
pub record Turned (f : List ℕ → List ℕ) (old new : List ℕ) (i : ℕ) : Type 0 where
  pub long : length new ≡ length old
  pub left : drop i new ≡ drop i old
  pub done : take i new ++ f (drop i old) ≡ f old
