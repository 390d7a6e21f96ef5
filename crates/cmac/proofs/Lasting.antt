-- The last block with its subkey, and the tag, over plain values.
use Rattle.std.proofs.Common.{◌≡◌, ℕ, ◌-◌, Bool, false, cond, eqb, List, [], ◌∷◌, ◌++◌, length, take, drop, sym, ap, ◌∙◌, ap₂, arith, length-drop}
use lib.Bits.{bit_xor}
use Rattle.std.proofs.lemmas.List.{take_all}
use Rattle.spelling.specs.Spelling.{bytes_of}
use Rattle.chaining.specs.Blocks.{aes_block, block_of, blocks_of, chained}
use Rattle.cmac.specs.Cmac.{first_subkey, second_subkey, before_last, last_block, cmac}
use Rattle.cmac.specs.Subkeys.{subkeys_of}
use Rattle.cmac.specs.declared.subkeys.Subkeys.{Subkeys}

pub whole_last : (key rest : List ℕ) (b : ℕ) (s : Subkeys) → length rest ≡ 16 → b ≡ block_of rest → s ≡ subkeys_of key
    → bit_xor b s.first ≡ last_block key rest
unfolding last_block
whole_last key rest b s n e k =
    ap₂ (λ (x : ℕ) (t : Subkeys). bit_xor x t.first) e k
    ∙ sym (ap (λ (m : ℕ). cond (eqb m 16) (bit_xor (block_of rest) (first_subkey key)) (bit_xor (block_of (rest ++ (128 ∷ []))) (second_subkey key))) n)

pub short_last : (key rest : List ℕ) (b : ℕ) (s : Subkeys) → eqb (length rest) 16 ≡ false → b ≡ block_of (rest ++ (128 ∷ [])) → s ≡ subkeys_of key
    → bit_xor b s.second ≡ last_block key rest
unfolding last_block
short_last key rest b s n e k =
    ap₂ (λ (x : ℕ) (t : Subkeys). bit_xor x t.second) e k
    ∙ sym (ap (λ (t : Bool). cond t (bit_xor (block_of rest) (first_subkey key)) (bit_xor (block_of (rest ++ (128 ∷ []))) (second_subkey key))) n)

-- the tag, from what the code had: the chain y over the first n bytes, and the last block
pub tag_is : (key m : List ℕ) (n y last z : ℕ) (r : List ℕ) → n ≡ before_last (length m)
    → y ≡ chained (aes_block key) 0 (blocks_of (take n m)) → last ≡ last_block key (take (length m - n) (drop n m))
    → z ≡ aes_block key (bit_xor y last) → r ≡ bytes_of 16 z → r ≡ cmac key m
unfolding cmac
tag_is key m n y last z r en ey el ez er =
    let rest : take (length m - n) (drop n m) ≡ drop n m = take_all (length m - n) (drop n m) (simp length-drop (omega arith)) in
    er ∙ ap (bytes_of 16) (ez ∙ ap₂ (λ (a b : ℕ). aes_block key (bit_xor a b)) ey (el ∙ ap (last_block key) rest)
    ∙ ap (λ (k : ℕ). aes_block key (bit_xor (chained (aes_block key) 0 (blocks_of (take k m))) (last_block key (drop k m)))) en)
