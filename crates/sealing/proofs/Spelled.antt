-- A nonce and a message, part by part: twelve, seven, block_more, blocks_all.
use Rattle.std.proofs.Common.{◌≡◌, ℕ, ◌+◌, ◌<◌, ◌≤◌, List, [], ◌∷◌, ◌++◌, length, get_or, take, sym, refl, ap, ◌∙◌, mod-eq_of_lt}
use Rattle.std.specs.List.{flat_map}
use Rattle.std.proofs.lemmas.List.{flat_map_more, take_more, take_all}
use Rattle.spelling.specs.Spelling.{bytes_of}
use Rattle.token.specs.declared.first.FirstBlock.{FirstBlock}
use Rattle.sealing.specs.Messages.{nonce, head, message}
use Rattle.sealing.specs.declared.settings.Settings.{Settings}

pub twelve : (s : Settings) (n : ℕ) (a b : List ℕ) → a ≡ bytes_of 8 s.supplier → b ≡ bytes_of 4 n →
    get_or a 0 0 ∷ get_or a 1 0 ∷ get_or a 2 0 ∷ get_or a 3 0 ∷ get_or a 4 0 ∷ get_or a 5 0 ∷ get_or a 6 0 ∷ get_or a 7 0 ∷ get_or b 0 0 ∷ get_or b 1 0 ∷ get_or b 2 0 ∷ get_or b 3 0 ∷ [] ≡ nonce s n
unfolding nonce
twelve s n a b p q = rw (p, q) refl

-- seven parts, one after the other
pub seven : (s : Settings) (number index : ℕ) (first : FirstBlock) (m0 m1 m2 m3 m4 m5 m6 m7 a b c d e : List ℕ) →
    first.subclass < 256 → first.config < 256 →
    a ≡ bytes_of 8 s.supplier → b ≡ bytes_of 8 s.meter → c ≡ bytes_of 4 number → d ≡ bytes_of 2 index → e ≡ bytes_of 2 first.amt →
    m0 ≡ [] → m1 ≡ m0 ++ a → m2 ≡ m1 ++ b → m3 ≡ m2 ++ (1 ∷ []) → m4 ≡ m3 ++ c → m5 ≡ m4 ++ d → m6 ≡ m5 ++ (first.subclass ∷ first.config ∷ []) → m7 ≡ m6 ++ e →
    m7 ≡ head s number index first
unfolding head
seven s number index first m0 m1 m2 m3 m4 m5 m6 m7 a b c d e h i pa pb pc pd pe e0 e1 e2 e3 e4 e5 e6 e7 =
    rw (e7, e6, e5, e4, e3, e2, e1, e0, pa, pb, pc, pd, pe, mod-eq_of_lt h, mod-eq_of_lt i) refl

-- one further block more
pub block_more : (h m l x bs : List ℕ) (i : ℕ) → i < length bs → m ≡ h ++ flat_map (bytes_of 8) (take i bs) →
    x ≡ bytes_of 8 (get_or bs i 0) → l ≡ m ++ x → l ≡ h ++ flat_map (bytes_of 8) (take (i + 1) bs)
block_more h m l x bs i k p q e =
    e ∙ (λ j. p j ++ q j) ∙ flat_map_more (bytes_of 8) h (take i bs) (get_or bs i 0) ∙ ap (λ (ys : List ℕ). h ++ flat_map (bytes_of 8) ys) (sym (take_more bs i 0 k))

pub blocks_all : (s : Settings) (number index : ℕ) (first : FirstBlock) (m bs : List ℕ) (i : ℕ) → length bs ≤ i →
    m ≡ head s number index first ++ flat_map (bytes_of 8) (take i bs) → m ≡ message s number index first bs
unfolding message
blocks_all s number index first m bs i k p = p ∙ ap (λ (ys : List ℕ). head s number index first ++ flat_map (bytes_of 8) ys) (take_all i bs k)
