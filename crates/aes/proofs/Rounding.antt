-- A round, and the last one, over plain values: what each call of the code gave, joined.
use Rattle.std.proofs.Common.{◌≡◌, ℕ, ◌+◌, ◌<◌, List, [], map, length, get_or, take, drop, sym, ap, ◌∙◌, add-one, arith, length-drop, length-take, get_or-drop, get_or-take}
use Rattle.std.proofs.lemmas.List.{get_or-map}
use Rattle.aes.specs.Aes.{add_round_key, rounds, cipher}
use Rattle.aes.specs.Words.{unpacked, full_round, last_round}

key_at : (ks : List (List ℕ)) (n : ℕ) → n < length ks → unpacked (get_or ks n []) ≡ get_or (map unpacked ks) n []
key_at ks n h = sym (get_or-map unpacked ks n [] [] h)

-- the round keys between the first and the last are nine
pub nine : (ks : List (List ℕ)) → length ks ≡ 11 → length (take 9 (drop 1 ks)) ≡ 9
nine ks e = simp (length-take, length-drop) (omega arith)

inner_key : (ks : List (List ℕ)) (n : ℕ) → n < 9 → get_or (take 9 (drop 1 ks)) n [] ≡ get_or ks (n + 1) []
inner_key ks n h = get_or-take 9 (drop 1 ks) n [] h ∙ get_or-drop 1 ks n [] ∙ ap (λ (m : ℕ). get_or ks m []) (let e : 1 + n ≡ n + 1 = omega arith in e)

pub first_step : (ks : List (List ℕ)) (x : List ℕ) (s r : List ℕ) → 0 < length ks
    → unpacked s ≡ x → unpacked r ≡ add_round_key (unpacked s) (unpacked (get_or ks 0 []))
    → unpacked r ≡ rounds 0 (map unpacked ks) x
unfolding rounds
first_step ks x s r h hs hr = let e = key_at ks 0 h in cc

pub round_step : (ks : List (List ℕ)) (x : List ℕ) (n : ℕ) (s r : List ℕ) → length ks ≡ 11 → n < length (take 9 (drop 1 ks))
    → unpacked s ≡ rounds n (map unpacked ks) x → unpacked r ≡ full_round (unpacked s) (unpacked (get_or (take 9 (drop 1 ks)) n []))
    → unpacked r ≡ rounds (n + 1) (map unpacked ks) x
unfolding rounds full_round
round_step ks x n s r e h hs hr =
    let i = inner_key ks n (omega (arith, nine ks e)) in let k = key_at ks (n + 1) (omega (arith, nine ks e)) in let f = add-one n in cc

pub last_step : (ks : List (List ℕ)) (x : List ℕ) (n : ℕ) (s r : List ℕ) → 10 < length ks → n ≡ 9
    → unpacked s ≡ rounds n (map unpacked ks) x → unpacked r ≡ last_round (unpacked s) (unpacked (get_or ks 10 []))
    → unpacked r ≡ cipher (map unpacked ks) x
unfolding cipher last_round
last_step ks x n s r h e hs hr = let k = key_at ks 10 h in cc
