-- The key expansion: round keys are bytes, so that the words kept of them give them back; and the value that a key makes.
use Rattle.std.proofs.Common.{◌≡◌, ℕ, zero, suc, ◌+◌, ◌^◌, ◌<◌, List, [], ◌∷◌, map, length, get_or, sym, refl, ap, ◌∙◌, ap₂, add-one, lit<}
use mathlib.Core.Path.{Cosingl, contract'}
use lib.Bits.{bit_xor, xor_lt}
use Rattle.std.specs.List.{range_with_len}
use Rattle.aes.specs.Field.{xtime, sbox}
use Rattle.aes.specs.Aes.{key_byte, next_key, round_key, round_constant, schedule}
use Rattle.aes.specs.Words.{packed, unpacked}
use Rattle.aes.specs.Expansion.{expanded}
use Rattle.aes.specs.Keyed.{aes_for}
use Rattle.aes.specs.declared.state.Aes128.{Aes128}
use Rattle.aes.proofs.SboxTable.{sbox_byte}
use Rattle.aes.proofs.MixTable.{xtime_byte}
use Rattle.aes.proofs.Xors.{packed_own, unpacked_own}

-- sixteen bytes
abbrev pub Block : List ℕ → Type 0
Block xs = (length xs ≡ 16) × ((i : ℕ) → get_or xs i 0 < 256)

constant_byte : (n : ℕ) → round_constant n < 256
unfolding round_constant
constant_byte zero = lit< tt
constant_byte (suc n) = xtime_byte (round_constant n) (constant_byte n)

key_byte_lem : (c : ℕ) (k : List ℕ) → c < 256 → ((i : ℕ) → get_or k i 0 < 256) → (i : ℕ) → key_byte c k i < 256
unfolding key_byte
key_byte_lem c k hc h zero = xor_lt 8 (get_or k 0 0) (bit_xor (sbox (get_or k 13 0)) c) (h 0) (xor_lt 8 (sbox (get_or k 13 0)) c (sbox_byte _ (h 13)) hc)
key_byte_lem c k hc h (suc zero) = xor_lt 8 (get_or k 1 0) (sbox (get_or k 14 0)) (h 1) (sbox_byte _ (h 14))
key_byte_lem c k hc h (suc (suc zero)) = xor_lt 8 (get_or k 2 0) (sbox (get_or k 15 0)) (h 2) (sbox_byte _ (h 15))
key_byte_lem c k hc h (suc (suc (suc zero))) = xor_lt 8 (get_or k 3 0) (sbox (get_or k 12 0)) (h 3) (sbox_byte _ (h 12))
key_byte_lem c k hc h (suc (suc (suc (suc i)))) =
    xor_lt 8 (get_or k (suc (suc (suc (suc i)))) 0) (key_byte c k i) (h (suc (suc (suc (suc i))))) (key_byte_lem c k hc h i)

-- what is so of each of a list's elements and of 0 is so at every place
each : (P : ℕ → Type 0) → P 0 → (f : ℕ → ℕ) → ((i : ℕ) → P (f i)) → (xs : List ℕ) (i : ℕ) → P (get_or (map f xs) i 0)
each P p f h [] i = p
each P p f h (x ∷ xs) zero = h x
each P p f h (x ∷ xs) (suc i) = each P p f h xs i

pub round_key_block : (key : List ℕ) → Block key → (n : ℕ) → Block (round_key key n)
unfolding round_key next_key
round_key_block key h zero = h
round_key_block key h (suc n) =
    let k = round_key key n in (
      refl,
      each (λ (b : ℕ). b < 256) (lit< tt) (key_byte (round_constant n) k)
          (key_byte_lem (round_constant n) k (constant_byte n) (round_key_block key h n).1) (range_with_len 0 16),
    )

map_same : {X Y : Type 0} (f : ℕ → X) (g : X → Y) (k : ℕ → Y) → ((n : ℕ) → g (f n) ≡ k n) → (xs : List ℕ) → map g (map f xs) ≡ map k xs
map_same f g k h [] = refl
map_same f g k h (x ∷ xs) = ap₂ (λ y ys. y ∷ ys) (h x) (map_same f g k h xs)

-- the round keys of a key are the bytes of the words that are kept for it
pub given_back : (key : List ℕ) (ks : List (List ℕ)) → Block key → ks ≡ expanded key → map unpacked ks ≡ schedule key
unfolding expanded schedule
given_back key ks h e =
    ap (map unpacked) e
    ∙ map_same (λ n. packed (round_key key n)) unpacked (round_key key)
    (λ n. let b = round_key_block key h n in unpacked_own (round_key key n) b.0 b.1) (range_with_len 0 11)

pub words_are : (key : List ℕ) (n : ℕ) (r : List ℕ) → length r ≡ 4 → ((i : ℕ) → get_or r i 0 < 2 ^ 32) → unpacked r ≡ round_key key n
    → r ≡ packed (round_key key n)
words_are key n r e h hr = packed_own r e h ∙ ap packed hr

-- one key more: from the words k of the round key n, the words r of the next
pub key_step : (key : List ℕ) → Block key → (n c : ℕ) (k r : List ℕ) → k ≡ packed (round_key key n) → c ≡ round_constant n
    → length r ≡ 4 → ((i : ℕ) → get_or r i 0 < 2 ^ 32) → unpacked r ≡ next_key c (unpacked k) → r ≡ packed (round_key key (n + 1))
unfolding round_key
key_step key h n c k r hk hc er fits hr =
    let b = round_key_block key h n in
    words_are key (n + 1) r er fits
    (hr ∙ ap₂ next_key hc (ap unpacked hk ∙ unpacked_own (round_key key n) b.0 b.1) ∙ sym (ap (round_key key) (add-one n)))

pub constant_step : (n c d : ℕ) → c ≡ round_constant n → d ≡ xtime c → d ≡ round_constant (n + 1)
unfolding round_constant
constant_step n c d hc hd = hd ∙ ap xtime hc ∙ sym (ap round_constant (add-one n))

-- a value with the key and the words kept for it is the one that the key makes
pub made : (key : List ℕ) (ks : List (List ℕ)) (e : ks ≡ expanded key)
    → ◌≡◌ {A = Aes128} (record { key = key; round_keys = ks; kept = e }) (aes_for key)
made key ks e =
    sym (ap (λ (t : Cosingl (expanded key)). record { key = key; round_keys = t.0; kept = t.1 }) (contract' e))
