-- Sixteen bytes and the number of 128 bits that they spell; blocks by places; the bytes of a number are bytes.
use Rattle.std.proofs.Common.{◌≡◌, ℕ, zero, suc, ◌+◌, ◌*◌, ◌/◌, ◌^◌, ◌<◌, List, map, length, get_or, sym, refl, ap, ◌∙◌, pow-suc, lit<, mod-lt, arith, pow-add}
use Rattle.std.specs.List.{range_with_len}
use Rattle.std.specs.Int.Digits.{number_from_digits, AllBelowBase}
use Rattle.std.proofs.lemmas.List.FromFn.{fill_by_all, length-map-range_with_len, get_or-map-range_with_len}
use Rattle.spelling.specs.Spelling.{bytes_of}
use Rattle.chaining.specs.Blocks.{block_of}

-- the number of sixteen bytes, as `u128::from_be_bytes` has it
abbrev pub joined : (ℕ → ℕ) → ℕ
joined f =
    f 0 * 1329227995784915872903807060280344576 + f 1 * 5192296858534827628530496329220096 + f 2 * 20282409603651670423947251286016
    + f 3 * 79228162514264337593543950336 + f 4 * 309485009821345068724781056 + f 5 * 1208925819614629174706176
    + f 6 * 4722366482869645213696 + f 7 * 18446744073709551616 + f 8 * 72057594037927936 + f 9 * 281474976710656
    + f 10 * 1099511627776 + f 11 * 4294967296 + f 12 * 16777216 + f 13 * 65536 + f 14 * 256 + f 15

pub joined_is : (f : ℕ → ℕ) → joined f ≡ number_from_digits 256 (map f (range_with_len 0 16))
joined_is f = omega arith

pub number_is : (xs : List ℕ) → length xs ≡ 16 → joined (λ i. get_or xs i 0) ≡ number_from_digits 256 xs
number_is xs e =
    joined_is (λ i. get_or xs i 0) ∙ ap (number_from_digits 256) (sym (fill_by_all (λ (i : ℕ). get_or xs i 0) xs 16 0 e (λ k h. refl)))

-- lists by places
pub same_map : {X : Type 0} (f g : ℕ → X) (d : X) (a n : ℕ) → ((k : ℕ) → k < n → f (a + k) ≡ g k) → map f (range_with_len a n) ≡ map g (range_with_len 0 n)
same_map f g d a n h =
    fill_by_all g (map f (range_with_len a n)) n d (length-map-range_with_len f a n) (λ k l. get_or-map-range_with_len f a n k (a + k) d l refl ∙ h k l)

pub same_block : (xs ys : List ℕ) → ((j : ℕ) → j < 16 → get_or xs j 0 ≡ get_or ys j 0) → block_of xs ≡ block_of ys
unfolding block_of
same_block xs ys h =
    ap (number_from_digits 256) (same_map (λ i. get_or xs i 0) (λ i. get_or ys i 0) 0 0 16
    (λ k l. ap (λ (m : ℕ). get_or xs m 0) (let e : 0 + k ≡ k = omega arith in e) ∙ h k l))

-- a power of 256 as one of 2
pub power_256 : (k : ℕ) → 256 ^ k ≡ 2 ^ (8 * k)
power_256 zero = refl
power_256 (suc k) =
    pow-suc 256 k ∙ ap (λ (n : ℕ). n * 256) (power_256 k) ∙ sym (pow-add 2 (8 * k) 8)
    ∙ ap (λ (n : ℕ). 2 ^ n) (let e : 8 * k + 8 ≡ 8 * suc k = omega arith in e)

pub bytes_below : (k n : ℕ) → AllBelowBase 256 (bytes_of k n)
bytes_below zero n = tt
bytes_below (suc zero) n = (mod-lt n (lit< tt), tt)
bytes_below (suc (suc k)) n = (mod-lt (n / 256 ^ suc k) (lit< tt), bytes_below (suc k) n)
