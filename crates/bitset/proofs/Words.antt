-- The machine's words against the digits of specs/Set.antt: a shift, `&` and `|` with one digit.
use mathlib.Core.Path.{◌≡◌, sym, ap, ◌∙◌}
use Prim.Native.Nat.{ℕ, zero, suc, ◌+◌, ◌-◌, ◌*◌, ◌/◌, ◌%◌, ◌^◌, ◌≤◌, ◌<◌}
use native.Mathlib.Nat.{pow-suc, mod-eq_of_lt, one-mul, div-one, div-div-eq-div-mul, mul-add-mod_self_left, mul_comm, mul-suc, suc-mul, le_of_lt}
use native.Mathlib.Omega.{arith}
use lib.Pow.{pow_pos, pow-lt}
use lib.Bits.{bit_and, bit_or, and_step, or_step, or_zero_r, and_mask}
use Rattle.bitset.specs.Set.{bit, put, from_of}
use Rattle.bitset.specs.SetLaws.{from_suc}

-- one digit, as a shift gives it
pub shifted : (k : ℕ) → k < 64 → 1 * 2 ^ k % 2 ^ 64 ≡ 2 ^ k
shifted k h = rw one-mul (mod-eq_of_lt (pow-lt {i = k} {j = 64} h))

pub bit_shift : (n k : ℕ) → n / 2 ^ k % 2 ≡ bit n k
unfolding bit
bit_shift n zero = rw div-one
bit_shift n (suc k) =
    ap (λ (x : ℕ). x % 2) (ap (λ (x : ℕ). n / x) (pow-suc 2 k ∙ mul_comm (2 ^ k) 2) ∙ sym (div-div-eq-div-mul n 2 (2 ^ k)))
    ∙ bit_shift (n / 2) k

pub or_digit : (n k : ℕ) → bit_or n (2 ^ k) ≡ put n k 1
unfolding put
or_digit n zero = omega (arith, or_step n 1, or_zero_r (n / 2))
or_digit n (suc k) =
    let e : bit_or (n / 2) (2 ^ suc k / 2) ≡ put (n / 2) k 1
    = ap (λ (x : ℕ). bit_or (n / 2) x) (omega (arith, pow-suc 2 k)) ∙ or_digit (n / 2) k in
    omega (arith, or_step n (2 ^ suc k), pow-suc 2 k)

pub and_digit : (w n k : ℕ) → k < w → n < 2 ^ w → bit_and n (2 ^ w - 1 - 2 ^ k) ≡ put n k 0
unfolding put
and_digit zero n k l h = absurd (omega arith)
and_digit (suc w) n zero l h =
    let m : ℕ = 2 ^ suc w - 1 - 1 in
    let e : bit_and (n / 2) (m / 2) ≡ n / 2
    = ap (λ (x : ℕ). bit_and (n / 2) x) (omega (arith, pow-suc 2 w, pow_pos w)) ∙ and_mask (n / 2) w
    ∙ mod-eq_of_lt (omega (arith, pow-suc 2 w)) in
    omega (arith, and_step n m, pow-suc 2 w, pow_pos w)
and_digit (suc w) n (suc k) l h =
    let m : ℕ = 2 ^ suc w - 1 - 2 ^ suc k in
    let below : 2 ^ k < 2 ^ w = pow-lt (omega arith) in
    let e : bit_and (n / 2) (m / 2) ≡ put (n / 2) k 0
    = ap (λ (x : ℕ). bit_and (n / 2) x) (omega (arith, pow-suc 2 w, pow-suc 2 k))
    ∙ and_digit w (n / 2) k (omega arith) (omega (arith, pow-suc 2 w)) in
    omega (arith, and_step n m, pow-suc 2 w, pow-suc 2 k)

-- every digit from k on, as a shift gives them
full_times : (w x : ℕ) → 0 < x → x ≤ suc w → w * x % suc w ≡ suc w - x
full_times w zero pos l = absurd (omega arith)
full_times w (suc y) pos l =
    let parts : w * suc y ≡ suc w * y + (w - y) = omega (arith, mul-suc w y, suc-mul w y) in
    ap (λ (x : ℕ). x % suc w) parts ∙ mul-add-mod_self_left (suc w) y (w - y) ∙ mod-eq_of_lt (omega arith) ∙ omega arith

pub full_shifted : (k : ℕ) → k < 64 → (2 ^ 64 - 1) * 2 ^ k % 2 ^ 64 ≡ 2 ^ 64 - 2 ^ k
full_shifted k h = full_times (2 ^ 64 - 1) (2 ^ k) (pow_pos k) (le_of_lt (pow-lt {i = k} {j = 64} h))

-- and `&` with them clears the others
pub and_from : (w n k : ℕ) → k ≤ w → n < 2 ^ w → bit_and n (2 ^ w - 2 ^ k) ≡ from_of n k
and_from w n zero l h = and_mask n w ∙ mod-eq_of_lt h ∙ omega (arith, div-one n)
and_from zero n (suc k) l h = absurd (omega arith)
and_from (suc w) n (suc k) l h =
    let m : ℕ = 2 ^ suc w - 2 ^ suc k in
    let e : bit_and (n / 2) (m / 2) ≡ from_of (n / 2) k
    = ap (λ (x : ℕ). bit_and (n / 2) x) (omega (arith, pow-suc 2 w, pow-suc 2 k))
    ∙ and_from w (n / 2) k (omega arith) (omega (arith, pow-suc 2 w)) in
    omega (arith, and_step n m, from_suc n k, pow-suc 2 w, pow-suc 2 k)
