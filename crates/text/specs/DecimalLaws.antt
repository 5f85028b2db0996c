-- Laws of numbers in decimal: the digits one by one, and how many there are.
use Rattle.std.specs.Prelude.{◌≡◌, refl, Bool, true, false, List, [], ◌∷◌, ◌++◌, ℕ, zero, suc, ◌+◌, ◌/◌, ◌%◌, ◌^◌, ◌≤◌, ◌<◌, ltb, length}
use Rattle.std.proofs.Common.{ap, pow-suc, arith, length-append, lt-ltb, le-ltb, ltb-false}
use Rattle.bitset.specs.Choice.{pick}
use Rattle.bitset.specs.ChoiceLaws.{by_test}
use Rattle.text.specs.Decimal.{decimal_in, decimal}

pub decimal_digit : (x : ℕ) → x < 10 → decimal x ≡ (48 + x) ∷ []
unfolding decimal_in
decimal_digit x h =
    let e : 48 + x % 10 ≡ 48 + x = omega arith in
    rw (lt-ltb x 10 h, e)

-- one place more changes nothing where there are enough
decimal_enough : (k x : ℕ) → x < 10 ^ suc k → decimal_in (suc k) x ≡ decimal_in (suc (suc k)) x
unfolding decimal_in
decimal_enough zero x h = rw (lt-ltb x 10 (omega (arith, pow-suc 10 0)))
decimal_enough (suc k) x h = ap (λ (ds : List ℕ). pick (ltb x 10) [] ds ++ (48 + x % 10) ∷ []) (decimal_enough k (x / 10) (omega (arith, pow-suc 10 (suc k))))

pub decimal_more : (x : ℕ) → x < 10 ^ 20 → 10 ≤ x → decimal x ≡ decimal (x / 10) ++ (48 + x % 10) ∷ []
unfolding decimal_in
decimal_more x small h = rw (le-ltb x 10 h) (ap (λ (ds : List ℕ). ds ++ (48 + x % 10) ∷ []) (decimal_enough 18 (x / 10) (omega arith)))

-- a number has at most as many digits as there are places
pub decimal_most : (k x : ℕ) → length (decimal_in k x) ≤ k
unfolding decimal_in
decimal_most zero x = omega arith
decimal_most (suc k) x =
    rw length-append (omega (arith, by_test (λ (ds : List ℕ). length ds ≤ k) (ltb x 10) {x = []} {y = decimal_in k (x / 10)} (λ _. omega arith) (λ _. decimal_most k (x / 10))))

-- a number below 10 ^ d has at most d digits
pub decimal_length : (k d x : ℕ) → x < 10 ^ suc d → length (decimal_in k x) ≤ suc d
unfolding decimal_in
decimal_length zero d x h = omega arith
decimal_length (suc k) d x h = go (ltb x 10) refl d h (λ e. decimal_length k e (x / 10))
  where
    go : (b : Bool) → ltb x 10 ≡ b → (d : ℕ) → x < 10 ^ suc d → ((e : ℕ) → x / 10 < 10 ^ suc e → length (decimal_in k (x / 10)) ≤ suc e)
        → length (pick b [] (decimal_in k (x / 10)) ++ (48 + x % 10) ∷ []) ≤ suc d
    go true e d h ih = omega arith
    go false e zero h ih = absurd (omega (arith, ltb-false x 10 e, pow-suc 10 0))
    go false e (suc d) h ih = rw length-append (omega (arith, ih d (omega (arith, pow-suc 10 (suc d)))))
