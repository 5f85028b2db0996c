-- Laws of sums over the tasks below n.
use Rattle.std.specs.Prelude.{◌≡◌, refl, ◌≢◌, ℕ, zero, suc, ◌+◌, ◌*◌, ◌≤◌, ◌<◌}
use Rattle.std.proofs.Common.{le_of_suc-le-suc, lt_of_not-le, add-one, arith}
use Rattle.std.proofs.Math.Decide.{ℕ_discrete}
use Rattle.bitset.specs.Sum.{sum}

-- it is found part by part
pub sum_none : (f : ℕ → ℕ) → sum 0 f ≡ 0
unfolding sum
sum_none f = refl

pub sum_more : (n : ℕ) (f : ℕ → ℕ) → sum (n + 1) f ≡ sum n f + f n
unfolding sum
sum_more n f = rw (add-one n)

pub sum_le : (n : ℕ) (f g : ℕ → ℕ) → ((q : ℕ) → q < n → f q ≤ g q) → sum n f ≤ sum n g
unfolding sum
sum_le zero f g h = omega arith
sum_le (suc n) f g h = omega (arith, sum_le n f g (λ q l. h q (omega arith)), h n (omega arith))

pub sum_same : (n : ℕ) (f g : ℕ → ℕ) → ((q : ℕ) → q < n → f q ≡ g q) → sum n f ≡ sum n g
unfolding sum
sum_same zero f g h = refl
sum_same (suc n) f g h = omega (arith, sum_same n f g (λ q l. h q (omega arith)), h n (omega arith))

-- one part that rises, the others at least as large
pub sum_raise : (n p : ℕ) (f g : ℕ → ℕ) → p < n → f p < g p → ((q : ℕ) → q < n → q ≢ p → f q ≤ g q) → sum n f < sum n g
unfolding sum
sum_raise zero p f g h l o = absurd (omega arith)
sum_raise (suc n) p f g h l o = go (ℕ_discrete p n) (λ k. sum_raise n p f g k l (λ q m ne. o q (omega arith) ne))
  where
    go : Dec (p ≡ n) → (p < n → sum n f < sum n g) → sum n f + f n < sum n g + g n
    go (yes e) ih = omega (arith, sum_le n f g (λ q m. o q (omega arith) (omega arith)), rw e at l)
    go (no ne) ih = omega (arith, ih (omega arith), o n (omega arith) (omega arith))

-- every part smaller, where there is one
pub sum_lt : (n : ℕ) (f g : ℕ → ℕ) → 0 < n → ((q : ℕ) → q < n → f q < g q) → sum n f < sum n g
sum_lt n f g h l = sum_raise n 0 f g h (l 0 h) (λ q m ne. omega (arith, l q m))

-- a common factor
pub sum_mul : (n c : ℕ) (f : ℕ → ℕ) → sum n (λ q. c * f q) ≡ c * sum n f
unfolding sum
sum_mul zero c f = omega arith
sum_mul (suc n) c f = omega (arith, sum_mul n c f)

-- parts that are sums
pub sum_add : (n : ℕ) (f g : ℕ → ℕ) → sum n (λ q. f q + g q) ≡ sum n f + sum n g
unfolding sum
sum_add zero f g = refl
sum_add (suc n) f g = omega (arith, sum_add n f g)

-- equal parts
pub sum_const : (n c : ℕ) → sum n (λ q. c) ≡ n * c
unfolding sum
sum_const zero c = omega arith
sum_const (suc n) c = omega (arith, sum_const n c)

-- one part changed
pub sum_put : (n p : ℕ) (f g : ℕ → ℕ) → p < n → ((q : ℕ) → q < n → q ≢ p → f q ≡ g q) → sum n f + g p ≡ sum n g + f p
unfolding sum
sum_put zero p f g h o = absurd (omega arith)
sum_put (suc n) p f g h o = go (ℕ_discrete p n) (λ k. sum_put n p f g k (λ q m ne. o q (omega arith) ne))
  where
    go : Dec (p ≡ n) → (p < n → sum n f + g p ≡ sum n g + f p) → sum n f + f n + g p ≡ sum n g + g n + f p
    go (yes e) ih = rw e (omega (arith, sum_same n f g (λ q m. o q (omega arith) (omega arith))))
    go (no ne) ih = omega (arith, ih (omega arith), o n (omega arith) (omega arith))

-- parts of at most m that come to n * m: each is m
pub sum_full : (n m : ℕ) (f : ℕ → ℕ) → ((q : ℕ) → q < n → f q ≤ m) → n * m ≤ sum n f → (q : ℕ) → q < n → m ≤ f q
sum_full n m f up full q h =
    le_of_suc-le-suc (lt_of_not-le (λ l. omega (arith, sum_raise n q f (λ _. m) h l (λ r k ne. up r k), sum_const n m)))
