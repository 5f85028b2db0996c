-- Numbers modulo R, where R is not known: the next one.
use Rattle.std.specs.Prelude.{◌≡◌, ◌≢◌, ◌⊎◌, ℕ, suc, ◌+◌, ◌%◌, ◌≤◌, ◌<◌}
use Rattle.std.proofs.Common.{inl, inr, mod-lt, mod-eq_of_lt, eq-or-lt_of_le, arith}
use Rattle.std.proofs.Math.Nat.{mod_self}

-- the next of x is x + 1, or 0 after the last
abbrev Wraps : ℕ → ℕ → ℕ → Type 0
Wraps R x y = ((y ≡ x + 1) × (x + 1 < R)) ⊎ ((y ≡ 0) × (x + 1 ≡ R))

wraps : (R x : ℕ) → x < R → Wraps R x ((x + 1) % R)
wraps R x h = go (eq-or-lt_of_le h)
  where
    go : (suc x ≡ R) ⊎ (suc x < R) → Wraps R x ((x + 1) % R)
    go (inl e) = let f : x + 1 ≡ R = omega arith in inr (rw f (mod_self R), f)
    go (inr l) = let f : x + 1 < R = omega arith in inl (mod-eq_of_lt f, f)

-- two numbers with the same next are the same
pub next_injective : (R x y : ℕ) → x < R → y < R → (x + 1) % R ≡ (y + 1) % R → x ≡ y
next_injective R x y hx hy e = go (wraps R x hx) (wraps R y hy)
  where
    go : Wraps R x ((x + 1) % R) → Wraps R y ((y + 1) % R) → x ≡ y
    go (inl a) (inl b) = omega arith
    go (inl a) (inr b) = omega arith
    go (inr a) (inl b) = omega arith
    go (inr a) (inr b) = omega arith

-- neither the next nor the one after it is the number itself
pub next_other : (R x : ℕ) → 3 ≤ R → x < R → (x + 1) % R ≢ x
next_other R x h hx = go (wraps R x hx)
  where
    go : Wraps R x ((x + 1) % R) → (x + 1) % R ≢ x
    go (inl a) = omega arith
    go (inr a) = omega arith

pub next_next_other : (R x : ℕ) → 3 ≤ R → x < R → ((x + 1) % R + 1) % R ≢ x
next_next_other R x h hx = go ((x + 1) % R) (wraps R x hx) (wraps R ((x + 1) % R) (mod-lt (x + 1) (omega arith)))
  where
    go : (y : ℕ) → Wraps R x y → Wraps R y ((y + 1) % R) → (y + 1) % R ≢ x
    go y (inl a) (inl b) = omega arith
    go y (inl a) (inr b) = omega arith
    go y (inr a) (inl b) = omega arith
    go y (inr a) (inr b) = omega arith
