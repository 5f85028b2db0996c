-- Numbers that stand in place of others among the numbers of tasks.
use Rattle.std.specs.Prelude.{◌≡◌, ℕ, ◌≤◌, ◌<◌, eqb, ltb}

-- f x compares with 0 and with every number of tasks as x does, and is x where that is a task
pub record StandIn (f : ℕ → ℕ) : Type 0 where
  pub zeros : (x : ℕ) → eqb (f x) 0 ≡ eqb x 0
  pub below : (x n : ℕ) → n ≤ 64 → ltb (f x) n ≡ ltb x n
  pub same : (x : ℕ) → x < 64 → f x ≡ x
