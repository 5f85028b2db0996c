-- Where a state's numbers fit, each may be cast to its field's type.
use Rattle.std.proofs.Common.{◌≡◌, ◌≤◌, ◌<◌, ◌+◌, List, ℕ, true, get_or, arith, Fits, w8, w32}
use Rattle.std.proofs.Math.Bool.{and-eq-true_iff}
use Rattle.snapshot.specs.Snapshot.{most_in, head_fits, tasks_fit, fits, task_place}
use Rattle.snapshot.specs.SnapshotLaws.{fit_at, tasks_at}

module _ (list : List ℕ) (fit : fits list ≡ true) where
  both : (head_fits list ≡ true) × (tasks_fit list 64 ≡ true)
  both = (and-eq-true_iff (head_fits list) (tasks_fit list 64)).0 fit

  -- a number of the state itself, or a parent
  pub head_byte : (i : ℕ) → i < 69 → Fits w8 (get_or list i 0)
  head_byte i h = let z : 0 + i ≡ i = omega arith in omega (arith, rw z at (fit_at list 0 (λ _. 255) 69 both.0 i h))

  -- number k of task q
  at : (q k : ℕ) → q < 64 → k < 15 → get_or list (task_place q + k) 0 ≤ most_in k
  at q k h l = fit_at list (task_place q) most_in 15 (tasks_at list 64 both.1 q h) k l

  pub task_byte : (q k : ℕ) → q < 64 → k < 15 → most_in k ≡ 255 → Fits w8 (get_or list (task_place q + k) 0)
  task_byte q k h l most = omega (arith, at q k h l)

  pub task_line : (q : ℕ) → q < 64 → Fits w8 (get_or list (task_place q) 0)
  task_line q h = let z : task_place q + 0 ≡ task_place q = omega arith in rw z at (task_byte q 0 h (omega arith) (omega arith))

  pub task_word : (q k : ℕ) → q < 64 → k < 15 → most_in k ≤ 4294967295 → Fits w32 (get_or list (task_place q + k) 0)
  task_word q k h l most = omega (arith, at q k h l)
