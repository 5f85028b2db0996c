-- The first pass from a place (01, "First pass from a place").
use Rattle.std.specs.Prelude.{◌&&◌, List, [], ◌∷◌, ℕ, ◌≤◌, ◌<◌, length, get_or, drop}
use Rattle.bitset.specs.Choice.{pick}
use Rattle.bitset.specs.Tasks.{is_count}
use Rattle.schedule.specs.Passes.{passes_of, all_tasks}

-- the first of the passes; the empty list if there is none
abbrev pub head_of : List (List ℕ) → List ℕ
head_of [] = []
head_of (p ∷ ps) = p

-- "The first whole pass beginning at that place": empty "if there is none, the place is past the end, N isn't 1 to 64, or a byte
-- from the place on is no task". Past the end nothing is left to drop to, so there is no pass.
unfoldable pub first_pass_of : ℕ → ℕ → List ℕ → List ℕ
first_pass_of n place ts =
    pick (is_count n && all_tasks n (drop place ts)) (head_of (passes_of n (drop place ts))) []

-- where the answer is not empty: N is 1 to 64, the place is not past the end, every byte from the place on is a task, and a pass is there
pub record PassAt (n place : ℕ) (ts : List ℕ) : Type 0 where
  pub low : 1 ≤ n
  pub high : n ≤ 64
  pub within : place < length ts
  pub known : (i : ℕ) → place ≤ i → i < length ts → get_or ts i 0 < n
  pub pass : 0 < length (passes_of n (drop place ts))
