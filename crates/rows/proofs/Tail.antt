-- A row written to a list after the rows before it.
use mathlib.Core.Path.{◌≡◌, ap, ◌∙◌}
use mathlib.Core.List.{List, ◌++◌}
use Prim.Native.Nat.{ℕ, ◌+◌}
use lib.ListN.{length, drop}
use lib.Seq.{paste, take_at, drop_at, take-length, drop-drop}

-- the rows so far, `before`, stand at the front of a list that was rows₀
module _ (before rows₀ rows : List ℕ) (k : ℕ) (e : rows ≡ before ++ drop k rows₀) (long : length before ≡ k) where
  -- one row more
  pub tail_more : (row : List ℕ) → paste rows k row (length row) ≡ (before ++ row) ++ drop (k + length row) rows₀
  tail_more row =
      let tail : List ℕ = drop k rows₀ in
      ap (λ (l : List ℕ). paste l k row (length row)) e
      ∙ rw (take_at before tail k long, take-length row, ← drop-drop (length row) k (before ++ tail), drop_at before tail k long, drop-drop (length row) k rows₀)
