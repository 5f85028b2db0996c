-- How often a task moves at a line, in a list of turns.
use Rattle.std.specs.Prelude.{◌&&◌, List, [], ◌∷◌, ℕ, ◌+◌, eqb}
use Rattle.bitset.specs.Choice.{pick}
use Rattle.machine.specs.declared.State.{State}
use Rattle.machine.specs.Setters.{task_at}
use Rattle.machine.specs.Turn.{turn_of, is_moved}

-- 1 if a turn of q moves the task p at this line, else 0
abbrev pub move_at : ℕ → ℕ → State → ℕ → ℕ
move_at p line s q = pick (is_moved (turn_of s q).outcome && (eqb q p && eqb (task_at s p).line line)) 1 0

-- how many times p moves at this line in the turns
abbrev pub times_at : ℕ → ℕ → State → List ℕ → ℕ
times_at p line s [] = 0
times_at p line s (q ∷ ts) = move_at p line s q + times_at p line (turn_of s q).state ts
