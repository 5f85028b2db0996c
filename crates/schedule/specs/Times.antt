-- How often a list of turns names a task.
use Rattle.std.specs.Prelude.{List, [], ◌∷◌, ℕ, ◌+◌, eqb}
use Rattle.bitset.specs.Choice.{pick}

-- how many of the turns name the task q
unfoldable pub times : ℕ → List ℕ → ℕ
times q [] = 0
times q (p ∷ ps) = pick (eqb p q) 1 0 + times q ps
