-- How far a task is in its round: a round of a task with k children has 3k + 7 moves, and each move takes its own task one on.
use Rattle.std.specs.Prelude.{List, ℕ, ◌+◌, ◌-◌, ◌*◌, eqb}
use Rattle.bitset.specs.Choice.{pick}
use Rattle.bitset.specs.Set.{size_of}
use Rattle.parents.specs.Parents.{children_of}
use Rattle.lines.specs.declared.Task.{Task}

-- the number of children of task q
abbrev pub children : List ℕ → ℕ → ℕ
children table q = size_of (children_of table q)

abbrev pub L : ℕ → List ℕ → ℕ → ℕ
L n table q = 3 * children table q + 7

-- the moves since the count last rose, at 15, of a task with k children at this line with j tasks on its list
abbrev pub offset_at : ℕ → ℕ → ℕ → ℕ
offset_at k line j =
    pick (eqb line 16) 0
    (pick (eqb line 17) 1
    (pick (eqb line 18) (2 + (k - j))
    (pick (eqb line 11) (k + 3)
    (pick (eqb line 12) (k + 4)
    (pick (eqb line 13) (k + 5 + 2 * (k - j))
    (pick (eqb line 14) (k + 6 + 2 * (k - j))
    (3 * k + 6)))))))

abbrev pub offset : ℕ → List ℕ → ℕ → Task → ℕ
offset n table q t = offset_at (children table q) t.line (size_of t.list)
