-- A task's place in its round: L is the number of its moves in a round, and its offset the moves since its count last rose. A move takes its
-- task on by one.
use Rattle.std.specs.Prelude.{List, ℕ, ◌+◌, ◌*◌, ◌-◌, eqb}
use Rattle.bitset.specs.Choice.{pick}
use Rattle.bitset.specs.Set.{size_of}
use Rattle.lines.specs.declared.Task.{Task}

-- 2N + 3 moves: 12, N times 13 and 14, 13 with the empty list, 11
abbrev pub L : ℕ → List ℕ → ℕ → ℕ
L n table q = 2 * n + 3

-- the moves of a task t since its count last rose, where its list has j of N tasks: at 13 2(N − j), at 14 one more, at 11 2N + 1, at 12 2N + 2
abbrev pub offset_in : ℕ → Task → ℕ
offset_in n t =
    pick (eqb t.line 13) (2 * (n - size_of t.list))
    (pick (eqb t.line 14) (2 * (n - size_of t.list) + 1)
    (pick (eqb t.line 11) (2 * n + 1) (2 * n + 2)))

abbrev pub offset : ℕ → List ℕ → ℕ → Task → ℕ
offset n table q t = offset_in n t
