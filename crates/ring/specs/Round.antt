-- The place of a task in its round: five moves, from line 14 on.
use Rattle.std.specs.Prelude.{List, ℕ, ◌+◌, ◌%◌}
use Rattle.lines.specs.declared.Task.{Task}

-- the moves of a round
abbrev pub L : ℕ → List ℕ → ℕ → ℕ
L n table q = 5

-- the moves since the count rose: 0 at 14, 1 at 15, 2 at 11, 3 at 12, 4 at 13
abbrev pub since : Task → ℕ
since t = (t.line + 1) % 5

abbrev pub offset : ℕ → List ℕ → ℕ → Task → ℕ
offset n table q t = since t
