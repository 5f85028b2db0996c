-- How far a task is in its round of five places, and where its count rises.
use Rattle.std.specs.Prelude.{List, ℕ, ◌+◌, eqb}
use Rattle.bitset.specs.Choice.{pick}
use Rattle.lines.specs.declared.Task.{Task}
use Rattle.barrier.specs.View.{View}

-- the places of a round: 13, 14, 15 and 16, 11, 12
abbrev pub L : ℕ → List ℕ → ℕ → ℕ
L n table q = 5

-- the places since the count rose, which 13 does; 15 and 16 stand at one
abbrev pub offset_of : ℕ → ℕ
offset_of line =
    pick (eqb line 14) 0
    (pick (eqb line 11) 2
    (pick (eqb line 12) 3
    (pick (eqb line 13) 4
    1)))

abbrev pub offset : ℕ → List ℕ → ℕ → Task → ℕ
offset n table q t = offset_of t.line

-- at 13 a task that does not arrive last goes to 16, past 14's place
abbrev pub skips : View → ℕ → ℕ
skips v p = pick (eqb (v.task p).line 13) (pick (eqb (v.arrivals + 1) v.n) 0 1) 0
