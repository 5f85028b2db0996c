-- The fetch-and-increment barrier, line by line (001, section 2.2).
use Rattle.std.specs.Prelude.{ℕ, ◌+◌, eqb, leb}
use Rattle.bitset.specs.Choice.{pick}
use Rattle.lines.specs.declared.Task.{Task}
use Rattle.lines.specs.declared.Effect.{Effect}
use Rattle.lines.specs.declared.Write.TheVariants.{Nothing, Arrivals, Sense}
use Rattle.lines.specs.Setters.{with_line, with_aim}
use Rattle.lines.specs.Common.{negated, moves, waits, refuses, awaits, raised, counts, work}

-- 12: "aim := not sense; to 13."
abbrev pub increment12 : ℕ → Task → Effect
increment12 sense t = moves (with_line (with_aim t (negated sense)) 13) Nothing

-- 13: "with t the old value of arrivals, arrivals rises by 1 and the count by 1; to 14 if t = N − 1, else to 16."
-- 7: "at a turn, the task is at 13 of kind 1 with arrivals already N".
abbrev pub increment13 : ℕ → ℕ → Task → Effect
increment13 n arrivals t =
    pick (leb n arrivals) (refuses 7 t)
    (counts t (moves (with_line (raised t) (pick (eqb (arrivals + 1) n) 14 16)) (Arrivals (arrivals + 1))))

-- 14: "arrivals := 0; to 15."
abbrev pub increment14 : Task → Effect
increment14 t = moves (with_line t 15) (Arrivals 0)

-- 15: "sense := aim; to 11."
abbrev pub increment15 : Task → Effect
increment15 t = moves (with_line t 11) (Sense t.aim)

-- 16: "await sense = aim; to 11."
abbrev pub increment16 : ℕ → Task → Effect
increment16 sense t = awaits (eqb sense t.aim) t (moves (with_line t 11) Nothing)

-- by the line. Another line is none of this barrier and waits.
unfoldable pub increment_line : ℕ → ℕ → ℕ → ℕ → Task → Effect
increment_line line n arrivals sense t =
    pick (eqb line 11) (work t)
    (pick (eqb line 12) (increment12 sense t)
    (pick (eqb line 13) (increment13 n arrivals t)
    (pick (eqb line 14) (increment14 t)
    (pick (eqb line 15) (increment15 t)
    (pick (eqb line 16) (increment16 sense t)
    (waits t))))))
