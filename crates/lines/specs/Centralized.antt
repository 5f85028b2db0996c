-- The barrier that counts down, line by line (02, P7): the sense-reversing centralized barrier, "the older centralized form described in source
-- document 001 at section 2.2: arrivals start at N and fall, and each task keeps its own sense". It "has kind 1's lines, next lines and shared
-- sense .. and no aim".
use Rattle.std.specs.Prelude.{ℕ, ◌-◌, eqb}
use Rattle.bitset.specs.Choice.{pick}
use Rattle.lines.specs.declared.Task.{Task}
use Rattle.lines.specs.declared.Effect.{Effect}
use Rattle.lines.specs.declared.Write.TheVariants.{Nothing, Arrivals, Sense}
use Rattle.lines.specs.Setters.{with_line, with_own}
use Rattle.lines.specs.Common.{negated, moves, waits, refuses, awaits, raised, counts, work}

-- 12: it "inverts the task's sense"
abbrev pub centralized12 : Task → Effect
centralized12 t = moves (with_line (with_own t (negated t.own)) 13) Nothing

-- 13: it "lowers arrivals by 1, raises the count, and goes to 14 if arrivals were 1, else to 16".
-- 7 "now also meets a turn at 13 of kind 4 with arrivals 0".
abbrev pub centralized13 : ℕ → Task → Effect
centralized13 arrivals t =
    pick (eqb arrivals 0) (refuses 7 t)
    (counts t (moves (with_line (raised t) (pick (eqb arrivals 1) 14 16)) (Arrivals (arrivals - 1))))

-- 14: it "sets arrivals to N"
abbrev pub centralized14 : ℕ → Task → Effect
centralized14 n t = moves (with_line t 15) (Arrivals n)

-- 15: it "sets the shared sense to the own one"
abbrev pub centralized15 : Task → Effect
centralized15 t = moves (with_line t 11) (Sense t.own)

-- 16: it "awaits that they are equal"
abbrev pub centralized16 : ℕ → Task → Effect
centralized16 sense t = awaits (eqb sense t.own) t (moves (with_line t 11) Nothing)

-- by the line. Another line is none of this barrier and waits.
unfoldable pub centralized_line : ℕ → ℕ → ℕ → ℕ → Task → Effect
centralized_line line n arrivals sense t =
    pick (eqb line 11) (work t)
    (pick (eqb line 12) (centralized12 t)
    (pick (eqb line 13) (centralized13 arrivals t)
    (pick (eqb line 14) (centralized14 n t)
    (pick (eqb line 15) (centralized15 t)
    (pick (eqb line 16) (centralized16 sense t)
    (waits t))))))
