-- The ring barrier, line by line (001, section 2.3).
use Rattle.std.specs.Prelude.{not, ℕ, ◌+◌, eqb, ltb}
use Rattle.bitset.specs.Choice.{pick}
use Rattle.lines.specs.declared.Task.{Task}
use Rattle.lines.specs.declared.Effect.{Effect}
use Rattle.lines.specs.declared.Write.TheVariants.{Nothing, Toggle}
use Rattle.lines.specs.Setters.{with_line}
use Rattle.lines.specs.Common.{moves, waits, awaits, raised, counts, work}

-- "nz is 1 for every task but 0."
abbrev pub nz : ℕ → ℕ
nz p = pick (eqb p 0) 0 1

-- "The next task of N − 1 is 0."
abbrev pub next_task : ℕ → ℕ → ℕ
next_task n p = pick (ltb (p + 1) n) (p + 1) 0

-- 12: "await own toggle = nz; to 13."
abbrev pub ring12 : ℕ → Task → Effect
ring12 p t = awaits (eqb t.toggle (nz p)) t (moves (with_line t 13) Nothing)

-- 13: "next task's toggle := 1; count rises by 1; to 14."
abbrev pub ring13 : ℕ → ℕ → Task → Effect
ring13 n p t = counts t (moves (with_line (raised t) 14) (Toggle (next_task n p) 1))

-- 14: "await own toggle ≠ nz; to 15."
abbrev pub ring14 : ℕ → Task → Effect
ring14 p t = awaits (not (eqb t.toggle (nz p))) t (moves (with_line t 15) Nothing)

-- 15: "next task's toggle := 0; to 11."
abbrev pub ring15 : ℕ → ℕ → Task → Effect
ring15 n p t = moves (with_line t 11) (Toggle (next_task n p) 0)

-- by the line. Another line is none of this barrier and waits.
unfoldable pub ring_line : ℕ → ℕ → ℕ → Task → Effect
ring_line line n p t =
    pick (eqb line 11) (work t)
    (pick (eqb line 12) (ring12 p t)
    (pick (eqb line 13) (ring13 n p t)
    (pick (eqb line 14) (ring14 p t)
    (pick (eqb line 15) (ring15 n p t)
    (waits t)))))
