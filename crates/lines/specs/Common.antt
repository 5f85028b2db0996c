-- What the lines of the five barriers have in common.
use Rattle.std.specs.Prelude.{Bool, ℕ, ◌+◌, ◌-◌, eqb, ltb}
use Rattle.bitset.specs.Choice.{pick}
use Rattle.bitset.specs.Set.{without_of}
use Rattle.lines.specs.declared.Task.{Task}
use Rattle.lines.specs.declared.Effect.{Effect}
use Rattle.lines.specs.declared.Act.TheVariants.{Moves, Waits, Refuses}
use Rattle.lines.specs.declared.Write.{Write}
use Rattle.lines.specs.declared.Write.TheVariants.{Nothing}
use Rattle.lines.specs.Setters.{with_line, with_count, with_list, with_looked, with_left}

-- "Count: 0 to 1,000,000."
abbrev pub max_count : ℕ
max_count = 1000000

-- "not sense": the other of 0 and 1
abbrev pub negated : ℕ → ℕ
negated b = pick (eqb b 0) 1 0

-- "moved (its line was carried out)": the task as it is then, and the shared word that is written
abbrev pub moves : Task → Write → Effect
moves t w = record { act = Moves; task = t; write = w }

-- "waited (its line is an await whose condition is false; nothing changes)"; that it is tallied (02, P3) is the turn's doing, and no line's
abbrev pub waits : Task → Effect
waits t = record { act = Waits; task = t; write = Nothing }

abbrev pub refuses : ℕ → Task → Effect
refuses k t = record { act = Refuses k; task = t; write = Nothing }

-- an await: the move where the condition holds, else a wait
abbrev pub awaits : Bool → Task → Effect → Effect
awaits condition t e = pick condition e (waits t)

-- "count rises by 1"; 11: "The turn would raise a count of 1,000,000."
abbrev pub raised : Task → Task
raised t = with_count t (t.count + 1)

abbrev pub counts : Task → Effect → Effect
counts t e = pick (ltb t.count max_count) e (refuses 11 t)

-- 11, the task's own work. 02, P6: "A task stays at 11 until it has made that many moves there"; the moves left "are set back to" the work length
-- "on leaving 11". Where both are 1 it is 01's "one move and leads to 12".
abbrev pub work : Task → Effect
work t =
    pick (ltb 1 t.left)
    (moves (with_left t (t.left - 1)) Nothing)
    (moves (with_left (with_line t 12) t.work) Nothing)

-- 13 of symmetric and tree: "if the list is empty, to" the line `exit`; "else looked-at :=" the task k that is taken, "to 14".
abbrev pub choose : ℕ → ℕ → Task → Effect
choose exit k t = pick (eqb t.list 0) (moves (with_line t exit) Nothing) (moves (with_line (with_looked t k) 14) Nothing)

-- 14 of symmetric and tree: "take looked-at off the list; to 13"
abbrev pub take_off : Task → Effect
take_off t = moves (with_line (with_list t (without_of t.list t.looked)) 13) Nothing
