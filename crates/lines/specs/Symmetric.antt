-- The symmetric barrier, line by line (001, section 2.1).
use Rattle.std.specs.Prelude.{not, ℕ, ◌+◌, ◌%◌, eqb}
use Rattle.bitset.specs.Choice.{pick}
use Rattle.bitset.specs.Set.{all_of, first_from}
use Rattle.lines.specs.declared.Task.{Task}
use Rattle.lines.specs.declared.Effect.{Effect}
use Rattle.lines.specs.declared.Write.TheVariants.{Nothing}
use Rattle.lines.specs.Setters.{with_line, with_tag, with_old, with_list}
use Rattle.lines.specs.Common.{moves, waits, awaits, raised, counts, work, choose, take_off}

-- "(old + 1) mod R". The papers leave R = 0 free: the tag is 0 then.
abbrev pub next_tag : ℕ → ℕ → ℕ
next_tag r old = pick (eqb r 0) 0 ((old + 1) % r)

-- 12: "old := tag; tag := (old + 1) mod R; count rises by 1; list := all N tasks, itself too; to 13."
abbrev pub symmetric12 : ℕ → ℕ → Task → Effect
symmetric12 n r t =
    counts t (moves (with_line (with_list (raised (with_tag (with_old t t.tag) (next_tag r t.tag))) (all_of n)) 13) Nothing)

-- 13: "if the list is empty, to 11; else looked-at := the least task on the list, to 14", where 02 (P1) takes "the first listed task at or
-- above the start, going round to 0 after the last". It begins at the start at every turn of 13, not after the task looked at last.
abbrev pub symmetric13 : Task → Effect
symmetric13 t = choose 11 (first_from t.list t.start) t

-- 14: "await tag of looked-at ≠ own old; take looked-at off the list; to 13."
abbrev pub symmetric14 : ℕ → Task → Effect
symmetric14 tag t = awaits (not (eqb tag t.old)) t (take_off t)

-- by the line; `tag` is the tag of the looked-at task. Another line is none of this barrier and waits.
unfoldable pub symmetric_line : ℕ → ℕ → ℕ → ℕ → Task → Effect
symmetric_line line n r tag t =
    pick (eqb line 11) (work t)
    (pick (eqb line 12) (symmetric12 n r t)
    (pick (eqb line 13) (symmetric13 t)
    (pick (eqb line 14) (symmetric14 tag t)
    (waits t))))
