-- The range of a task, and of what all tasks share (01, "Field ranges").
use Rattle.std.specs.Prelude.{Bool, ◌&&◌, ◌||◌, List, ℕ, ◌+◌, eqb, leb, ltb}
use Rattle.bitset.specs.Choice.{pick}
use Rattle.bitset.specs.Tasks.{is_count}
use Rattle.bitset.specs.Set.{all_of, within_of}
use Rattle.parents.specs.Parents.{children_of}
use Rattle.lines.specs.declared.Task.{Task}
use Rattle.lines.specs.declared.Shared.{Shared}
use Rattle.lines.specs.Common.{max_count}
use Rattle.setup.specs.Kinds.{is_kind, has_sense, modulus_ok, last_line}

-- a field that the kind uses is below its bound; "every field the kind doesn't use .. is 0"
abbrev pub field_ok : Bool → ℕ → ℕ → Bool
field_ok used bound x = pick used (ltb x bound) (eqb x 0)

-- "List within the N tasks (symmetric) or within own children (tree)": what the list of task q may hold, by the table of parents
abbrev pub list_room : Shared → List ℕ → ℕ → ℕ
list_room w table q = pick (eqb w.kind 0) (all_of w.n) (pick (eqb w.kind 3) (children_of table q) 0)

-- "Tag and old below R. Looked-at below N. .. aim, toggle and flag 0 or 1." 02, P1: "a start is below N, and 0 for other kinds." 02, P6: "the moves
-- left .. lie between 1 and the length", whatever the line; so the length is 1 or more, and as a byte at most 255. 02, P7: "A task's own
-- sense is 0 or 1" for kind 4, which has "no aim". The task t at q:
unfoldable pub task_ok : Shared → List ℕ → ℕ → Task → Bool
task_ok w table q t =
    leb 11 t.line && leb t.line (last_line w.kind)
    && leb t.count max_count
    && field_ok (eqb w.kind 0) w.modulus t.tag
    && field_ok (eqb w.kind 0) w.modulus t.old
    && field_ok (eqb w.kind 0 || eqb w.kind 3) w.n t.looked
    && within_of t.list (list_room w table q)
    && field_ok (eqb w.kind 1) 2 t.aim
    && field_ok (eqb w.kind 2) 2 t.toggle
    && field_ok (eqb w.kind 3) 2 t.flag
    && field_ok (eqb w.kind 0) w.n t.start
    && leb 1 t.left
    && leb t.left t.work
    && field_ok (eqb w.kind 4) 2 t.own

-- "every field of a task from N on, is 0"
unfoldable pub task_zero : Task → Bool
task_zero t =
    eqb t.line 0 && eqb t.count 0 && eqb t.tag 0 && eqb t.old 0 && eqb t.list 0 && eqb t.looked 0
    && eqb t.aim 0 && eqb t.toggle 0 && eqb t.flag 0 && eqb t.start 0 && eqb t.work 0 && eqb t.left 0 && eqb t.own 0

-- the task t as it must be at q: in range below N, and all zero from N on
abbrev pub place_ok : Shared → List ℕ → ℕ → Task → Bool
place_ok w table q t = pick (ltb q w.n) (task_ok w table q t) (task_zero t)

-- "Kind and N as above. .. Arrivals 0 to N. Sense .. 0 or 1. R .. as above." 02, P7: of kind 4 too "Arrivals range from 0 to N."
unfoldable pub shared_ok : Shared → Bool
shared_ok w =
    is_kind w.kind && is_count w.n && modulus_ok w.kind w.modulus
    && field_ok (has_sense w.kind) (w.n + 1) w.arrivals
    && field_ok (has_sense w.kind) 2 w.sense
