-- The tree barrier, line by line, in the order of the note's text (001, section 2.4.1). At each line stands the note's own, then 01's. In the
-- note aa is the flag, lis the list, kk the looked-at task and cnt the count; rear, which only its proof needs, is not kept.
use Rattle.std.specs.Prelude.{◌||◌, List, ℕ, eqb, leb}
use Rattle.bitset.specs.Choice.{pick}
use Rattle.bitset.specs.Set.{least_of, without_of}
use Rattle.parents.specs.Parents.{children_of}
use Rattle.lines.specs.declared.Task.{Task}
use Rattle.lines.specs.declared.Effect.{Effect}
use Rattle.lines.specs.declared.Write.TheVariants.{Nothing, Flag}
use Rattle.lines.specs.Setters.{with_line, with_list, with_flag}
use Rattle.lines.specs.Common.{moves, waits, awaits, raised, counts, work, choose, take_off}

-- 11  NCS ;
-- 01: "Line 11, the task's own work, is one move and leads to 12." 02, P6: as many moves as its work length, and the last leads to 12.
abbrev pub tree11 : Task → Effect
tree11 t = work t

-- 12  lis_p := children(p) ;
-- 01: "list := own children; to 13."
abbrev pub tree12 : List ℕ → ℕ → Task → Effect
tree12 table p t = moves (with_line (with_list t (children_of table p)) 13) Nothing

-- 13  while exists kk_p in lis_p do
-- 01: "if the list is empty, to 15; else looked-at := the least on it, to 14."
abbrev pub tree13 : Task → Effect
tree13 t = choose 15 (least_of t.list) t

-- 14    await (aa[kk_p]) ; remove kk_p from lis_p endwhile ;
-- 01: "await flag of looked-at = 1; take it off; to 13."
abbrev pub tree14 : ℕ → Task → Effect
tree14 flag t = awaits (eqb flag 1) t (take_off t)

-- 15  if p != 0 then aa[p] := true else rear := allthreads endif ; cnt_p ++ ;
-- 01: "flag := 1 unless the task is 0; count rises by 1; to 16."
abbrev pub tree15 : ℕ → Task → Effect
tree15 p t = counts t (moves (with_line (raised (with_flag t (pick (eqb p 0) t.flag 1))) 16) Nothing)

-- 16  await (p = 0 or not aa[p]) ;
-- 01: "await task is 0 or own flag = 0; to 17."
abbrev pub tree16 : ℕ → Task → Effect
tree16 p t = awaits (eqb p 0 || eqb t.flag 0) t (moves (with_line t 17) Nothing)

-- 17  lis_p := children(p) ;
-- 01: "list := own children; to 18."
abbrev pub tree17 : List ℕ → ℕ → Task → Effect
tree17 table p t = moves (with_line (with_list t (children_of table p)) 18) Nothing

-- 18  while exists k in lis_p do aa[k] := false ; remove k from lis_p endwhile ; remove p from rear
-- 01: "if the list is empty, to 11; else clear the flag of the least task on it and take that task off, staying at 18."
abbrev pub tree18 : Task → Effect
tree18 t =
    pick (eqb t.list 0)
    (moves (with_line t 11) Nothing)
    (moves (with_list t (without_of t.list (least_of t.list))) (Flag (least_of t.list) 0))

-- By the line, in three parts; `flag` is the flag of the looked-at task. Another line is none of this barrier and waits.
-- 11 to 13: work, and the head of the loop over the children
unfoldable pub tree_gather : ℕ → List ℕ → ℕ → Task → Effect
tree_gather line table p t =
    pick (eqb line 11) (tree11 t)
    (pick (eqb line 12) (tree12 table p t)
    (pick (eqb line 13) (tree13 t)
    (waits t)))

-- 14 to 16: the loop's await of a child's flag, then the own flag
unfoldable pub tree_meet : ℕ → ℕ → ℕ → Task → Effect
tree_meet line p flag t =
    pick (eqb line 14) (tree14 flag t)
    (pick (eqb line 15) (tree15 p t)
    (pick (eqb line 16) (tree16 p t)
    (waits t)))

-- 17 and 18: the children are let go
unfoldable pub tree_release : ℕ → List ℕ → ℕ → Task → Effect
tree_release line table p t =
    pick (eqb line 17) (tree17 table p t)
    (pick (eqb line 18) (tree18 t)
    (waits t))

abbrev pub tree_line : ℕ → List ℕ → ℕ → ℕ → Task → Effect
tree_line line table p flag t =
    pick (leb line 13) (tree_gather line table p t)
    (pick (leb line 16) (tree_meet line p flag t)
    (tree_release line table p t))
