-- What `ok` holds, with the rest of the table, is the answer.
use Rattle.std.proofs.Common.{◌≡◌, ◌&&◌, ◌≤◌, length, drop}
use Rattle.setup.specs.Tables.{all_within}
use Rattle.setup.proofs.tables.all_within.Given as goal

abbrev pub invariant-loop-i : goal.invariant-loop-i
invariant-loop-i l = (l.i ≤ length l.table) × (l.ok && all_within l.low l.bound (drop l.i l.table) ≡ all_within l.low l.bound l.table)
