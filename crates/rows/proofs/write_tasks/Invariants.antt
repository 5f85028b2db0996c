-- The tasks passed have their rows.
use Rattle.std.proofs.Common.{◌*◌, ◌≡◌, ◌++◌, drop}
use Rattle.rows.specs.Rows.{task_numbers}
use Rattle.rows.proofs.write_tasks.Given as goal

abbrev pub invariant-loop-q : goal.invariant-loop-q
invariant-loop-q l = l.rows ≡ task_numbers l.ran l.q ++ drop (4 * l.q) l.fn.rows
