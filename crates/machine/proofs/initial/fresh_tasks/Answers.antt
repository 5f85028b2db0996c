use Rattle.std.proofs.Common.{◌≡◌, List, ℕ, arith, rules}
use Rattle.bitset.specs.Table.{table}
use Rattle.bitset.specs.TableLaws.{length_table, table_none, table_more}
use Rattle.lines.specs.declared.Task.{Task}
use Rattle.lines.specs.Setters.{zero_task}
use Rattle.setup.specs.Tables.{start_of, work_of}
use Rattle.machine.specs.Fresh.{task_with}
use Rattle.machine.proofs.Arrays.{store_next}
use Rattle.machine.proofs.initial.fresh_tasks.Goals as goal

-- the task q
abbrev fresh : List ℕ → List ℕ → ℕ → ℕ → Task
fresh starts works own q = task_with (start_of starts q) (work_of works q) own

pub loop-q-init : goal.loop-q-init
loop-q-init c =
    let a = c.args in
    let zero : c.default-all.result ≡ zero_task = search rules in
    rw (table_none (fresh a.starts.now a.works.now a.own), zero)

pub loop-q-preserved : goal.loop-q-preserved
loop-q-preserved c =
    let a = c.args in
    let at = fresh a.starts.now a.works.now a.own in
    let q = c.loop-q.q in
    rw (table_more q at, c.fresh_task.ensures, c.work_of.ensures, c.start_of.ensures, c.loop-q.invariant)
    (store_next (table q at) 64 q (at q) zero_task (length_table q at) (omega arith))
