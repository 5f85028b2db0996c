-- `print_run` meets its contract: nothing refuses the passes and the run.
use Rattle.std.proofs.Common.{◌≡◌, true, ℕ, List, ◌-◌, ◌≤◌, length, replicate, ap, ◌∙◌, arith}
use Rattle.std.proofs.lemmas.List.{length-replicate}
use Rattle.schedule.specs.Passes.{all_tasks, passes_answer, passes_count}
use Rattle.machine.specs.declared.State.{State}
use Rattle.machine.specs.Range.{Valid}
use Rattle.machine.specs.RangeLaws.{range}
use Rattle.machine.specs.Least.{least_up_to}
use Rattle.runner.specs.declared.Ran.{Ran}
use Rattle.runner.specs.Run.{run_of}
use Rattle.sheet_text.specs.Print.{rows_by, table_with}
use Rattle.sheet_text.specs.Steps.{ran_row, table_from}
use Rattle.sheet_text.specs.StepsLaws.{counted, ran_table}
use Rattle.sheet_text.proofs.print_run.Goals as goal

-- the table of what the run r has answered
shown : (s : State) (ts : List ℕ) → Valid s → length ts ≤ 32768 → all_tasks s.n ts ≡ true → (passes : ℕ) (r : Ran) → passes ≡ passes_count (passes_answer s.n ts 65536)
    → r ≡ run_of s ts (length ts) (replicate 65536 0) → table_with (rows_by (ran_row r) s.n) passes (least_up_to r.state (s.n - 1)) ≡ table_from s ts
shown s ts ok few all passes r p e =
    ap (λ (k : ℕ). table_with (rows_by (ran_row r) s.n) k (least_up_to r.state (s.n - 1))) (p ∙ counted s ts ok few all)
    ∙ ran_table s ts ok few all (replicate 65536 0) (omega (arith, length-replicate {A = ℕ} 65536 0)) r e

pub table-requires : goal.table-requires
table-requires c = let known = range c.args.begin.state c.args.begin.valid in (known.some, known.few)

pub returns : goal.returns
returns c =
    rw (← shown c.args.begin.state c.args.schedule.now c.args.begin.valid c.requires.0 c.requires.1 c.pass_count-passes.result c.run-ran.result c.pass_count-passes.ensures c.run-ran.ensures.value)
    c.table.ensures
