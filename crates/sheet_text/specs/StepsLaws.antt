-- Laws of what is printed of a state in range and turns that are tasks: by what the passes and the run answer.
use Rattle.std.specs.Prelude.{◌≡◌, true, ℕ, ◌-◌, ◌≤◌, ◌<◌, length}
use Rattle.std.proofs.Common.{ap, arith}
use mathlib.Core.List.{List, []}
use Rattle.std.proofs.Math.Seq.{take-length}
use Rattle.bitset.specs.TableLaws.{table_at}
use Rattle.schedule.specs.Passes.{passes_of, all_tasks, passes_answer, passes_count}
use Rattle.schedule.specs.PassesLaws.{passes_few, passes_answered}
use Rattle.machine.specs.declared.State.{State}
use Rattle.machine.specs.Fresh.{fresh_reason, fresh_state}
use Rattle.machine.specs.FreshLaws.{fresh_accepted}
use Rattle.machine.specs.Range.{Valid}
use Rattle.machine.specs.RangeLaws.{range}
use Rattle.machine.specs.Least.{least_up_to}
use Rattle.machine.specs.LeastLaws.{least_is}
use Rattle.runner.specs.declared.Ran.{Ran}
use Rattle.runner.specs.Trace.{Trace, trace_of}
use Rattle.runner.specs.TraceLaws.{trace_n}
use Rattle.runner.specs.Run.{moves_in, waits_in, unstopped, ran_of, run_of}
use Rattle.runner.specs.RunLaws.{run_accepts, run_unrefused}
use Rattle.reader.specs.Read.{Five}
use Rattle.sheet_text.specs.Print.{row_of, rows_by, table_with, sheet_table}
use Rattle.sheet_text.specs.Steps.{ran_row, table_from}
use Rattle.sheet_text.specs.PrintLaws.{rows_same}

module _ (s : State) (ts : List ℕ) (ok : Valid s) (few : length ts ≤ 32768) (all : all_tasks s.n ts ≡ true) where
  -- nothing refuses the passes
  pub counted : passes_count (passes_answer s.n ts 65536) ≡ length (passes_of s.n ts)
  counted = rw (passes_answered s.n ts 65536 (range s ok).some (range s ok).few (omega arith) (omega (arith, passes_few s.n [] ts)), all)

  -- nor the run, and its allowance is enough
  ran : (log : List ℕ) → 65536 ≤ length log → run_of s ts (length ts) log ≡ ran_of (trace_of s ts) (unstopped (length ts) (length ts))
  ran log h = rw (run_accepts s ts (length ts) log (run_unrefused s ts (length ts) (length log) ok (omega arith) all (omega arith)), take-length)

  -- its table, by what it answers
  pub ran_table : (log : List ℕ) → 65536 ≤ length log → (r : Ran) → r ≡ run_of s ts (length ts) log
      → table_with (rows_by (ran_row r) s.n) (length (passes_of s.n ts)) (least_up_to r.state (s.n - 1)) ≡ table_from s ts
  unfolding table_from
  ran_table log h r e =
      rw (e, ran log h, least_is (trace_of s ts).state, trace_n s ts)
      (ap (λ (rows : List ℕ). table_with rows (length (passes_of s.n ts)) (least_up_to (trace_of s ts).state (s.n - 1))) (rows_same (ran_row (ran_of t (unstopped (length ts) (length ts)))) (row_of t) s.n same))
    where
      t : Trace
      t = trace_of s ts

      same : (q : ℕ) → q < s.n → ran_row (ran_of t (unstopped (length ts) (length ts))) q ≡ row_of t q
      same q l =
          let h : q < 64 = omega (arith, (range s ok).few) in
          rw (table_at 64 (moves_in t.made) q 0 h, table_at 64 (waits_in t.made) q 0 h)

-- the table of five things is that of their fresh state and their turns
pub table_of : (f : Five) → fresh_reason f.inputs ≡ 0 → sheet_table f ≡ table_from (fresh_state f.inputs) f.schedule
unfolding sheet_table table_from
table_of f z = rw (fresh_accepted f.inputs z)
