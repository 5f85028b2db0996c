-- The run of the known tasks of a part, as `play_part` makes it, and what its log tells.
use mathlib.Core.Path.{◌≡◌, refl, sym, ap, ◌∙◌}
use mathlib.Core.List.{List}
use mathlib.Core.Logic.{◌≢◌}
use Prim.Native.Nat.{ℕ, ◌*◌, ◌≤◌}
use native.Mathlib.Omega.{arith}
use lib.ListN.{length, take}
use Rattle.machine.specs.declared.State.{State}
use Rattle.machine.specs.Range.{Valid}
use Rattle.runner.specs.declared.Ran.{Ran}
use Rattle.runner.specs.Trace.{trace_of}
use Rattle.runner.specs.TraceLaws.{made_few}
use Rattle.runner.specs.Run.{log_of, run_of, log_after}
use Rattle.playback.specs.Playback.{triples_of}
use Rattle.playback.specs.Steps.{known_in, same_in, Reports}
use Rattle.playback.specs.StepsLaws.{known_fit, run_turns, run_log, part_all, part_some}

-- the tasks of a part up to the first unknown one
abbrev pub tasks_in : State → List ℕ → List ℕ
tasks_in s trace = known_in s.n (triples_of trace)

-- they have been run, over a log that had room for them
pub record Runs (s : State) (trace : List ℕ) (r : Ran) (log : List ℕ) : Type 0 where
  pub before : List ℕ
  pub ran : r ≡ run_of s (tasks_in s trace) (length (tasks_in s trace)) before
  pub logged : log ≡ log_after s (tasks_in s trace) (length (tasks_in s trace)) before
  pub wide : 8192 ≤ length before

-- the tasks run are all of those in the buffer
pub runs_of : (s : State) (trace : List ℕ) (k : ℕ) (part : List ℕ) → k ≡ length (tasks_in s trace) → part ≡ tasks_in s trace
    → (r : Ran) (log before : List ℕ) → r ≡ run_of s part k before → log ≡ log_after s part k before → 8192 ≤ length before → Runs s trace r log
runs_of s trace k part all whole r log before e l wide =
    record {
      before = before;
      ran = e ∙ ap (λ (ps : List ℕ). run_of s ps k before) whole ∙ ap (λ (n : ℕ). run_of s (tasks_in s trace) n before) all;
      logged = l ∙ ap (λ (ps : List ℕ). log_after s ps k before) whole ∙ ap (λ (n : ℕ). log_after s (tasks_in s trace) n before) all;
      wide = wide;
    }

module _ {s : State} {trace : List ℕ} {r : Ran} {log : List ℕ} (w : Runs s trace r log) (ok : Valid s) (bound : length trace ≤ 12288) where
  -- the turns made, and their bytes in the log
  abbrev made : ℕ
  made = length (trace_of s (tasks_in s trace)).made

  turns : r.turns ≡ made
  turns = ap (λ (x : Ran). x.turns) w.ran ∙ run_turns s trace ok bound w.before w.wide

  pub turns_few : 3 * r.turns ≤ length trace
  turns_few = omega (arith, turns, made_few s (tasks_in s trace), known_fit s trace ok bound)

  rows : take (2 * r.turns) log ≡ log_of (trace_of s (tasks_in s trace)).made
  rows = ap (λ (k : ℕ). take (2 * k) log) turns ∙ ap (take (2 * made)) w.logged ∙ run_log s trace ok bound w.before w.wide

  module _ (k : ℕ) (compared : k ≡ same_in (triples_of trace) (take (2 * r.turns) log)) where
    same : k ≡ same_in (triples_of trace) (log_of (trace_of s (tasks_in s trace)).made)
    same = compared ∙ ap (same_in (triples_of trace)) rows

    -- every turn has the triple's bytes
    pub all_same : k ≡ r.turns → Reports s (triples_of trace) (record { same = k; state = r.state })
    all_same all = rw w.ran (part_all s trace ok bound w.before w.wide k same (all ∙ turns))

    -- a triple differs, and the turns before it are run once more
    pub some_same : k ≢ r.turns → (part : List ℕ) → part ≡ tasks_in s trace → (again : Ran) (first : List ℕ) → again ≡ run_of s part k first → 8192 ≤ length first
        → Reports s (triples_of trace) (record { same = k; state = again.state })
    some_same ne part whole again first e wide =
        rw (e ∙ ap (λ (ps : List ℕ). run_of s ps k first) whole) (part_some s trace ok bound first wide k same (λ z. ne (z ∙ sym turns)))

-- the turns made are few, as what the calls told says it
pub turns_bound : (s : State) (trace : List ℕ) (k : ℕ) (part : List ℕ) (r : Ran) (before : List ℕ) → Valid s → length trace ≤ 12288 → k ≡ length (tasks_in s trace) → part ≡ tasks_in s trace
    → r ≡ run_of s part k before → 8192 ≤ length before → 3 * r.turns ≤ length trace
turns_bound s trace k part r before ok bound all whole e wide =
    turns_few (runs_of s trace k part all whole r (log_after s part k before) before e refl wide) ok bound
