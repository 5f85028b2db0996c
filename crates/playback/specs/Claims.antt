-- What 02 asks of play-back (P4), over what a call answers, in the words of `Agreement`: agreement exactly where every triple is what the defined turn does, the state of the run
-- of the trace's tasks, every run woven into triples, and every cut of a trace that agrees.
use Rattle.std.specs.Prelude.{◌≡◌, List, [], ◌++◌, map, ◌≢◌, ◌↔◌, ℕ, ◌*◌, ◌≤◌, min, take, drop, Ok, Err}
use Rattle.std.proofs.Common.{sym, ap, ◌∙◌, subst, arith, length-take, take-take}
use Rattle.std.proofs.Math.Decide.{ℕ_discrete}
use Rattle.std.proofs.Math.ListN.{length}
use Rattle.schedule.specs.Passes.{max_turns}
use Rattle.machine.specs.declared.State.{State}
use Rattle.machine.specs.Fresh.{Inputs, fresh_reason, fresh_state}
use Rattle.machine.specs.FreshLaws.{fresh_valid}
use Rattle.runner.specs.declared.Ending.TheVariants.{Done}
use Rattle.runner.specs.Trace.{Row}
use Rattle.runner.specs.TraceLaws.{made_few, made_tasks}
use Rattle.runner.specs.Run.{log_of, run_reason, run_of, run_trace}
use Rattle.runner.specs.RunLaws.{run_accepts, run_refuses, log_accepts}
use Rattle.playback.specs.declared.Verdict.TheVariants as verdict
use Rattle.playback.specs.declared.Played.{Played}
use Rattle.playback.specs.Agreement.{tasks_of, AllDo, FirstAt, woven, woven_run}
use Rattle.playback.specs.Playback.{triples_of, play_from, play_reason, play_of}
use Rattle.playback.specs.StepsLaws.{length_triples}
use Rattle.playback.specs.PlaybackLaws.{reason_fresh, reason_trace, play_refused, play_accepted, trace_taken, taken_trace, agrees_exactly, differs_first, agrees_run, cut_does, triples_take, row_task, made_plays, woven_triples, woven_length}

-- a verdict is given only where no reason applies
accepted : (i : Inputs) (trace : List ℕ) → ((k : ℕ) → (play_of i trace).verdict ≢ Err k) → play_reason i trace ≡ 0
accepted i trace ne = go (ℕ_discrete (play_reason i trace) 0)
  where
    go : Dec (play_reason i trace ≡ 0) → play_reason i trace ≡ 0
    go (yes e) = e
    go (no r) = absurd (ne (play_reason i trace) (ap (λ (p : Played). p.verdict) (play_refused i trace r)))

agreed : (i : Inputs) (trace : List ℕ) → (play_of i trace).verdict ≡ Ok verdict.Agrees → play_reason i trace ≡ 0
agreed i trace e = accepted i trace (λ k r. let z : ◌≡◌ {A = ℕ} 0 1 = cc in omega arith)

-- and then the fresh state is accepted
pub fresh_first : (i : Inputs) (trace : List ℕ) → play_reason i trace ≡ 0 → fresh_reason i ≡ 0
fresh_first i trace none = go (ℕ_discrete (fresh_reason i) 0)
  where
    go : Dec (fresh_reason i ≡ 0) → fresh_reason i ≡ 0
    go (yes e) = e
    go (no r) = sym (reason_fresh i trace r) ∙ none

-- "Agreement is reported exactly if every triple equals what the defined turn does": from the state that the triples before lead to, in a call that no
-- reason refuses
pub plays_exactly : (i : Inputs) (trace : List ℕ)
    → ((play_of i trace).verdict ≡ Ok verdict.Agrees) ↔ ((play_reason i trace ≡ 0) × AllDo (fresh_state i) (triples_of trace))
plays_exactly i trace = (
  λ e. let none = agreed i trace e in
      (none, (agrees_exactly (fresh_state i) (triples_of trace)).0 (sym (ap (λ (p : Played). p.verdict) (play_accepted i trace none)) ∙ e)),
  λ w. ap (λ (p : Played). p.verdict) (play_accepted i trace w.0) ∙ (agrees_exactly (fresh_state i) (triples_of trace)).1 w.1,
)

-- else "the index, from 0, of the first triple that differs, with the state before it"
pub plays_first : (i : Inputs) (trace : List ℕ) (k : ℕ) → (play_of i trace).verdict ≡ Ok (verdict.Differs k)
    → FirstAt (fresh_state i) (triples_of trace) k (play_of i trace).state
plays_first i trace k e =
    let none = accepted i trace (λ j r. let z : ◌≡◌ {A = ℕ} 0 1 = cc in omega arith) in
    let is = play_accepted i trace none in
    subst (λ (p : Played). FirstAt (fresh_state i) (triples_of trace) k p.state) (sym is)
    (differs_first (fresh_state i) (triples_of trace) k (sym (ap (λ (p : Played). p.verdict) is) ∙ e))

-- the state of a trace that agrees is that of the run of its tasks, which makes every turn; the run's log has room for them
pub plays_run : (i : Inputs) (trace log : List ℕ) → 2 * length (triples_of trace) ≤ length log → (play_of i trace).verdict ≡ Ok verdict.Agrees
    → (let r = run_of (fresh_state i) (tasks_of (triples_of trace)) (length (triples_of trace)) log in
    (r.state ≡ (play_of i trace).state) × ((r.ending ≡ Done) × (r.turns ≡ length (triples_of trace))))
plays_run i trace log wide e =
    let w = (plays_exactly i trace).0 e in
    let fresh = fresh_first i trace w.0 in
    let few = (trace_taken trace (sym (reason_trace i trace fresh) ∙ w.0)).0 in
    let r = agrees_run (fresh_state i) (triples_of trace) log (fresh_valid i fresh) (omega (arith, length_triples trace)) wide w.1 in
    (r.0 ∙ sym (ap (λ (p : Played). p.state) (play_accepted i trace w.0)), r.1)

-- a trace that agrees, cut anywhere at a triple, agrees
pub cut_plays : (i : Inputs) (trace : List ℕ) (k : ℕ) → (play_of i trace).verdict ≡ Ok verdict.Agrees → (play_of i (take (3 * k) trace)).verdict ≡ Ok verdict.Agrees
cut_plays i trace k e =
    let w = (plays_exactly i trace).0 e in
    let fresh = fresh_first i trace w.0 in
    let taken = trace_taken trace (sym (reason_trace i trace fresh) ∙ w.0) in
    let short : length (take (3 * k) trace) ≡ min (3 * k) (length trace) = length-take (3 * k) trace in
    (plays_exactly i (take (3 * k) trace)).1 (
      reason_trace i (take (3 * k) trace) fresh ∙ taken_trace (take (3 * k) trace) (omega (arith, short, taken.0)) (omega (arith, short, taken.1)),
      rw (triples_take k trace) (cut_does (fresh_state i) (triples_of trace) k w.1),
    )

-- ---- runs

-- what a run that is refused as a whole, and one that isn't, have woven
module _ (s : State) (schedule : List ℕ) (allowance : ℕ) (log : List ℕ) where
  abbrev reason : ℕ
  reason = run_reason s schedule allowance (length log)

  abbrev rows : List Row
  rows = (run_trace s schedule allowance).made

  woven_rows : reason ≡ 0 → woven_run s schedule allowance log ≡ woven (map row_task rows) (log_of rows ++ drop (2 * length rows) log)
  woven_rows e =
      let few : length rows ≤ allowance = omega (arith, made_few s (take allowance schedule), length-take allowance schedule) in
      rw (run_accepts s schedule allowance log e, log_accepts s schedule allowance log e)
      (ap (λ (ts : List ℕ). woven ts (log_of rows ++ drop (2 * length rows) log)) (sym (made_tasks s (take allowance schedule) ∙ take-take (length rows) allowance schedule few)))

  woven_none : reason ≢ 0 → woven_run s schedule allowance log ≡ []
  unfolding woven
  woven_none ne = rw (run_refuses s schedule allowance log ne)

  -- every run from every state, refused or not, is agreed with, and its state is the play-back's
  pub run_agrees : play_from s 0 (triples_of (woven_run s schedule allowance log)) ≡ record { state = (run_of s schedule allowance log).state; verdict = Ok verdict.Agrees }
  unfolding triples_of play_from
  run_agrees = go (ℕ_discrete reason 0)
    where
      go : Dec (reason ≡ 0) → play_from s 0 (triples_of (woven_run s schedule allowance log)) ≡ record { state = (run_of s schedule allowance log).state; verdict = Ok verdict.Agrees }
      go (yes e) =
          rw (woven_rows e, woven_triples rows (drop (2 * length rows) log), run_accepts s schedule allowance log e) (made_plays s 0 (take allowance schedule))
      go (no ne) = rw (woven_none ne, run_refuses s schedule allowance log ne)

  woven_bytes : length (woven_run s schedule allowance log) ≡ 3 * (run_of s schedule allowance log).turns
  woven_bytes = go (ℕ_discrete reason 0)
    where
      go : Dec (reason ≡ 0) → length (woven_run s schedule allowance log) ≡ 3 * (run_of s schedule allowance log).turns
      go (yes e) = rw (woven_rows e, run_accepts s schedule allowance log e) (woven_length rows (drop (2 * length rows) log))
      go (no ne) = rw (woven_none ne, run_refuses s schedule allowance log ne)

-- so a run from a fresh state is always agreed with, where its triples are not too many bytes
pub run_plays : (i : Inputs) (schedule : List ℕ) (allowance : ℕ) (log : List ℕ) → fresh_reason i ≡ 0
    → (let r = run_of (fresh_state i) schedule allowance log in
    3 * r.turns ≤ max_turns → play_of i (woven_run (fresh_state i) schedule allowance log) ≡ record { state = r.state; verdict = Ok verdict.Agrees })
run_plays i schedule allowance log fresh few =
    let s = fresh_state i in
    let bytes = woven_bytes s schedule allowance log in
    play_accepted i (woven_run s schedule allowance log)
    (reason_trace i (woven_run s schedule allowance log) fresh ∙ taken_trace (woven_run s schedule allowance log) (rw bytes few) (rw bytes (omega arith)))
    ∙ run_agrees s schedule allowance log
