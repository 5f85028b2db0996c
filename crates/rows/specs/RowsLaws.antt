-- Laws of the rows: what the ending tells of a refusal, how long the rows are, and what a run hands on for them.
use Rattle.std.specs.Prelude.{◌≡◌, refl, true, false, List, [], ◌∷◌, ◌++◌, ◌≢◌, ℕ, zero, suc, ◌+◌, ◌*◌, ◌≤◌, min, eqb, ltb, length, take, drop, Ok, Err}
use Rattle.std.proofs.Common.{sym, ap, ◌∙◌, true≢false, add-one, arith, length-append, length-take, length-take-le, take_at, take-take}
use Rattle.std.proofs.Math.Decide.{ℕ_discrete}
use Rattle.bitset.specs.ChoiceLaws.{by_test}
use Rattle.machine.specs.declared.State.{State}
use Rattle.machine.specs.Answers.{Outcome}
use Rattle.machine.specs.Setters.{task_at}
use Rattle.machine.specs.Range.{Valid}
use Rattle.machine.specs.Turn.{turn_of}
use Rattle.runner.specs.declared.Ran.{Ran}
use Rattle.runner.specs.Trace.{Row, Stop, nothing, refusal, Trace, turned, trace_of}
use Rattle.runner.specs.TraceLaws.{trace_none, trace_turn, made_few}
use Rattle.runner.specs.Run.{log_of, ending_of, ending_reason, unstopped, run_reason, run_trace, run_of, log_after}
use Rattle.runner.specs.RunLaws.{run_accepts, run_refuses, run_accepted, run_not_11, log_accepts, length_log}
use Rattle.rows.specs.Rows.{is_refused, turn_row, row_numbers, task_row, task_numbers, listed_reason, listed_of}

-- ---- what the ending tells

-- a run that isn't refused as a whole doesn't end so
unrefused : (e : Stop) (allowance turns : ℕ) → is_refused (ending_of e (unstopped allowance turns)) ≡ false
unrefused nothing allowance turns = by_test (λ x. is_refused x ≡ false) (ltb allowance turns) (λ _. refl) (λ _. refl)
unrefused (refusal p k) allowance turns = refl

module _ (s : State) (schedule : List ℕ) (allowance : ℕ) (log : List ℕ) (r : Ran) (is : r ≡ run_of s schedule allowance log) where
  abbrev reason : ℕ
  reason = run_reason s schedule allowance (length log)

  pub told_refused : is_refused r.ending ≡ true → reason ≢ 0
  told_refused told none =
      true≢false (sym told ∙ ap (λ (x : Ran). is_refused x.ending) (is ∙ run_accepts s schedule allowance log none)
      ∙ unrefused (run_trace s schedule allowance).stop allowance (length schedule))

  pub told_accepted : is_refused r.ending ≡ false → reason ≡ 0
  told_accepted told = go (ℕ_discrete reason 0)
    where
      go : Dec (reason ≡ 0) → reason ≡ 0
      go (yes e) = e
      go (no ne) = absurd (true≢false (ap (λ (x : Ran). is_refused x.ending) (sym (is ∙ run_refuses s schedule allowance log ne)) ∙ told))

  -- then the state is in range
  pub told_valid : is_refused r.ending ≡ false → Valid s
  told_valid told = (run_accepted s schedule allowance (length log) (told_accepted told)).0

-- ---- the rows of tasks

-- where there is room the answer is the run's, and else that of a refused run
pub listed_roomy : (s : State) (schedule : List ℕ) (allowance : ℕ) (log : List ℕ) → listed_of s schedule allowance log true ≡ run_of s schedule allowance log
unfolding listed_of
listed_roomy s schedule allowance log = refl

pub listed_short : (s : State) (schedule : List ℕ) (allowance : ℕ) (log : List ℕ) → is_refused (listed_of s schedule allowance log false).ending ≡ true
unfolding listed_of
listed_short s schedule allowance log = refl

-- then no turn is made, and 11, which is a turn's reason, is not told
pub short_turns : (s : State) (schedule : List ℕ) (allowance : ℕ) (log : List ℕ) → (listed_of s schedule allowance log false).turns ≡ 0
unfolding listed_of
short_turns s schedule allowance log = refl

pub short_not_11 : (s : State) (schedule : List ℕ) (allowance : ℕ) (log : List ℕ) → ending_reason (listed_of s schedule allowance log false).ending ≢ 11
unfolding listed_of listed_reason
short_not_11 s schedule allowance log =
    by_test (λ (k : ℕ). k ≢ 11) (eqb (run_reason s schedule allowance (length log)) 0) (λ _. omega arith) (λ _. run_not_11 s schedule allowance (length log))

pub length_tasks : (r : Ran) (n : ℕ) → length (task_numbers r n) ≡ 4 * n
unfolding task_numbers
length_tasks r zero = refl
length_tasks r (suc q) = omega (arith, length-append (task_numbers r q) (task_row r q), length_tasks r q)

-- of no task, and of one more
pub tasks_none : (r : Ran) → task_numbers r 0 ≡ []
unfolding task_numbers
tasks_none r = refl

pub tasks_more : (r : Ran) (q : ℕ) → task_numbers r (q + 1) ≡ task_numbers r q ++ task_row r q
unfolding task_numbers
tasks_more r q = rw (add-one q)

-- written to a list, of a run that is equal
pub tasks_written : (r r' : Ran) → r ≡ r' → (n : ℕ) (rows rows' : List ℕ) → rows' ≡ task_numbers r n ++ drop (4 * n) rows
    → rows' ≡ task_numbers r' n ++ drop (length (task_numbers r' n)) rows
tasks_written r r' e n rows rows' wrote = wrote ∙ rw (e, length_tasks r' n)

-- ---- the rows of turns

pub rows_none : (s : State) → row_numbers s [] ≡ []
unfolding row_numbers
rows_none s = refl

pub rows_turn : (s : State) (p : ℕ) (ts : List ℕ)
    → row_numbers s (p ∷ ts) ≡ turn_row s p (turn_of s p).state (turn_of s p).outcome (row_numbers (turn_of s p).state ts)
unfolding row_numbers
rows_turn s p ts = refl

-- six numbers for each turn made
pub length_rows : (s : State) (ts : List ℕ) → length (row_numbers s ts) ≡ 6 * length (trace_of s ts).made
length_rows s [] = rw (rows_none s, trace_none s)
length_rows s (p ∷ ts) = rw (rows_turn s p ts, trace_turn s p ts) (go (turn_of s p).outcome (length_rows (turn_of s p).state ts))
  where
    rest : Trace
    rest = trace_of (turn_of s p).state ts

    more : List ℕ
    more = row_numbers (turn_of s p).state ts

    go : (o : Outcome) → length more ≡ 6 * length rest.made → length (turn_row s p (turn_of s p).state o more) ≡ 6 * length (turned s p o rest).made
    go (Ok how) ih = omega (arith, ih)
    go (Err k) ih = refl

-- the turns made, taken alone: nothing stops them, and they have the same rows
pub record Alone (s : State) (all made : List ℕ) : Type 0 where
  pub on : (trace_of s made).stop ≡ nothing
  pub same : (trace_of s made).made ≡ (trace_of s all).made
  pub rows : row_numbers s made ≡ row_numbers s all

pub made_alone : (s : State) (ts : List ℕ) → Alone s ts (take (length (trace_of s ts).made) ts)
unfolding row_numbers
made_alone s [] = rw (trace_none s) (record { on = rw (trace_none s); same = refl; rows = refl })
made_alone s (p ∷ ts) = rw (trace_turn s p ts) (go (turn_of s p).outcome refl (made_alone (turn_of s p).state ts))
  where
    rest : Trace
    rest = trace_of (turn_of s p).state ts

    go : (o : Outcome) → (turn_of s p).outcome ≡ o → Alone (turn_of s p).state ts (take (length rest.made) ts)
        → Alone s (p ∷ ts) (take (length (turned s p o rest).made) (p ∷ ts))
    go (Ok how) e ih =
        record {
          on = rw (trace_turn s p (take (length rest.made) ts), e) ih.on;
          same = rw (trace_turn s p (take (length rest.made) ts), trace_turn s p ts, e) (ap (λ (l : List Row). record { task = p; line = (task_at s p).line; how = how } ∷ l) ih.same);
          rows = rw e (ap (λ (l : List ℕ). turn_row s p (turn_of s p).state (Ok how) l) ih.rows);
        }
    go (Err k) e ih = record { on = rw (trace_none s); same = rw (trace_none s, trace_turn s p ts, e); rows = rw e }

-- What a run that is not refused as a whole hands on: the turns that it made, as the first of the schedule, and their rows of the log.
pub record Handed (s : State) (schedule : List ℕ) (allowance : ℕ) (log' : List ℕ) (turns : ℕ) : Type 0 where
  pub few : turns ≤ min allowance (length schedule)
  pub room : 2 * turns ≤ length log'
  pub on : (trace_of s (take turns schedule)).stop ≡ nothing
  pub logged : take (2 * turns) log' ≡ log_of (trace_of s (take turns schedule)).made
  pub rows : row_numbers s (take turns schedule) ≡ row_numbers s (take allowance schedule)
  pub long : length (row_numbers s (take allowance schedule)) ≡ 6 * turns

pub run_hands : (s : State) (schedule : List ℕ) (allowance : ℕ) (log : List ℕ) (r : Ran) (log' : List ℕ) → r ≡ run_of s schedule allowance log
    → log' ≡ log_after s schedule allowance log → is_refused r.ending ≡ false → Handed s schedule allowance log' r.turns
run_hands s schedule allowance log r log' is after told =
    let none = told_accepted s schedule allowance log r is told in
    rw (after, is, run_accepts s schedule allowance log none, log_accepts s schedule allowance log none)
    (record {
      few = few;
      room = omega (arith, length-append (log_of made) (drop (2 * turns) log), length_log made);
      on = rw (← first) alone.on;
      logged = take_at (log_of made) (drop (2 * turns) log) (2 * turns) (length_log made) ∙ rw (← first) (ap log_of (sym alone.same));
      rows = rw (← first) alone.rows;
      long = length_rows s ts;
    })
  where
    ts : List ℕ
    ts = take allowance schedule

    made : List Row
    made = (trace_of s ts).made

    turns : ℕ
    turns = length made

    alone : Alone s ts (take turns ts)
    alone = made_alone s ts

    few : turns ≤ min allowance (length schedule)
    few = omega (arith, made_few s ts, length-take allowance schedule)

    -- they are the first of the schedule
    first : take turns ts ≡ take turns schedule
    first = take-take turns allowance schedule (omega (arith, few))

-- their rows, written to a list, are those of the run
pub turns_written : {s : State} {schedule : List ℕ} {allowance : ℕ} {log' : List ℕ} {turns : ℕ} → Handed s schedule allowance log' turns
    → (rows rows' : List ℕ) → rows' ≡ row_numbers s (take turns schedule) ++ drop (6 * length (take turns schedule)) rows
    → rows' ≡ row_numbers s (take allowance schedule) ++ drop (length (row_numbers s (take allowance schedule))) rows
turns_written {s} {schedule} {allowance} {log'} {turns} h rows rows' wrote =
    let long : length (take turns schedule) ≡ turns = length-take-le turns schedule (omega (arith, h.few)) in
    wrote ∙ rw (h.rows, h.long, long)
