-- Laws of what the exported functions answer: from a state that a list keeps they are those of the library's own calls.
use Rattle.std.specs.Prelude.{◌≡◌, true, false, List, ◌≢◌, ℕ, length, Ok}
use Rattle.std.proofs.Math.Path.{ap}
use Rattle.std.proofs.Math.Decide.{ℕ_discrete}
use Rattle.std.proofs.Common.{eq-eqb, ne_eqb}
use Rattle.machine.specs.declared.State.{State}
use Rattle.machine.specs.Fresh.{Inputs, fresh_of}
use Rattle.machine.specs.Turn.{turn_of, reason_number}
use Rattle.machine.specs.Ready.{ready_of}
use Rattle.runner.specs.declared.Ran.{Ran}
use Rattle.playback.specs.declared.Played.{Played}
use Rattle.playback.specs.Playback.{verdict_reason}
use Rattle.rows.specs.Rows.{turn_room, task_room, is_refused, listed_of, listed_log, turn_rows_after, task_rows_after}
use Rattle.snapshot.specs.Snapshot.{room_reason, saved_to, load_of, load_answer}
use Rattle.tungwaff.specs.Entry.{Begun, fresh_into, fresh_list, kept_in, tasks_from, rows_from, tasks_ran, tasks_log, rows_ran, rows_log, kept_after, turned_from, turn_list, ready_kept, kept_verdict, kept_played}

-- ---- from a list that keeps a state

module _ (list : List ℕ) (s : State) (e : load_of list ≡ record { state = s; reason = 0 }) where
  -- the state to begin with
  abbrev from : Begun
  from = Ok s

  kept : kept_in list ≡ from
  kept = ap load_answer e

  pub turned_kept : (p : ℕ) → turned_from (kept_in list) p ≡ turn_of s p
  turned_kept p = ap (λ (b : Begun). turned_from b p) kept

  pub ready_kept_lem : ready_kept (kept_in list) ≡ (ready_of s).ready
  ready_kept_lem = ap ready_kept kept

  module _ (schedule : List ℕ) (allowance : ℕ) (log : List ℕ) where
    pub tasks_kept : (tasks : List ℕ) → tasks_ran (kept_in list) schedule allowance log tasks ≡ listed_of s schedule allowance log (task_room s (length tasks))
    tasks_kept tasks = ap (λ (b : Begun). tasks_ran b schedule allowance log tasks) kept

    pub rows_kept : (rows : List ℕ) → rows_ran (kept_in list) schedule allowance log rows ≡ listed_of s schedule allowance log (turn_room schedule allowance (length rows))
    rows_kept rows = ap (λ (b : Begun). rows_ran b schedule allowance log rows) kept

    -- what is left in the log and in the list of numbers
    pub tasks_left : (tasks : List ℕ)
        → (tasks_log (kept_in list) schedule allowance log tasks ≡ listed_log s schedule allowance log (task_room s (length tasks)))
        × (tasks_from (kept_in list) schedule allowance log tasks ≡ task_rows_after s schedule allowance log tasks)
    tasks_left tasks = (ap (λ (b : Begun). tasks_log b schedule allowance log tasks) kept, ap (λ (b : Begun). tasks_from b schedule allowance log tasks) kept)

    pub rows_left : (rows : List ℕ)
        → (rows_log (kept_in list) schedule allowance log rows ≡ listed_log s schedule allowance log (turn_room schedule allowance (length rows)))
        × (rows_from (kept_in list) schedule allowance log rows ≡ turn_rows_after s schedule allowance log rows)
    rows_left rows = (ap (λ (b : Begun). rows_log b schedule allowance log rows) kept, ap (λ (b : Begun). rows_from b schedule allowance log rows) kept)

-- ---- the list that keeps a state, after a call

module _ (ran : Ran) (list : List ℕ) where
  pub kept_refused : is_refused ran.ending ≡ true → kept_after ran list ≡ list
  unfolding kept_after
  kept_refused e = rw e

  pub kept_made : is_refused ran.ending ≡ false → kept_after ran list ≡ saved_to ran.state list
  unfolding kept_after
  kept_made e = rw e

module _ (list : List ℕ) (p : ℕ) where
  abbrev reason : ℕ
  reason = reason_number (turned_from (kept_in list) p).outcome

  pub turn_refused : reason ≢ 0 → turn_list list p ≡ list
  unfolding turn_list
  turn_refused ne = rw (ne_eqb reason 0 ne)

  pub turn_made : reason ≡ 0 → turn_list list p ≡ saved_to (turned_from (kept_in list) p).state list
  unfolding turn_list
  turn_made e = rw (eq-eqb reason 0 e)

pub fresh_made : (i : Inputs) (list : List ℕ) → fresh_into i list ≡ 0 → ((fresh_of i).reason ≡ 0) × (room_reason list ≡ 0) × (fresh_list i list ≡ saved_to (fresh_of i).state list)
unfolding fresh_list
fresh_made i list e = go (ℕ_discrete (fresh_of i).reason 0)
  where
    go : Dec ((fresh_of i).reason ≡ 0) → ((fresh_of i).reason ≡ 0) × (room_reason list ≡ 0) × (fresh_list i list ≡ saved_to (fresh_of i).state list)
    go (yes z) = let test = eq-eqb (fresh_of i).reason 0 z in (z, rw test at e, rw test)
    go (no ne) = absurd (ne (rw (ne_eqb (fresh_of i).reason 0 ne) at e))

-- a play-back whose state was saved
pub played_made : (p : Played) (list : List ℕ) → verdict_reason (kept_verdict p list) ≡ 0
    → (verdict_reason p.verdict ≡ 0) × (room_reason list ≡ 0) × (kept_played p list ≡ saved_to p.state list)
unfolding kept_verdict kept_played
played_made p list = go (ℕ_discrete (verdict_reason p.verdict) 0) (ℕ_discrete (room_reason list) 0)
  where
    Made : Type 0
    Made = (verdict_reason p.verdict ≡ 0) × (room_reason list ≡ 0) × (kept_played p list ≡ saved_to p.state list)

    go : Dec (verdict_reason p.verdict ≡ 0) → Dec (room_reason list ≡ 0) → verdict_reason (kept_verdict p list) ≡ 0 → Made
    go (yes z) (yes room) = λ _. (z, room, rw (eq-eqb (verdict_reason p.verdict) 0 z))
    go (yes z) (no short) = rw (eq-eqb (verdict_reason p.verdict) 0 z, ne_eqb (room_reason list) 0 short) (λ e. absurd (short e))
    go (no ne) _ = rw (ne_eqb (verdict_reason p.verdict) 0 ne) (λ e. absurd (ne e))
