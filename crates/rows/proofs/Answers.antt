-- The answers of a call: where the list is short, where the run is refused as a whole, and where rows are written.
use mathlib.Core.Path.{◌≡◌, refl, sym, ap, ◌∙◌}
use mathlib.Core.Bool.{Bool, true, false, true≢false}
use mathlib.Core.List.{List, ◌++◌}
use mathlib.Core.Logic.{◌≢◌}
use Prim.Native.Nat.{ℕ}
use native.Mathlib.Omega.{arith}
use lib.Dec.{eqb}
use lib.ListN.{length, drop}
use borrow.Author.Tests.{ne_eqb, eqb-false}
use Rattle.bitset.specs.ChoiceLaws.{by_test}
use Rattle.setup.specs.Reasons.{first_reason}
use Rattle.machine.specs.declared.State.{State}
use Rattle.runner.specs.declared.Ran.{Ran}
use Rattle.runner.specs.Run.{run_reason, refused_run, run_of}
use Rattle.runner.specs.RunLaws.{run_refuses, idle_reason}
use Rattle.rows.specs.Rows.{is_refused, listed_reason, listed_of, listed_log, listed_rows}
use Rattle.rows.specs.RowsLaws.{told_refused, told_accepted, Handed, run_hands}

-- ---- a run with an allowance of 0

-- its own refusal is that of a call with a short list, which is refused 10 where it has none; and it writes nothing
module _ (s : State) (schedule log : List ℕ) (r : Ran) (is : r ≡ run_of s schedule 0 log) where
  pub idle_refused : is_refused r.ending ≡ true → (allowance : ℕ) → r ≡ listed_of s schedule allowance log false
  unfolding listed_of listed_reason
  idle_refused told allowance =
      let ne = told_refused s schedule 0 log r is told in
      is ∙ run_refuses s schedule 0 log ne
      ∙ rw (idle_reason s schedule allowance (length log), ne_eqb (run_reason s schedule 0 (length log)) 0 ne)

  pub idle_accepted : is_refused r.ending ≡ false → (allowance : ℕ) → refused_run s 10 0 ≡ listed_of s schedule allowance log false
  unfolding listed_of listed_reason
  idle_accepted told allowance = rw (idle_reason s schedule allowance (length log), told_accepted s schedule 0 log r is told)

-- ---- the list after a call that would write the rows `new`, where `ok` says whether there is room

-- there is a reason where 10 is one
ten_first : (k : ℕ) → first_reason k 10 ≢ 0
ten_first k = by_test (λ x. x ≢ 0) (eqb k 0) (λ _. omega arith) (λ ne. eqb-false k 0 ne)

module _ (s : State) (schedule : List ℕ) (allowance : ℕ) (log : List ℕ) (ok : Bool) (r : Ran) (is : r ≡ listed_of s schedule allowance log ok) where
  abbrev reason : ℕ
  reason = run_reason s schedule allowance (length log)

  pub listed_refused : is_refused r.ending ≡ true → (new rows : List ℕ) → rows ≡ listed_rows (listed_reason s schedule allowance log ok) new rows
  unfolding listed_of listed_reason listed_rows
  listed_refused told new rows = go ok is
    where
      go : (b : Bool) → r ≡ listed_of s schedule allowance log b → rows ≡ listed_rows (listed_reason s schedule allowance log b) new rows
      go true e = let ne = ne_eqb reason 0 (told_refused s schedule allowance log r e told) in rw (ne, ne)
      go false e = rw (ne_eqb (first_reason reason 10) 0 (ten_first reason))

  -- a run that is not refused has room, and is the run
  pub listed_made : is_refused r.ending ≡ false → (ok ≡ true) × (r ≡ run_of s schedule allowance log)
  unfolding listed_of
  listed_made told = go ok is
    where
      go : (b : Bool) → r ≡ listed_of s schedule allowance log b → (b ≡ true) × (r ≡ run_of s schedule allowance log)
      go true e = (refl, e)
      go false e = absurd (true≢false (sym (ap (λ (x : Ran). is_refused x.ending) e) ∙ told))

  pub listed_written : is_refused r.ending ≡ false → (new rows rows' : List ℕ) → rows' ≡ new ++ drop (length new) rows
      → rows' ≡ listed_rows (listed_reason s schedule allowance log ok) new rows
  unfolding listed_reason listed_rows
  listed_written told new rows rows' w =
      let made = listed_made told in
      w ∙ rw (made.0, told_accepted s schedule allowance log r made.1 told)

  -- and what a run hands on for its rows
  pub listed_hands : is_refused r.ending ≡ false → (log' : List ℕ) → log' ≡ listed_log s schedule allowance log ok
      → Handed s schedule allowance log' r.turns
  unfolding listed_log
  listed_hands told log' after =
      let made = listed_made told in
      run_hands s schedule allowance log r log' made.1 (rw made.0 at after) told
