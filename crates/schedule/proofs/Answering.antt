-- The answers of `passes`: what `count` tells of the schedule, and an answer for each return.
use mathlib.Core.Path.{◌≡◌, refl}
use mathlib.Core.Bool.{Bool, true, false}
use mathlib.Core.List.{List}
use Prim.Native.Nat.{ℕ, ◌*◌, ◌/◌, ◌≤◌, ◌<◌}
use native.Mathlib.Omega.{arith}
use lib.ListN.{length}
use borrow.Author.Tests.{le-leb, lt-leb}
use Rattle.std.specs.Prelude.{Ok, Err}
use Rattle.bitset.specs.Choice.{pick}
use Rattle.bitset.specs.Tasks.{is_count}
use Rattle.reason.specs.declared.PlacedRefusal.{PlacedRefusal}
use Rattle.reason.specs.Placed.{placed}
use Rattle.schedule.specs.Passes.{passes_of, max_turns, unknown_at, all_tasks, count_answer, passes_answer, with_pairs, pairs_after}

-- what the answer of `count` tells of the schedule
pub told-count : (n : ℕ) (ts : List ℕ) (k : ℕ) → Ok k ≡ count_answer n ts → (all_tasks n ts ≡ true) × (k ≡ length (passes_of n ts))
unfolding count_answer
told-count n ts k = go (all_tasks n ts)
  where
    go : (b : Bool) → Ok k ≡ pick b (Ok (length (passes_of n ts))) (Err (placed 9 (unknown_at n ts))) → (b ≡ true) × (k ≡ length (passes_of n ts))
    go true e = (refl, cc)
    go false e = cc

pub told_refused : (n : ℕ) (ts : List ℕ) (r : PlacedRefusal) → Err r ≡ count_answer n ts → (all_tasks n ts ≡ false) × (r ≡ placed 9 (unknown_at n ts))
unfolding count_answer
told_refused n ts r = go (all_tasks n ts)
  where
    go : (b : Bool) → Err r ≡ pick b (Ok (length (passes_of n ts))) (Err (placed 9 (unknown_at n ts))) → (b ≡ false) × (r ≡ placed 9 (unknown_at n ts))
    go true e = cc
    go false e = (refl, cc)

-- the two tests of a number of tasks
pub count_below : (n : ℕ) → n < 1 → false ≡ is_count n
count_below n h = rw (lt-leb 1 n h)

pub count_above : (n : ℕ) → 1 ≤ n → 64 < n → false ≡ is_count n
count_above n some h = rw (le-leb 1 n some, lt-leb n 64 h)

pub count_within : (n : ℕ) → 1 ≤ n → n ≤ 64 → true ≡ is_count n
count_within n some few = rw (le-leb 1 n some, le-leb n 64 few)

module _ (n : ℕ) (ts pairs : List ℕ) where
  -- what a refused call leaves
  pub refused : (r : PlacedRefusal) → Err r ≡ passes_answer n ts (length pairs) → pairs ≡ pairs_after n ts pairs
  unfolding pairs_after
  refused r e = rw (← e)

  pub refused-3 : false ≡ is_count n → Err (placed 3 0) ≡ passes_answer n ts (length pairs)
  unfolding passes_answer
  refused-3 e = rw (← e)

  module _ (some : true ≡ is_count n) where
    pub refused-8 : max_turns < length ts → Err (placed 8 0) ≡ passes_answer n ts (length pairs)
    unfolding passes_answer
    refused-8 l = rw (← some, lt-leb (length ts) max_turns l)

    module _ (short : length ts ≤ max_turns) where
      pub refused-9 : (r : PlacedRefusal) → Err r ≡ count_answer n ts → Err r ≡ passes_answer n ts (length pairs)
      unfolding passes_answer
      refused-9 r e =
          let t = told_refused n ts r e in
          rw (t.1, ← some, le-leb (length ts) max_turns short, t.0)

      module _ (k : ℕ) (e : Ok k ≡ count_answer n ts) where
        pub refused-10 : length pairs / 2 < k → Err (placed 10 0) ≡ passes_answer n ts (length pairs)
        unfolding passes_answer
        refused-10 l =
            let t = told-count n ts k e in
            rw (← some, le-leb (length ts) max_turns short, t.0, lt-leb (2 * length (passes_of n ts)) (length pairs) (omega (arith, t.1)))

        pub accepted : k ≤ length pairs / 2 → Ok k ≡ passes_answer n ts (length pairs)
        unfolding passes_answer
        accepted l =
            let t = told-count n ts k e in
            let room = le-leb (2 * length (passes_of n ts)) (length pairs) (omega (arith, t.1)) in
            rw (← some, le-leb (length ts) max_turns short, t.0, room, t.1)

  -- and an accepted one
  pub filled : (k : ℕ) → Ok k ≡ passes_answer n ts (length pairs) → with_pairs n ts pairs ≡ pairs_after n ts pairs
  unfolding pairs_after
  filled k e = rw (← e)
