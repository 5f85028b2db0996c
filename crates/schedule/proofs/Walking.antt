-- Walking to the end of a pass: while none has ended, the first pass is that of the turns since the place and those still to come.
use mathlib.Core.Path.{◌≡◌, sym, ◌∙◌}
use mathlib.Core.Bool.{true, false}
use mathlib.Core.List.{List, [], ◌∷◌, ◌++◌}
use Prim.Native.Nat.{ℕ, ◌+◌, ◌≤◌, ◌<◌}
use native.Mathlib.Omega.{arith}
use lib.Dec.{leb}
use borrow.Author.Tests.{leb-true}
use Rattle.std.proofs.Math.Bool.{and-eq-true_iff}
use lib.ListN.{length, get_or, drop, length-append, drop_of_length-le}
use Rattle.bitset.specs.Set.{with_of, all_of}
use Rattle.bitset.specs.Tasks.{is_count}
use Rattle.schedule.specs.Passes.{passes_from, passes_of, all_tasks}
use Rattle.schedule.specs.FirstPass.{first_pass_of}
use Rattle.schedule.proofs.Walk.{Seen, seen_more, all_tasks_later, all_tasks_end, ends_here, goes_on_lem}

-- the passes from the place on, told by what is left of the schedule
pub record Walking (n : ℕ) (ts : List ℕ) (place seen i : ℕ) : Type 0 where
  pub since : List ℕ
  pub named : Seen n since seen
  pub walked : place + length since ≡ i
  pub tasks : all_tasks n (drop place ts) ≡ all_tasks n (drop i ts)
  pub passes : passes_of n (drop place ts) ≡ passes_from n since (drop i ts)

pub empty : (n place : ℕ) (ts : List ℕ) → first_pass_of n place ts ≡ [] → place ≡ place + length (first_pass_of n place ts)
empty n place ts e = rw e (omega arith)

pub none : (n place : ℕ) (ts : List ℕ) → false ≡ is_count n → first_pass_of n place ts ≡ []
unfolding first_pass_of
none n place ts e = rw (← e)

module _ {n : ℕ} {ts : List ℕ} {place seen i : ℕ} (w : Walking n ts place seen i) (some : true ≡ is_count n) where
  high : n ≤ 64
  high = leb-true n 64 ((and-eq-true_iff (leb 1 n) (leb n 64)).0 (sym some)).1

  pub unknown : all_tasks n (drop i ts) ≡ false → first_pass_of n place ts ≡ []
  unfolding first_pass_of
  unknown u = rw (← some, w.tasks, u)

  pub over : length ts ≤ i → first_pass_of n place ts ≡ []
  unfolding first_pass_of passes_from
  over l = rw (← some, w.tasks, all_tasks_end n ts i l, w.passes, drop_of_length-le ts {i = i} l)

  module _ (l : i < length ts) (known : get_or ts i 0 < n) where
    pub unknown_later : all_tasks n (drop (i + 1) ts) ≡ false → first_pass_of n place ts ≡ []
    unknown_later u = unknown (all_tasks_later n ts i l known ∙ u)

    pub ended : with_of seen (get_or ts i 0) ≡ all_of n → all_tasks n (drop (i + 1) ts) ≡ true → i + 1 ≡ place + length (first_pass_of n place ts)
    unfolding first_pass_of
    ended e u =
        rw (← some, w.tasks, all_tasks_later n ts i l known, u, w.passes, ends_here n ts i l high known w.named e)
        (omega (arith, w.walked, length-append w.since (get_or ts i 0 ∷ [])))

    pub not_yet : (with_of seen (get_or ts i 0) ≡ all_of n → ⊥) → Walking n ts place (with_of seen (get_or ts i 0)) (i + 1)
    not_yet e =
        record {
          since = w.since ++ get_or ts i 0 ∷ [];
          named = seen_more high known w.named;
          walked = omega (arith, w.walked, length-append w.since (get_or ts i 0 ∷ []));
          tasks = w.tasks ∙ all_tasks_later n ts i l known;
          passes = w.passes ∙ goes_on_lem n ts i l high known w.named e;
        }
