-- What the places of `Round` are: within a round, and a move takes its task on by one.
use Rattle.std.specs.Prelude.{◌≡◌, ◌≢◌, ℕ, ◌+◌, ◌-◌, ◌*◌, ◌<◌, eqb}
use Rattle.std.proofs.Common.{arith}
use Rattle.bitset.specs.ChoiceLaws.{by_test}
use Rattle.bitset.specs.Set.{bit, without_of, size_of}
use Rattle.bitset.specs.SetLaws.{size_zero, without_size}
use Rattle.lines.specs.declared.Task.{Task}
use Rattle.machine.specs.declared.State.{State}
use Rattle.machine.specs.Setters.{task_at}
use Rattle.machine.specs.Range.{table_of}
use Rattle.machine.specs.Turn.{effect_of}
use Rattle.barrier.specs.Barrier.{Able, Holds, Leads, times_done}
use Rattle.tree.specs.Invariant.{Inv}
use Rattle.tree.proofs.TreeRange.{list_size}
use Rattle.tree.proofs.Lines.{by_line}
use Rattle.tree.specs.Round.{children, L, offset_at, offset}

pub within : (s : State) → Holds 3 Inv s → (q : ℕ) → q < s.n → offset s.n (table_of s) q (task_at s q) < L s.n (table_of s) q
within s i q h =
    by_test Under (eqb line 16) (λ _. omega arith)
    (λ _. by_test Under (eqb line 17) (λ _. omega arith)
    (λ _. by_test Under (eqb line 18) (λ _. omega arith)
    (λ _. by_test Under (eqb line 11) (λ _. omega arith)
    (λ _. by_test Under (eqb line 12) (λ _. omega arith)
    (λ _. by_test Under (eqb line 13) (λ _. omega arith)
    (λ _. by_test Under (eqb line 14) (λ _. omega arith) (λ _. omega arith)))))))
  where
    line : ℕ
    line = (task_at s q).line

    Under : ℕ → Type 0
    Under x = x < L s.n (table_of s) q

-- how far a task that is t, with k children, is
abbrev placed : ℕ → Task → ℕ
placed k t = t.count * (3 * k + 7) + offset_at k t.line (size_of t.list)

module _ (s : State) (p : ℕ) (i : Holds 3 Inv s) (able : Able s p) where
  -- one task less on the list
  fewer : (r : ℕ) → bit (task_at s p).list r ≡ 1
      → children (table_of s) p - size_of (without_of (task_at s p).list r) ≡ children (table_of s) p - size_of (task_at s p).list + 1
  fewer r on = omega (arith, list_size s i.valid i.kind p able.0, without_size (task_at s p).list r on)

  -- 15 counts the work, and the lines from 12 on lead there
  pub done : (task_at s p).line ≢ 11 → times_done 15 (effect_of s p).task ≡ times_done 15 (task_at s p)
  done off =
      by_line (λ e. times_done 15 e.task ≡ times_done 15 (task_at s p)) s p i.valid i.kind able
      (λ l. absurd (off l)) (λ l. rw l) (λ l z. rw l) (λ k l on. rw l) (λ l up. rw l) (λ l z. rw l (omega arith)) (λ l ne. rw l (omega arith)) (λ l w. rw l) (λ l. rw l) (λ l z. rw l) (λ k l on. rw l)

  -- a move that leads on takes the task on by one
  pub own : Leads s p → placed (children (table_of s) p) (effect_of s p).task ≡ placed (children (table_of s) p) (task_at s p) + 1 + 0
  own =
      by_line (λ e. ((task_at s p).line ≡ 11 → e.task.line ≡ 12) → placed (children (table_of s) p) e.task ≡ placed (children (table_of s) p) (task_at s p) + 1 + 0) s p i.valid i.kind able
      (λ l to left from most on. rw (l, on l) (omega arith))
      (λ l _. rw l (omega arith))
      (λ l z _. rw (l, z, size_zero) (omega arith))
      (λ k l on _. rw l (omega arith))
      (λ l up _. rw l (omega (arith, fewer (task_at s p).looked (i.inv.standing.looks p able.0 l))))
      (λ l z _. rw l (omega arith))
      (λ l ne _. rw l (omega arith))
      (λ l w _. rw l (omega arith))
      (λ l _. rw l (omega arith))
      (λ l z _. rw (l, z, size_zero) (omega arith))
      (λ k l on _. rw l (omega (arith, fewer k on)))
