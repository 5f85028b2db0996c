-- What the places of `Round` are: within a round, and a move takes its task on by one.
use Rattle.std.specs.Prelude.{◌≡◌, true, ◌≢◌, ℕ, ◌+◌, ◌*◌, ◌≤◌, ◌<◌, eqb}
use Rattle.std.proofs.Common.{arith}
use Rattle.bitset.specs.ChoiceLaws.{by_test}
use Rattle.bitset.specs.Set.{all_of, within_of, size_of}
use Rattle.bitset.specs.SetLaws.{size_zero, without_size, all_size, within_size}
use Rattle.lines.specs.declared.Task.{Task}
use Rattle.machine.specs.declared.State.{State}
use Rattle.machine.specs.Setters.{task_at}
use Rattle.machine.specs.Turn.{effect_of}
use Rattle.machine.specs.RangeLaws.{range}
use Rattle.barrier.specs.Barrier.{Able, Holds, Leads, times_done}
use Rattle.symmetric.specs.Invariant.{Inv}
use Rattle.symmetric.proofs.Lines.{by_line}
use Rattle.symmetric.specs.Round.{offset_in}

pub within : (s : State) → Holds 0 Inv s → (q : ℕ) → q < s.n → offset_in s.n (task_at s q) < 2 * s.n + 3
within s i q h =
    by_test (λ x. x < 2 * s.n + 3) (eqb (task_at s q).line 13) (λ _. omega arith)
    (λ _. by_test (λ x. x < 2 * s.n + 3) (eqb (task_at s q).line 14) (λ _. omega arith)
    (λ _. by_test (λ x. x < 2 * s.n + 3) (eqb (task_at s q).line 11) (λ _. omega arith) (λ _. omega arith)))

-- ---- what a move makes of its own task

module _ (s : State) (p : ℕ) (i : Holds 0 Inv s) (a : Able s p) where
  -- a list has N tasks at most
  size_le : size_of (task_at s p).list ≤ s.n
  size_le =
      let r = range s i.valid in
      let w : within_of (task_at s p).list (all_of s.n) ≡ true = rw i.kind at (r.tasks p a.0).list in
      omega (arith, within_size 64 (task_at s p).list (all_of s.n) w, all_size s.n r.few)

  -- 12 counts the work
  pub done : (task_at s p).line ≢ 11 → times_done 12 (effect_of s p).task ≡ times_done 12 (task_at s p)
  done off =
      by_line (λ e. times_done 12 e.task ≡ times_done 12 (task_at s p)) s p i.valid i.kind a
      (λ l. absurd (off l)) (λ l. rw l (omega arith)) (λ l e. rw l) (λ k l e. rw l) (λ l d. rw l)

  -- how far a task that is t is
  abbrev placed : Task → ℕ
  placed t = t.count * (2 * s.n + 3) + offset_in s.n t

  -- a move that leads on takes the task on by one
  pub own : Leads s p → placed (effect_of s p).task ≡ placed (task_at s p) + 1 + 0
  own =
      by_line (λ e. ((task_at s p).line ≡ 11 → e.task.line ≡ 12) → placed e.task ≡ placed (task_at s p) + 1 + 0) s p i.valid i.kind a
      (λ l to left from most on. rw (l, on l) (omega arith))
      (λ l _. rw l (omega (arith, all_size s.n (range s i.valid).few)))
      (λ l e _. rw (l, e, size_zero) (omega arith))
      (λ k l e _. rw l (omega arith))
      (λ l d _. rw l (omega (arith, size_le, without_size (task_at s p).list (task_at s p).looked ((i.inv.alone p a.0).looked l))))
