-- What the places of `Round` are: within a round, and a move takes its task on by one.
use Rattle.std.specs.Prelude.{◌≡◌, ◌≢◌, ℕ, ◌+◌, ◌*◌, ◌<◌}
use Rattle.std.proofs.Common.{arith}
use Rattle.lines.specs.declared.Task.{Task}
use Rattle.machine.specs.declared.State.{State}
use Rattle.machine.specs.Setters.{task_at}
use Rattle.machine.specs.Turn.{effect_of}
use Rattle.barrier.specs.Barrier.{Able, Holds, Leads, times_done}
use Rattle.ring.specs.Invariant.{Inv}
use Rattle.ring.proofs.Lines.{by_line}
use Rattle.ring.specs.Round.{since}

pub within : (s : State) → Holds 2 Inv s → (q : ℕ) → q < s.n → since (task_at s q) < 5
within s i q h = omega arith

-- how far a task that is t is
abbrev placed : Task → ℕ
placed t = t.count * 5 + since t

module _ (s : State) (p : ℕ) (i : Holds 2 Inv s) (a : Able s p) where
  -- 13 counts the work, and the lines from 12 on lead there
  pub done : (task_at s p).line ≢ 11 → times_done 13 (effect_of s p).task ≡ times_done 13 (task_at s p)
  done off =
      by_line (λ e. times_done 13 e.task ≡ times_done 13 (task_at s p)) s p i.kind a
      (λ l. absurd (off l)) (λ l t. rw l) (λ l. rw l (omega arith)) (λ l t. rw l) (λ l. rw l)

  -- a move that leads on takes the task on by one
  pub own : Leads s p → placed (effect_of s p).task ≡ placed (task_at s p) + 1 + 0
  own =
      by_line (λ e. ((task_at s p).line ≡ 11 → e.task.line ≡ 12) → placed e.task ≡ placed (task_at s p) + 1 + 0) s p i.kind a
      (λ l to left from most on. omega (arith, on l)) (λ l t _. omega arith) (λ l _. omega arith) (λ l t _. omega arith) (λ l _. omega arith)
